-- The values of definitions that are known so far.
use Rattle.std.specs.Prelude.{◌≡◌, ℕ, true, false, List, [], ◌∷◌, ◌++◌, Option, Some, None, Result, Ok, Err, slice_get, ◌==◌, if◌then◌else◌}
use Rattle.omf_format.specs.declared.value.Value.{Value}
use Rattle.omf_format.specs.declared.value.ValueFault.{ValueFault}
use Rattle.link_meaning.specs.Member.{Member}
use Rattle.link_meaning.specs.Search.{FoundDefinition}
use Rattle.link_meaning.specs.Cycles.{is_equate}
use Rattle.link_meaning.specs.LinkValues.{EquateAnswer, place_value, outside_value}
use Rattle.link_values.specs.declared.slots.ValueSlot.{ValueSlot}
use Rattle.link_values.specs.declared.slots.ValueSlot.TheVariants.{Open, Done, Failed}

abbrev pub answer_of : ValueSlot → Option (Result Value ValueFault)
answer_of Open = None
answer_of (Done v) = Some (Ok v)
answer_of (Failed fault) = Some (Err fault)

-- the value, where it is known and isn't a fault
abbrev pub value_of : ValueSlot → Option Value
value_of Open = None
value_of (Done v) = Some v
value_of (Failed fault) = None

-- the row of an equate whose value is known
abbrev pub row_of : FoundDefinition → Option (Result Value ValueFault) → List EquateAnswer
row_of f None = []
row_of f (Some answer) = if is_equate f then record { place = f.place; at = f.definition.at; answer = answer } ∷ [] else []

-- the rows of the equates among definitions whose values are known
abbrev pub rows_of : List FoundDefinition → List ValueSlot → List EquateAnswer
rows_of [] slots = []
rows_of (f ∷ fs) [] = []
rows_of (f ∷ fs) (slot ∷ slots) = row_of f (answer_of slot) ++ rows_of fs slots

-- the value of a name that isn't an equate: its place, in a member or in a run-time library file
abbrev pub label_place : List Member → FoundDefinition → Value
label_place list f = if f.place == 0 then outside_value f else place_value list f.place f.member f.definition.place

-- there is a slot for each of these, and that of a label has its place
abbrev pub AreSlots : List Member → List FoundDefinition → List ValueSlot → Type 0
AreSlots list [] [] = Unit {0}
AreSlots list [] (slot ∷ slots) = ⊥
AreSlots list (f ∷ fs) [] = ⊥
AreSlots list (f ∷ fs) (slot ∷ slots) =
    (is_equate f ≡ false → slot ≡ Done (label_place list f)) × AreSlots list fs slots

-- no two numbers are one equate's
abbrev pub AreOnce : List FoundDefinition → Type 0
AreOnce fs = (i j : ℕ) (e f : FoundDefinition) → slice_get fs i ≡ Some e → slice_get fs j ≡ Some f → is_equate e ≡ true → is_equate f ≡ true
    → e.place ≡ f.place → e.definition.at ≡ f.definition.at → i ≡ j
