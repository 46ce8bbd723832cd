-- What is known of the values of definitions, and which equates lead to which.
use Rattle.std.specs.Prelude.{◌≡◌, ◌⊎◌, ◌+◌, ℕ, true, false, List, [], ◌∷◌, Some, Result, slice_get, slice_set}
use Rattle.omf_format.specs.declared.value.Value.{Value}
use Rattle.omf_format.specs.declared.value.ValueFault.{ValueFault}
use Rattle.link_meaning.specs.declared.fault.LinkFault.{LinkFault}
use Rattle.link_meaning.specs.First.{IsIn, IsFirst}
use Rattle.link_meaning.specs.Member.{Member}
use Rattle.link_meaning.specs.Search.{FoundDefinition, finds}
use Rattle.link_program.specs.Outside.{all_found}
use Rattle.link_meaning.specs.Cycles.{is_equate, equates, LeadsTo}
use Rattle.link_meaning.specs.LinkValues.{IsTable}
use Rattle.link_meaning.specs.EquateValues.{HasValue}
use Rattle.link_meaning.specs.EmitFaults.{HasCycleFault}
use Rattle.link_program.specs.Memory.{memory_fault}
use Rattle.link_values.specs.declared.slots.ValueSlot.{ValueSlot}
use Rattle.link_values.specs.declared.slots.ValueSlot.TheVariants.{Open, Done, Failed}
use Rattle.cycles.specs.Graphs.{row_at}
use Rattle.cycles.specs.Graphs as cycle_order
use Rattle.link_values.specs.Slots.{answer_of, rows_of, label_place}
use Rattle.link_values.specs.Surroundings.{AreKnown}

-- a definition's slot at first: a label has its place, and an equate is open
pub record IsFirstSlot (list : List Member) (f : FoundDefinition) (slot : ValueSlot) : Type 0 where
  pub label : is_equate f ≡ false → slot ≡ Done (label_place list f)
  pub equate : is_equate f ≡ true → slot ≡ Open

abbrev pub AreFirstSlots : List Member → List FoundDefinition → List ValueSlot → Type 0
AreFirstSlots list [] [] = Unit {0}
AreFirstSlots list [] (slot ∷ slots) = ⊥
AreFirstSlots list (f ∷ fs) [] = ⊥
AreFirstSlots list (f ∷ fs) (slot ∷ slots) = IsFirstSlot list f slot × AreFirstSlots list fs slots

-- the slot at a number has no value yet
abbrev pub IsOpen : List ValueSlot → ℕ → Type 0
IsOpen slots k = slice_get slots k ≡ Some Open

-- the slots with another one at a number
abbrev pub with_slot : List ValueSlot → ℕ → ValueSlot → List ValueSlot
with_slot slots k slot = slice_set slots k slot

-- what is in the slots is true
pub record AreTrue (list : List Member) (slots : List ValueSlot) : Type 0 where
  pub known : AreKnown list slots
  pub values : (k : ℕ) (f : FoundDefinition) (slot : ValueSlot) (answer : Result Value ValueFault) → slice_get (all_found list) k ≡ Some f → slice_get slots k ≡ Some slot → is_equate f ≡ true
      → answer_of slot ≡ Some answer → HasValue list f answer

-- the numbers of the equates to which this one leads
pub record IsRow (list : List Member) (e : FoundDefinition) (row : List ℕ) : Type 0 where
  pub sound : (k : ℕ) → cycle_order.IsIn row k → (f : FoundDefinition) × (slice_get (all_found list) k ≡ Some f) × LeadsTo list e f
  pub whole : (f : FoundDefinition) → LeadsTo list e f → (k : ℕ) × cycle_order.IsIn row k × (slice_get (all_found list) k ≡ Some f)

abbrev pub AreRows : List Member → List FoundDefinition → List (List ℕ) → Type 0
AreRows list [] [] = Unit {0}
AreRows list [] (row ∷ rows) = ⊥
AreRows list (f ∷ fs) [] = ⊥
AreRows list (f ∷ fs) (row ∷ rows) = IsRow list f row × AreRows list fs rows

-- no slot is open whose equate leads to none that is
abbrev pub AreSettled : List (List ℕ) → List ValueSlot → Type 0
AreSettled rows slots = (k : ℕ) → IsOpen slots k → (n : ℕ) × cycle_order.IsIn (row_at rows k) n × IsOpen slots n

-- how many slots are open
abbrev pub open_count : List ValueSlot → ℕ
open_count [] = 0
open_count (Open ∷ slots) = open_count slots + 1
open_count (Done v ∷ slots) = open_count slots
open_count (Failed fault ∷ slots) = open_count slots

-- these names, used in a member, find equates with these numbers
pub record NameRow (list : List Member) (place : ℕ) (m : Member) (names : List (List ℕ)) (row : List ℕ) : Type 0 where
  pub sound : (k : ℕ) → cycle_order.IsIn row k → (f : FoundDefinition) × (slice_get (all_found list) k ≡ Some f) × ((name : List ℕ) × IsIn names name × IsIn (finds list place m name) f) × (is_equate f ≡ true)
  pub whole : (f : FoundDefinition) (name : List ℕ) → IsIn names name → IsIn (finds list place m name) f → is_equate f ≡ true → (k : ℕ) × cycle_order.IsIn row k × (slice_get (all_found list) k ≡ Some f)

-- each name finds one thing at most
abbrev pub FindOne : List Member → ℕ → Member → List (List ℕ) → Type 0
FindOne list place m names = (name : List ℕ) (f g : FoundDefinition) → IsIn names name → IsIn (finds list place m name) f → IsIn (finds list place m name) g → f ≡ g

-- the slots have the values of all equates
pub record AreValues (list : List Member) (slots : List ValueSlot) : Type 0 where
  pub known : AreKnown list slots
  pub table : IsTable list (rows_of (all_found list) slots)

-- an equate leads back to itself, and this is the first one's fault, unless out of memory
abbrev pub IsCycleRefused : List Member → LinkFault → Type 0
IsCycleRefused list fault = (fault ≡ memory_fault) ⊎ IsFirst (HasCycleFault list) (equates list) fault
