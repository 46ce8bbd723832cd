-- What the rows say of an equate is what its slot has.
use Rattle.std.proofs.Common.{◌≡◌, ℕ, zero, suc, Bool, true, false, eqb, cond, List, [], ◌∷◌, ◌++◌, Option, Some, None, Result, Ok, Err, refl, sym, ap, ◌∙◌, arith}
use Rattle.std.specs.Prelude.{◌&&◌, slice_get}
use Rattle.std.proofs.lemmas.Bool.{and_parts, and_from, eqb-true, eq-eqb}
use Rattle.omf_format.specs.declared.value.Value.{Value}
use Rattle.omf_format.specs.declared.value.ValueFault.{ValueFault}
use Rattle.omf_format.specs.declared.value.ValueFault.TheVariants.{NotRelocatable}
use Rattle.link_meaning.specs.Member.{Member}
use Rattle.link_meaning.specs.Search.{FoundDefinition}
use Rattle.link_meaning.specs.Cycles.{is_equate}
use Rattle.link_meaning.specs.LinkValues.{EquateAnswer, value_of_definition, found_value, label_value}
use Rattle.link_meaning.specs.laws.Steps.{if_ok, has_expr}
use Rattle.link_values.specs.declared.slots.ValueSlot.{ValueSlot}
use Rattle.link_values.specs.declared.slots.ValueSlot.TheVariants.{Open, Done, Failed}
use Rattle.link_values.specs.Slots.{answer_of, value_of, row_of, rows_of, label_place, AreSlots, AreOnce}
use Rattle.link_program.specs.Finding.{IsFirstOf}

abbrev pub or_open : Option (Result Value ValueFault) → Result Value ValueFault
or_open None = Err NotRelocatable
or_open (Some answer) = answer

some_found : (x y : FoundDefinition) → Some x ≡ Some y → x ≡ y
some_found x y e = cc

some_slot : (x y : ValueSlot) → Some x ≡ Some y → x ≡ y
some_slot x y e = cc

abbrev has_key : FoundDefinition → ℕ → ℕ → Bool
has_key g place at = eqb g.place place && eqb g.definition.at at

-- a row that isn't the equate's is passed over
passed : (g : FoundDefinition) (answer : Option (Result Value ValueFault)) (rows : List EquateAnswer) (place at : ℕ) → (is_equate g ≡ true → has_key g place at ≡ true → ⊥) → value_of_definition (row_of g answer ++ rows) place at ≡ value_of_definition rows place at
passed g None rows place at other = refl
passed g (Some answer) rows place at other = by_test (is_equate g) refl
  where
    by_key : (b : Bool) → has_key g place at ≡ b → is_equate g ≡ true → cond b answer (value_of_definition rows place at) ≡ value_of_definition rows place at
    by_key true key is = absurd (other is key)
    by_key false key is = refl

    by_test : (b : Bool) → is_equate g ≡ b → value_of_definition (cond b (record { place = g.place; at = g.definition.at; answer = answer } ∷ []) [] ++ rows) place at ≡ value_of_definition rows place at
    by_test true is = by_key (has_key g place at) refl is
    by_test false is = refl

absent : (fs : List FoundDefinition) (slots : List ValueSlot) (place at : ℕ) → ((k : ℕ) (h : FoundDefinition) → slice_get fs k ≡ Some h → is_equate h ≡ true → has_key h place at ≡ true → ⊥) → value_of_definition (rows_of fs slots) place at ≡ Err NotRelocatable
absent [] slots place at none = refl
absent (f ∷ fs) [] place at none = refl
absent (f ∷ fs) (slot ∷ slots) place at none =
    passed f (answer_of slot) (rows_of fs slots) place at (none 0 f refl) ∙ absent fs slots place at (λ k h there. none (suc k) h there)

own_row : (f : FoundDefinition) (answer : Option (Result Value ValueFault)) (rows : List EquateAnswer) → is_equate f ≡ true → value_of_definition rows f.place f.definition.at ≡ Err NotRelocatable → value_of_definition (row_of f answer ++ rows) f.place f.definition.at ≡ or_open answer
own_row f None rows is none = none
own_row f (Some answer) rows is none =
    let key : has_key f f.place f.definition.at ≡ true = and_from _ _ (eq-eqb f.place f.place refl) (eq-eqb f.definition.at f.definition.at refl) in
    ap (λ (b : Bool). value_of_definition (cond b (record { place = f.place; at = f.definition.at; answer = answer } ∷ []) [] ++ rows) f.place f.definition.at) is
    ∙ ap (λ (b : Bool). cond b answer (value_of_definition rows f.place f.definition.at)) key

keys : (e : FoundDefinition) (place at : ℕ) → has_key e place at ≡ true → (e.place ≡ place) × (e.definition.at ≡ at)
keys e place at is =
    let both = and_parts (eqb e.place place) (eqb e.definition.at at) is in
    (eqb-true e.place place both.0, eqb-true e.definition.at at both.1)

once_rest : (g : FoundDefinition) (fs : List FoundDefinition) → AreOnce (g ∷ fs) → AreOnce fs
once_rest g fs once i j e f here there p q place at = omega (arith, once (suc i) (suc j) e f here there p q place at)

pub row_views : (fs : List FoundDefinition) (slots : List ValueSlot) (n : ℕ) (f : FoundDefinition) (s : ValueSlot) → AreOnce fs → slice_get fs n ≡ Some f → slice_get slots n ≡ Some s → is_equate f ≡ true
    → value_of_definition (rows_of fs slots) f.place f.definition.at ≡ or_open (answer_of s)
row_views [] slots n f s once here there is = absurd cc
row_views (g ∷ fs) [] n f s once here there is = absurd cc
row_views (g ∷ fs) (t ∷ slots) zero f s once here there is =
    let same : g ≡ f = some_found g f here in
    let slot : t ≡ s = some_slot t s there in
    let none = absent fs slots f.place f.definition.at (λ k h at_k equate key.
    let both = keys h f.place f.definition.at key in
    absurd (omega (arith, once 0 (suc k) f h here at_k is equate (sym both.0) (sym both.1)))) in
    ap (λ (x : FoundDefinition). value_of_definition (row_of x (answer_of t) ++ rows_of fs slots) f.place f.definition.at) same
    ∙ own_row f (answer_of t) (rows_of fs slots) is none
    ∙ ap (λ (x : ValueSlot). or_open (answer_of x)) slot
row_views (g ∷ fs) (t ∷ slots) (suc k) f s once here there is =
    passed g (answer_of t) (rows_of fs slots) f.place f.definition.at (λ equate key.
    let both = keys g f.place f.definition.at key in
    omega (arith, once 0 (suc k) g f refl here equate is both.0 both.1))
    ∙ row_views fs slots k f s (once_rest g fs once) here there is

-- the slot of a label has its place
pub label_slot : (list : List Member) (fs : List FoundDefinition) (slots : List ValueSlot) (n : ℕ) (f : FoundDefinition) (s : ValueSlot) → AreSlots list fs slots → slice_get fs n ≡ Some f → slice_get slots n ≡ Some s → is_equate f ≡ false
    → s ≡ Done (label_place list f)
label_slot list [] slots n f s are here there is = absurd cc
label_slot list (g ∷ fs) [] n f s are here there is = absurd are
label_slot list (g ∷ fs) (t ∷ slots) zero f s are here there is =
    let same : g ≡ f = some_found g f here in
    let slot : t ≡ s = some_slot t s there in
    sym slot ∙ are.0 (ap is_equate same ∙ is) ∙ ap (λ (x : FoundDefinition). Done (label_place list x)) same
label_slot list (g ∷ fs) (t ∷ slots) (suc k) f s are here there is = label_slot list fs slots k f s are.1 here there is

reported_value : (s : ValueSlot) → if_ok (or_open (answer_of s)) ≡ value_of s
reported_value Open = refl
reported_value (Done v) = refl
reported_value (Failed fault) = refl

-- the value of a name that found it
pub found_slot : (list : List Member) (fs : List FoundDefinition) (slots : List ValueSlot) (n : ℕ) (f : FoundDefinition) (s : ValueSlot) → AreOnce fs → AreSlots list fs slots → slice_get fs n ≡ Some f → slice_get slots n ≡ Some s
    → if_ok (found_value list (rows_of fs slots) f) ≡ value_of s
found_slot list fs slots n f s once are here there = by_expr f.definition.expr refl
  where
    by_expr : (x : Option (List ℕ)) → f.definition.expr ≡ x
        → if_ok (elim x as (λ y. Result Value ValueFault) [ None ↦ Ok (label_place list f) | Some text ↦ value_of_definition (rows_of fs slots) f.place f.definition.at ]) ≡ value_of s
    by_expr None is = sym (ap value_of (label_slot list fs slots n f s are here there (ap has_expr is)))
    by_expr (Some text) is = ap if_ok (row_views fs slots n f s once here there (ap has_expr is)) ∙ reported_value s

-- each definition has a slot
pub has_slot : (list : List Member) (fs : List FoundDefinition) (slots : List ValueSlot) (n : ℕ) (f : FoundDefinition) → AreSlots list fs slots → slice_get fs n ≡ Some f → (s : ValueSlot) × (slice_get slots n ≡ Some s)
has_slot list [] slots n f are here = absurd cc
has_slot list (g ∷ fs) [] n f are here = absurd are
has_slot list (g ∷ fs) (t ∷ slots) zero f are here = (t, refl)
has_slot list (g ∷ fs) (t ∷ slots) (suc k) f are here = has_slot list fs slots k f are.1 here

-- the value of a name whose first definition has this number
pub label_is : (list : List Member) (all founds : List FoundDefinition) (slots : List ValueSlot) (n : ℕ) (s : ValueSlot) (weak : Bool) → AreOnce all → AreSlots list all slots → IsFirstOf all founds (Some n) → slice_get slots n ≡ Some s
    → value_of s ≡ label_value list (rows_of all slots) weak founds
label_is list all [] slots n s weak once are first there = absurd first
label_is list all (f ∷ founds) slots n s weak once are first there = sym (found_slot list all slots n f s once are first there)

pub no_label : (list : List Member) (all founds : List FoundDefinition) (slots : List ValueSlot) (n : ℕ) → AreSlots list all slots → IsFirstOf all founds (Some n) → slice_get slots n ≡ None → ⊥
no_label list all [] slots n are first gone = first
no_label list all (f ∷ founds) slots n are first gone =
    let slot = has_slot list all slots n f are first in
    some_none slot.0 (sym slot.1 ∙ gone)
  where
    some_none : (s : ValueSlot) → Some s ≡ None → ⊥
    some_none s e = cc
