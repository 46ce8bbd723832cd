-- The values of equates, as they become known.
use Rattle.std.proofs.Common.{◌≡◌, ◌⊎◌, inl, inr, ℕ, zero, suc, pos, ◌+◌, ◌^◌, ◌<◌, ◌≤◌, Bool, true, false, cond, eqb, List, [], ◌∷◌, ◌++◌, length, take, Option, Some, None, Result, Ok, Err, refl, sym, ap, subst, ◌∙◌, arith}
use Rattle.std.specs.Prelude.{slice_get, slice_set, option_map, filter}
use Rattle.std.specs.Borrow.{Bor}
use Rattle.std.proofs.lemmas.Bool.{cases_lt, eq-eqb}
use Rattle.omf_format.specs.declared.value.Value.{Value}
use Rattle.omf_format.specs.declared.value.Value.TheVariants.{At}
use Rattle.omf_format.specs.declared.value.ValueFault.{ValueFault}
use Rattle.omf_format.specs.declared.value.ValueFault.TheVariants.{NotRelocatable}
use Rattle.omf_format.specs.Expression.{IsExpression}
use Rattle.link_meaning.specs.Layout.{load_of, offset_of}
use Rattle.link_program.specs.Linked.{member_at}
use Rattle.link_meaning.specs.declared.fault.LinkCause.TheVariants.{Circular}
use Rattle.link_meaning.specs.declared.fault.LinkFault.{LinkFault}
use Rattle.link_meaning.specs.LinkFaults.{spot_in}
use Rattle.link_meaning.specs.First.{IsIn}
use Rattle.link_meaning.specs.laws.MemberLists.{in_filter, filter_in}
use Rattle.link_meaning.specs.Member.{Member}
use Rattle.link_meaning.specs.Search.{FoundDefinition, entries}
use Rattle.link_program.specs.Outside.{all_found}
use Rattle.link_meaning.specs.Cycles.{is_equate, equates, LeadsTo, Path, Last, Through, IsCircular}
use Rattle.link_meaning.specs.laws.Steps.{has_expr}
use Rattle.link_meaning.specs.LinkValues.{EquateAnswer, value_of_definition, outside_value, value_in, equate_value}
use Rattle.link_meaning.specs.laws.TableLaws.{by_cycles}
use Rattle.link_meaning.specs.EquateValues.{HasValue, ByOthers, GiveValues}
use Rattle.link_meaning.specs.laws.EquateValueLaws.{are_table}
use Rattle.link_meaning.specs.laws.EquatePlaces.{apart}
use Rattle.link_program.specs.declared.program.Definition as kept
use Rattle.link_program.specs.Programs.{SymbolView, symbol_of, symbol_view}
use Rattle.link_program.specs.Memory.{memory_fault}
use Rattle.cycles.specs.Graphs as cycle_order
use Rattle.cycles.specs.Graphs.{row_at, Way}
use Rattle.link_values.specs.declared.slots.ValueSlot.{ValueSlot}
use Rattle.link_values.specs.declared.slots.ValueSlot.TheVariants.{Open, Done, Failed}
use Rattle.link_program.specs.OfFiles.{IsOfFiles}
use Rattle.link_values.specs.Slots.{answer_of, row_of, rows_of, label_place, AreSlots, AreOnce}
use Rattle.link_program.specs.declared.member_place.MemberPlace.{MemberPlace}
use Rattle.link_program.specs.MemberPlaces.{IsMemberPlace, MemberPlaceOf}
use Rattle.link_values.specs.Circulars.{IsCircularAt}
use Rattle.link_values.specs.Equates.{IsFirstSlot, AreFirstSlots, IsOpen, AreTrue, IsRow, AreRows, AreSettled, open_count, with_slot, AreValues, IsCycleRefused}
use Rattle.link_values.proofs.SlotLaws.{or_open, row_views, has_slot}
use Rattle.link_values.proofs.AllFound.{found_same, entry_in, outer_at, inside_equate, all_equates}
use Rattle.link_values.proofs.FileFacts.{once_of, entry_at, near_of, place_there, definition_place, spelled_of}

slot_same : (x y : ValueSlot) → Some x ≡ Some y → x ≡ y
slot_same x y e = cc

answer_same : (x y : Result Value ValueFault) → Some x ≡ Some y → x ≡ y
answer_same x y e = cc

true_false : true ≡ false → ⊥
true_false e = cc

-- ---- definitions

pub text_of : (list : List Member) (d : kept.Definition) (f : FoundDefinition) (text : Bor (List ℕ)) → d.expr ≡ Some text → symbol_of d ≡ symbol_view list f → f.definition.expr ≡ Some text.now
text_of list d f text is same = sym (ap (λ (t : SymbolView). t.expr) same) ∙ ap (option_map (λ (x : Bor (List ℕ)). x.now)) is

pub no_text : (list : List Member) (d : kept.Definition) (f : FoundDefinition) → d.expr ≡ None → symbol_of d ≡ symbol_view list f → f.definition.expr ≡ None
no_text list d f is same = sym (ap (λ (t : SymbolView). t.expr) same) ∙ ap (option_map (λ (x : Bor (List ℕ)). x.now)) is

-- a name of a run-time library file has its place as its value
pub outside_reported : (list : List Member) (d : kept.Definition) (f : FoundDefinition) → f.place ≡ 0 → symbol_of d ≡ symbol_view list f → At d.file d.segment d.at (pos 0) ≡ outside_value f
outside_reported list d f none same =
    let zero' : eqb f.place 0 ≡ true = eq-eqb f.place 0 none in
    ap (λ (n : ℕ). At n d.segment d.at (pos 0)) (ap (λ (t : SymbolView). t.file) same ∙ ap (λ (b : Bool). cond b f.member.file 1) zero')
    ∙ ap (λ (n : ℕ). At f.member.file n d.at (pos 0)) (ap (λ (t : SymbolView). t.segment) same ∙ ap (λ (b : Bool). cond b f.member.number (load_of list f.member)) zero')
    ∙ ap (λ (n : ℕ). At f.member.file f.member.number n (pos 0)) (ap (λ (t : SymbolView). t.at) same)

pub first_label : (list : List Member) (f : FoundDefinition) (v : Value) → f.definition.expr ≡ None → v ≡ label_place list f → IsFirstSlot list f (Done v)
first_label list f v is value = record { label = λ none. ap (λ (x : Value). Done x) value; equate = λ e. absurd (true_false (sym e ∙ ap has_expr is)) }

-- one slot more
pub firsts_more : (list : List Member) (fs : List FoundDefinition) (slots : List ValueSlot) (f : FoundDefinition) (slot : ValueSlot) → AreFirstSlots list (take (length slots) fs) slots → slice_get fs (length slots) ≡ Some f → IsFirstSlot list f slot
    → AreFirstSlots list (take (length (slots ++ slot ∷ [])) fs) (slots ++ slot ∷ [])
firsts_more list [] [] f slot are at is = absurd cc
firsts_more list (g ∷ fs) [] f slot are at is = (subst (λ (x : FoundDefinition). IsFirstSlot list x slot) (sym (found_same g f at)) is, none fs)
  where
    none : (xs : List FoundDefinition) → AreFirstSlots list (take 0 xs) []
    none [] = tt
    none (x ∷ xs) = tt
firsts_more list [] (s ∷ slots) f slot are at is = absurd cc
firsts_more list (g ∷ fs) (s ∷ slots) f slot are at is = (are.0, firsts_more list fs slots f slot are.1 at is)

pub first_at : (list : List Member) (fs : List FoundDefinition) (slots : List ValueSlot) (k : ℕ) (f : FoundDefinition) (slot : ValueSlot) → AreFirstSlots list fs slots → slice_get fs k ≡ Some f → slice_get slots k ≡ Some slot → IsFirstSlot list f slot
first_at list [] slots k f slot are at there = absurd cc
first_at list (g ∷ fs) [] k f slot are at there = absurd are
first_at list (g ∷ fs) (s ∷ slots) zero f slot are at there = subst (IsFirstSlot list f) (slot_same s slot there) (subst (λ (x : FoundDefinition). IsFirstSlot list x s) (found_same g f at) are.0)
first_at list (g ∷ fs) (s ∷ slots) (suc k) f slot are at there = first_at list fs slots k f slot are.1 at there

firsts_slots : (list : List Member) (fs : List FoundDefinition) (slots : List ValueSlot) → AreFirstSlots list fs slots → AreSlots list fs slots
firsts_slots list [] [] are = tt
firsts_slots list [] (s ∷ slots) are = are
firsts_slots list (f ∷ fs) [] are = are
firsts_slots list (f ∷ fs) (s ∷ slots) are = (are.0.label, firsts_slots list fs slots are.1)

-- what is there at first is true
pub firsts_true : (list : List Member) (slots : List ValueSlot) → IsOfFiles list → AreFirstSlots list (all_found list) slots → AreTrue list slots
firsts_true list slots of are = record {
  known = record { once = once_of list of; are = firsts_slots list (all_found list) slots are };
  values = λ k f slot answer at there equate is. absurd (no_answer answer (sym is ∙ ap answer_of ((first_at list (all_found list) slots k f slot are at there).equate equate)));
}
  where
    no_answer : (answer : Result Value ValueFault) → Some answer ≡ None → ⊥
    no_answer answer e = cc

pub open_equate : (list : List Member) (fs : List FoundDefinition) (slots : List ValueSlot) (k : ℕ) → AreSlots list fs slots → IsOpen slots k → (f : FoundDefinition) × (slice_get fs k ≡ Some f) × (is_equate f ≡ true)
open_equate list [] [] k are unset = absurd cc
open_equate list [] (s ∷ slots) k are unset = absurd are
open_equate list (f ∷ fs) [] k are unset = absurd cc
open_equate list (f ∷ fs) (s ∷ slots) zero are unset = by_test (is_equate f) refl
  where
    clash : (v : Value) → Open ≡ Done v → ⊥
    clash v e = cc

    by_test : (b : Bool) → is_equate f ≡ b → (g : FoundDefinition) × (slice_get (f ∷ fs) 0 ≡ Some g) × (is_equate g ≡ true)
    by_test true is = (f, refl, is)
    by_test false is = absurd (clash _ (sym (slot_same s Open unset) ∙ are.0 is))
open_equate list (f ∷ fs) (s ∷ slots) (suc k) are unset = open_equate list fs slots k are.1 unset

-- ---- a slot that is set

pub get_set : (slots : List ValueSlot) (k j : ℕ) (slot t : ValueSlot) → slice_get (slice_set slots k slot) j ≡ Some t → ((j ≡ k) × (t ≡ slot)) ⊎ (slice_get slots j ≡ Some t)
get_set [] k j slot t e = inr e
get_set (s ∷ slots) zero zero slot t e = inl (refl, sym (slot_same slot t e))
get_set (s ∷ slots) zero (suc j) slot t e = inr e
get_set (s ∷ slots) (suc k) zero slot t e = inr e
get_set (s ∷ slots) (suc k) (suc j) slot t e = elim (get_set slots k j slot t e) [
  | inl h ↦ inl (ap suc h.0, h.1)
  | inr h ↦ inr h
]

slots_set : (list : List Member) (fs : List FoundDefinition) (slots : List ValueSlot) (k : ℕ) (slot : ValueSlot) → AreSlots list fs slots → ((f : FoundDefinition) → slice_get fs k ≡ Some f → is_equate f ≡ true) → AreSlots list fs (slice_set slots k slot)
slots_set list [] [] k slot are each = tt
slots_set list [] (s ∷ slots) k slot are each = absurd are
slots_set list (f ∷ fs) [] k slot are each = absurd are
slots_set list (f ∷ fs) (s ∷ slots) zero slot are each = ((λ label. absurd (true_false (sym (each f refl) ∙ label))), are.1)
slots_set list (f ∷ fs) (s ∷ slots) (suc k) slot are each = (are.0, slots_set list fs slots k slot are.1 each)

pub true_set : (list : List Member) (slots : List ValueSlot) (k : ℕ) (f : FoundDefinition) (slot : ValueSlot) (answer : Result Value ValueFault) → AreTrue list slots → slice_get (all_found list) k ≡ Some f → is_equate f ≡ true
    → answer_of slot ≡ Some answer → HasValue list f answer → AreTrue list (with_slot slots k slot)
true_set list slots k f slot answer are at equate is has = record {
  known = record { once = are.known.once; are = slots_set list (all_found list) slots k slot are.known.are (λ g there. ap is_equate (found_same g f (sym there ∙ at)) ∙ equate) };
  values = λ j g t a here there e says. by_set j g t a here e says (get_set slots k j slot t there);
}
  where
    by_set : (j : ℕ) (g : FoundDefinition) (t : ValueSlot) (a : Result Value ValueFault) → slice_get (all_found list) j ≡ Some g → is_equate g ≡ true → answer_of t ≡ Some a → ((j ≡ k) × (t ≡ slot)) ⊎ (slice_get slots j ≡ Some t) → HasValue list g a
    by_set j g t a here e says (inl own) =
        let same : g ≡ f = found_same g f (sym here ∙ ap (slice_get (all_found list)) own.0 ∙ at) in
        let reported' : a ≡ answer = answer_same a answer (sym says ∙ ap answer_of own.1 ∙ is) in
        subst (HasValue list g) (sym reported') (subst (λ (x : FoundDefinition). HasValue list x answer) (sym same) has)
    by_set j g t a here e says (inr old) = are.values j g t a here old e says

pub fewer_set : (slots : List ValueSlot) (k : ℕ) (slot : ValueSlot) (answer : Result Value ValueFault) → IsOpen slots k → answer_of slot ≡ Some answer → open_count (with_slot slots k slot) < open_count slots
fewer_set [] k slot answer unset is = absurd cc
fewer_set (s ∷ slots) zero slot answer unset is = by_slot s slot (slot_same s Open unset) is
  where
    no_answer : None ≡ Some answer → ⊥
    no_answer e = cc

    by_slot : (s slot : ValueSlot) → s ≡ Open → answer_of slot ≡ Some answer → open_count (slot ∷ slots) < open_count (s ∷ slots)
    by_slot Open Open e is = absurd (no_answer is)
    by_slot Open (Done v) e is = omega arith
    by_slot Open (Failed fault) e is = omega arith
    by_slot (Done v) slot e is = absurd cc
    by_slot (Failed fault) slot e is = absurd cc
fewer_set (Open ∷ slots) (suc k) slot answer unset is = omega (arith, fewer_set slots k slot answer unset is)
fewer_set (Done v ∷ slots) (suc k) slot answer unset is = fewer_set slots k slot answer unset is
fewer_set (Failed fault ∷ slots) (suc k) slot answer unset is = fewer_set slots k slot answer unset is

-- ---- rows

pub row_is : (list : List Member) (fs : List FoundDefinition) (rows : List (List ℕ)) (k : ℕ) (f : FoundDefinition) → AreRows list fs rows → slice_get fs k ≡ Some f → IsRow list f (row_at rows k)
row_is list [] rows k f are at = absurd cc
row_is list (g ∷ fs) [] k f are at = absurd are
row_is list (g ∷ fs) (row ∷ rows) zero f are at = subst (λ (x : FoundDefinition). IsRow list x row) (found_same g f at) are.0
row_is list (g ∷ fs) (row ∷ rows) (suc k) f are at = row_is list fs rows k f are.1 at

pub rows_size : (list : List Member) (fs : List FoundDefinition) (rows : List (List ℕ)) → AreRows list fs rows → length rows ≡ length fs
rows_size list [] [] are = refl
rows_size list [] (row ∷ rows) are = absurd are
rows_size list (f ∷ fs) [] are = absurd are
rows_size list (f ∷ fs) (row ∷ rows) are = ap suc (rows_size list fs rows are.1)

row_found : (list : List Member) (fs : List FoundDefinition) (rows : List (List ℕ)) (k n : ℕ) → AreRows list fs rows → cycle_order.IsIn (row_at rows k) n → (f : FoundDefinition) × (slice_get fs k ≡ Some f) × IsRow list f (row_at rows k)
row_found list [] [] k n are is = absurd is
row_found list [] (row ∷ rows) k n are is = absurd are
row_found list (f ∷ fs) [] k n are is = absurd are
row_found list (f ∷ fs) (row ∷ rows) zero n are is = (f, refl, are.0)
row_found list (f ∷ fs) (row ∷ rows) (suc k) n are is = row_found list fs rows k n are.1 is

get_within : (fs : List FoundDefinition) (k : ℕ) (f : FoundDefinition) → slice_get fs k ≡ Some f → k < length fs
get_within [] k f e = absurd cc
get_within (g ∷ fs) zero f e = omega arith
get_within (g ∷ fs) (suc k) f e = omega (arith, get_within fs k f e)

pub inside : (list : List Member) (rows : List (List ℕ)) → AreRows list (all_found list) rows → cycle_order.AreInside rows
inside list rows are from to is =
    let row = row_found list (all_found list) rows from to are is in
    let there = row.2.sound to is in
    omega (arith, get_within (all_found list) to there.0 there.1, rows_size list (all_found list) rows are)

pub rows_more : (list : List Member) (fs : List FoundDefinition) (rows : List (List ℕ)) (f : FoundDefinition) (row : List ℕ) → AreRows list (take (length rows) fs) rows → slice_get fs (length rows) ≡ Some f → IsRow list f row
    → AreRows list (take (length (rows ++ row ∷ [])) fs) (rows ++ row ∷ [])
rows_more list [] [] f row are at is = absurd cc
rows_more list (g ∷ fs) [] f row are at is = (subst (λ (x : FoundDefinition). IsRow list x row) (sym (found_same g f at)) is, none fs)
  where
    none : (xs : List FoundDefinition) → AreRows list (take 0 xs) []
    none [] = tt
    none (x ∷ xs) = tt
rows_more list [] (r ∷ rows) f row are at is = absurd cc
rows_more list (g ∷ fs) (r ∷ rows) f row are at is = (are.0, rows_more list fs rows f row are.1 at is)

-- ---- the value of an equate whose leads have theirs

pub value_by : (list : List Member) (rows : List (List ℕ)) (slots : List ValueSlot) (k : ℕ) (f : FoundDefinition) → AreTrue list slots → AreRows list (all_found list) rows → slice_get (all_found list) k ≡ Some f
    → ((n : ℕ) → cycle_order.IsIn (row_at rows k) n → IsOpen slots n → ⊥) → HasValue list f (equate_value list (rows_of (all_found list) slots) f)
value_by list rows slots k f are row at closed = ByOthers f table (equate_value list table f) refl others
  where
    table : List EquateAnswer
    table = rows_of (all_found list) slots

    by_slot : (g : FoundDefinition) (n : ℕ) (s t : ValueSlot) → slice_get (all_found list) n ≡ Some g → is_equate g ≡ true → slice_get slots n ≡ Some s → (s ≡ Open → ⊥) → t ≡ s → HasValue list g (or_open (answer_of t))
    by_slot g n s Open there equate slot shut e = absurd (shut (sym e))
    by_slot g n s (Done v) there equate slot shut e = are.values n g s (Ok v) there slot equate (ap answer_of (sym e))
    by_slot g n s (Failed fault) there equate slot shut e = are.values n g s (Err fault) there slot equate (ap answer_of (sym e))

    others : (g : FoundDefinition) → LeadsTo list f g → HasValue list g (value_of_definition table g.place g.definition.at)
    others g leads =
        let n = (row_is list (all_found list) rows k f row at).whole g leads in
        let s = has_slot list (all_found list) slots n.0 g are.known.are n.2 in
        subst (HasValue list g) (sym (row_views (all_found list) slots n.0 g s.0 are.known.once n.2 s.1 leads.equate))
        (by_slot g n.0 s.0 s.0 n.2 leads.equate s.1 (λ unset. closed n.0 n.1 (s.1 ∙ ap (λ (t : ValueSlot). Some t) unset)) refl)

-- ---- all values

report_rows : (list : List Member) (fs : List FoundDefinition) (slots : List ValueSlot) → AreSlots list fs slots
    → ((k : ℕ) (f : FoundDefinition) (s : ValueSlot) → slice_get fs k ≡ Some f → slice_get slots k ≡ Some s → is_equate f ≡ true → (a : Result Value ValueFault) × (answer_of s ≡ Some a) × HasValue list f a)
    → GiveValues list (filter is_equate fs) (rows_of fs slots)
report_rows list [] [] are each = tt
report_rows list [] (s ∷ slots) are each = absurd are
report_rows list (f ∷ fs) [] are each = absurd are
report_rows list (f ∷ fs) (s ∷ slots) are each = by_test (is_equate f) refl (report_rows list fs slots are.1 (λ k g t there slot equate. each (suc k) g t there slot equate))
  where
    by_test : (b : Bool) → is_equate f ≡ b → GiveValues list (filter is_equate fs) (rows_of fs slots) → GiveValues list (cond b (f ∷ filter is_equate fs) (filter is_equate fs)) (row_of f (answer_of s) ++ rows_of fs slots)
    by_test true is rest =
        let own = each 0 f s refl refl is in
        subst (λ (r : List EquateAnswer). GiveValues list (f ∷ filter is_equate fs) (r ++ rows_of fs slots)) (sym (ap (row_of f) own.1 ∙ ap (λ (b : Bool). cond b (record { place = f.place; at = f.definition.at; answer = own.0 } ∷ []) []) is)) (refl, refl, own.2, rest)
    by_test false is rest = subst (λ (r : List EquateAnswer). GiveValues list (filter is_equate fs) (r ++ rows_of fs slots)) (sym (no_row (answer_of s) is)) rest
      where
        no_row : (o : Option (Result Value ValueFault)) → is_equate f ≡ false → row_of f o ≡ []
        no_row None is = refl
        no_row (Some a) is = ap (λ (b : Bool). cond b (record { place = f.place; at = f.definition.at; answer = a } ∷ []) []) is

-- where no slot is unset they are the values
pub all_valued : (list : List Member) (slots : List ValueSlot) → IsOfFiles list → AreTrue list slots → ((k : ℕ) → IsOpen slots k → ⊥) → AreValues list slots
unfolding equates
all_valued list slots of are closed = record {
  known = are.known;
  table = are_table list (rows_of (all_found list) slots)
      (subst (λ (es : List FoundDefinition). GiveValues list es (rows_of (all_found list) slots)) (all_equates list) (report_rows list (all_found list) slots are.known.are valued))
      (apart of.given list of.bytes of.resolved);
}
  where
    by_slot : (k : ℕ) (f : FoundDefinition) (s t : ValueSlot) → slice_get (all_found list) k ≡ Some f → slice_get slots k ≡ Some s → is_equate f ≡ true → t ≡ s → (a : Result Value ValueFault) × (answer_of t ≡ Some a) × HasValue list f a
    by_slot k f s Open there slot equate e = absurd (closed k (slot ∙ ap (λ (t : ValueSlot). Some t) (sym e)))
    by_slot k f s (Done v) there slot equate e = (Ok v, refl, are.values k f s (Ok v) there slot equate (ap answer_of (sym e)))
    by_slot k f s (Failed fault) there slot equate e = (Err fault, refl, are.values k f s (Err fault) there slot equate (ap answer_of (sym e)))

    valued : (k : ℕ) (f : FoundDefinition) (s : ValueSlot) → slice_get (all_found list) k ≡ Some f → slice_get slots k ≡ Some s → is_equate f ≡ true → (a : Result Value ValueFault) × (answer_of s ≡ Some a) × HasValue list f a
    valued k f s there slot equate = by_slot k f s s there slot equate refl

-- ---- cycles

module _ (list : List Member) (rows : List (List ℕ)) (are : AreRows list (all_found list) rows) where
  -- a way is a path
  path_of : (a b : ℕ) (x y : FoundDefinition) → Way rows a b → slice_get (all_found list) a ≡ Some x → slice_get (all_found list) b ≡ Some y → Path list x y
  path_of a b x y (cycle_order.Last from to is) here there =
      let t = (row_is list (all_found list) rows from x are here).sound to is in
      Last x y (subst (LeadsTo list x) (found_same t.0 y (sym t.1 ∙ there)) t.2)
  path_of a b x y (cycle_order.Through from next to is way) here there =
      let t = (row_is list (all_found list) rows from x are here).sound next is in
      Through x t.0 y t.2 (path_of next to t.0 y way t.1 there)

  -- and a path is a way
  way_of : (a : ℕ) (x y : FoundDefinition) → Path list x y → slice_get (all_found list) a ≡ Some x → (b : ℕ) × (slice_get (all_found list) b ≡ Some y) × Way rows a b
  way_of a x y (Last from to leads) here =
      let n = (row_is list (all_found list) rows a from are here).whole to leads in
      (n.0, n.2, cycle_order.Last a n.0 n.1)
  way_of a x y (Through from next to leads path) here =
      let n = (row_is list (all_found list) rows a from are here).whole next leads in
      let rest = way_of n.0 next to path n.2 in
      (rest.0, rest.1, cycle_order.Through a n.0 rest.0 n.1 rest.2)

  ends_equate : (x y : FoundDefinition) → Path list x y → is_equate y ≡ true
  ends_equate x y (Last from to leads) = leads.equate
  ends_equate x y (Through from next to leads path) = ends_equate next to path

  -- an equate on a cycle of equates lies on one of numbers
  cycle_of : AreOnce (all_found list) → (a : ℕ) (x : FoundDefinition) → IsCircular list x → slice_get (all_found list) a ≡ Some x → cycle_order.IsOnCycle rows a
  cycle_of once a x cycle here =
      let w = way_of a x x cycle here in
      let equate = ends_equate x x cycle in
      subst (Way rows a) (once w.0 a x x w.1 here equate equate refl refl) w.2

  -- a number on a cycle is an equate's
  cycle_there : (a b : ℕ) → Way rows a b → (x : FoundDefinition) × (slice_get (all_found list) b ≡ Some x)
  cycle_there a b (cycle_order.Last from to is) = let t = (row_found list (all_found list) rows from to are is).2.sound to is in (t.0, t.1)
  cycle_there a b (cycle_order.Through from next to is way) = cycle_there next to way

  -- and has a number of a definition
  pub cycle_inside : (n : ℕ) → cycle_order.IsOnCycle rows n → n < length (entries list)
  cycle_inside n cycle =
      let e = cycle_there n n cycle in
      get_within (entries list) n e.0 (inside_equate list n e.0 e.1 (ends_equate e.0 e.0 (path_of n n e.0 e.0 cycle e.1 e.1)))

  -- without cycles no slot stays unset
  pub none_open : (slots : List ValueSlot) → IsOfFiles list → AreTrue list slots → AreSettled rows slots → ((k : ℕ) → k < length rows → cycle_order.IsOnCycle rows k → ⊥) → (k : ℕ) → IsOpen slots k → ⊥
  unfolding equates
  none_open slots of true' settled none k unset =
      let e = open_equate list (all_found list) slots k true'.known.are unset in
      by_cycles list Shut straight step e.0 (filter_in is_equate (entries list) e.0 (entry_in (entries list) k e.0 (inside_equate list k e.0 e.1 e.2)) e.2) k e.1 unset
    where
      Shut : FoundDefinition → Type 0
      Shut f = (n : ℕ) → slice_get (all_found list) n ≡ Some f → IsOpen slots n → ⊥

      straight : (g : FoundDefinition) → IsIn (equates list) g → IsCircular list g → ⊥
      straight g is cycle =
          let at = entry_at (entries list) g (in_filter is_equate (entries list) g is) in
          let there = outer_at list at.0 g at.1 in
          none at.0 (omega (arith, get_within (all_found list) at.0 g there, rows_size list (all_found list) rows are)) (cycle_of true'.known.once at.0 g cycle there)

      step : (g : FoundDefinition) → IsIn (equates list) g → ((f : FoundDefinition) → LeadsTo list g f → Shut f) → Shut g
      step g is go n here unset' =
          let m = settled n unset' in
          let t = (row_is list (all_found list) rows n g are here).sound m.0 m.1 in
          go t.0 t.2 m.0 t.1 m.2

  -- the first number on a cycle is the first equate that leads back to itself
  pub first_circular : (n : ℕ) (fault : LinkFault) → AreOnce (all_found list) → cycle_order.IsOnCycle rows n → ((k : ℕ) → k < n → cycle_order.IsOnCycle rows k → ⊥) → IsCircularAt list n fault → IsCycleRefused list fault
  unfolding equates
  first_circular n fault once cycle none is =
      let e = cycle_there n n cycle in
      let at = inside_equate list n e.0 e.1 (ends_equate e.0 e.0 (path_of n n e.0 e.0 cycle e.1 e.1)) in
      by_fault e.0 at (is e.0 at)
    where
      split_at : (fs : List FoundDefinition) (k : ℕ) (f : FoundDefinition) → slice_get fs k ≡ Some f → (front : List FoundDefinition) × (back : List FoundDefinition) × (fs ≡ front ++ f ∷ back) × (k ≡ length front)
      split_at [] k f e = absurd cc
      split_at (g ∷ fs) zero f e = ([], fs, ap (λ (x : FoundDefinition). x ∷ fs) (found_same g f e), refl)
      split_at (g ∷ fs) (suc k) f e = let rest = split_at fs k f e in (g ∷ rest.0, rest.1, ap (λ (l : List FoundDefinition). g ∷ l) rest.2, ap suc rest.3)

      filter-append : (xs ys : List FoundDefinition) → filter is_equate (xs ++ ys) ≡ filter is_equate xs ++ filter is_equate ys
      filter-append [] ys = refl
      filter-append (x ∷ xs) ys = by_test (is_equate x) (filter-append xs ys)
        where
          by_test : (b : Bool) → filter is_equate (xs ++ ys) ≡ filter is_equate xs ++ filter is_equate ys
              → cond b (x ∷ filter is_equate (xs ++ ys)) (filter is_equate (xs ++ ys)) ≡ cond b (x ∷ filter is_equate xs) (filter is_equate xs) ++ filter is_equate ys
          by_test true rest = ap (λ (l : List FoundDefinition). x ∷ l) rest
          by_test false rest = rest

      in_middle : (front : List FoundDefinition) (x : FoundDefinition) (back : List FoundDefinition) → IsIn (front ++ x ∷ back) x
      in_middle [] x back = inl refl
      in_middle (y ∷ front) x back = inr (in_middle front x back)

      get_front : (xs ys : List FoundDefinition) (k : ℕ) (x : FoundDefinition) → slice_get xs k ≡ Some x → slice_get (xs ++ ys) k ≡ Some x
      get_front [] ys k x e = absurd cc
      get_front (y ∷ xs) ys zero x e = e
      get_front (y ∷ xs) ys (suc k) x e = get_front xs ys k x e

      by_fault : (e : FoundDefinition) → slice_get (entries list) n ≡ Some e → (fault ≡ memory_fault) ⊎ (fault ≡ record { cause = Circular; name = Some e.definition.name; spot = spot_in e.member e.definition.at })
          → IsCycleRefused list fault
      by_fault e at (inl memory) = inl memory
      by_fault e at (inr reported') =
          let there = outer_at list n e at in
          let path = path_of n n e e cycle there there in
          let equate = ends_equate e e path in
          let s = split_at (entries list) n e at in
          let front = filter is_equate s.0 in
          let parts : filter is_equate (entries list) ≡ front ++ e ∷ filter is_equate s.1 =
          ap (filter is_equate) s.2 ∙ filter-append s.0 (e ∷ s.1) ∙ ap (λ (b : Bool). front ++ cond b (e ∷ filter is_equate s.1) (filter is_equate s.1)) equate in
          inr (record {
            before = front;
            item = e;
            after = filter is_equate s.1;
            parts = parts;
            none = λ before other rest its split has.
                let inside' : IsIn front other = subst (λ (l : List FoundDefinition). IsIn l other) (sym split) (in_middle before other rest) in
                let k = entry_at s.0 other (in_filter is_equate s.0 other inside') in
                let own : slice_get (entries list) k.0 ≡ Some other = ap (λ (l : List FoundDefinition). slice_get l k.0) s.2 ∙ get_front s.0 (e ∷ s.1) k.0 other k.1 in
                none k.0 (omega (arith, get_within s.0 k.0 other k.1, s.3)) (cycle_of once k.0 other has.cycle (outer_at list k.0 other own));
            here = record { cycle = path; reported = reported' };
          })

-- ---- where an equate is

pub reported_there : (list : List Member) (k : ℕ) (d : SymbolView) → Some d ≡ option_map (symbol_view list) (slice_get (all_found list) k) → (f : FoundDefinition) × (slice_get (all_found list) k ≡ Some f) × (d ≡ symbol_view list f)
reported_there list k d e = by_found (slice_get (all_found list) k) refl e
  where
    same : (x y : SymbolView) → Some x ≡ Some y → x ≡ y
    same x y e = cc

    by_found : (o : Option FoundDefinition) → slice_get (all_found list) k ≡ o → Some d ≡ option_map (symbol_view list) o → (f : FoundDefinition) × (slice_get (all_found list) k ≡ Some f) × (d ≡ symbol_view list f)
    by_found None is e = absurd cc
    by_found (Some f) is e = (f, is, same d (symbol_view list f) e)

module _ (list : List Member) (of : IsOfFiles list) (k : ℕ) (f : FoundDefinition) (at : slice_get (entries list) k ≡ Some f) (place : ℕ) (place_is : place ≡ f.place) where
  there : member_at list place ≡ Some f.member
  there = ap (member_at list) place_is ∙ place_there list f.place f.member f.definition.place (definition_place list k f at)

  pub no_member_place : MemberPlaceOf list place (member_at list place) None → ⊥
  no_member_place member_place = subst (λ (o : Option Member). MemberPlaceOf list place o None) there member_place

  pub its_member_place : (member_place : MemberPlace) → MemberPlaceOf list place (member_at list place) (Some member_place) → (member_place.place ≡ place) × IsMemberPlace list f.member member_place
  its_member_place member_place is = subst (λ (o : Option Member). MemberPlaceOf list place o (Some member_place)) there is

  pub member_place_near : (member_place : MemberPlace) (here : ℕ) → MemberPlaceOf list place (member_at list place) (Some member_place) → here ≡ f.definition.place → member_place.offset + here < 2 ^ 32
  member_place_near member_place here is here_is =
      let s = its_member_place member_place is in
      let near = near_of list of f.place f.member f.definition.place (definition_place list k f at) in
      let offset : member_place.offset ≡ offset_of list f.place f.member = s.1.offset' ∙ ap (λ (n : ℕ). offset_of list n f.member) (s.0 ∙ place_is) in
      omega (arith, near, offset, here_is)

  pub member_place_spelled : (member_place : MemberPlace) (text : List ℕ) → MemberPlaceOf list place (member_at list place) (Some member_place) → f.definition.expr ≡ Some text → IsExpression member_place.lab_len text
  member_place_spelled member_place text is expr = subst (λ (l : ℕ). IsExpression l text) (sym (its_member_place member_place is).1.lab_len') (spelled_of list of k f text at expr)

  pub equate_worth : (member_place : MemberPlace) (here : ℕ) (text : List ℕ) (table : List EquateAnswer) (r : Result Value ValueFault) → MemberPlaceOf list place (member_at list place) (Some member_place) → here ≡ f.definition.place → f.definition.expr ≡ Some text
      → ((m : Member) → IsMemberPlace list m member_place → r ≡ value_in list table member_place.place m here text) → r ≡ equate_value list table f
  equate_worth member_place here text table r is here_is expr value =
      let s = its_member_place member_place is in
      value f.member s.1
      ∙ ap (λ (n : ℕ). value_in list table n f.member here text) (s.0 ∙ place_is)
      ∙ ap (λ (n : ℕ). value_in list table f.place f.member n text) here_is
      ∙ by_expr f.definition.expr expr
    where
      by_expr : (x : Option (List ℕ)) → x ≡ Some text
          → value_in list table f.place f.member f.definition.place text ≡ elim x as (λ y. Result Value ValueFault) [ None ↦ Err NotRelocatable | Some t ↦ value_in list table f.place f.member f.definition.place t ]
      by_expr None e = absurd cc
      by_expr (Some t) e = let same : text ≡ t = cc in ap (value_in list table f.place f.member f.definition.place) same

-- a definition with a number is one
pub one_found : (list : List Member) (k : ℕ) (f g : FoundDefinition) → slice_get (all_found list) k ≡ Some f → slice_get (all_found list) k ≡ Some g → f ≡ g
one_found list k f g here there = found_same f g (sym here ∙ there)

-- ---- a pass

pub fewer_on : (old new first : List ValueSlot) (b : Bool) → (b ≡ true → open_count old < open_count first) → (b ≡ false → old ≡ first) → open_count new < open_count old → open_count new < open_count first
fewer_on old new first true fewer same less = omega (arith, less, fewer refl)
fewer_on old new first false fewer same less = omega (arith, less, ap open_count (same refl))

pub settled_on : (rows : List (List ℕ)) (old first : List ValueSlot) (number : ℕ) → old ≡ first → ((k : ℕ) → k < number → IsOpen first k → (n : ℕ) × cycle_order.IsIn (row_at rows k) n × IsOpen first n)
    → (IsOpen old number → (n : ℕ) × cycle_order.IsIn (row_at rows number) n × IsOpen old n) → (k : ℕ) → k < number + 1 → IsOpen first k → (n : ℕ) × cycle_order.IsIn (row_at rows k) n × IsOpen first n
settled_on rows old first number same before here k lt unset = by_place (cases_lt k number)
  where
    moved : (k : ℕ) → IsOpen first k → IsOpen old k
    moved k is = subst (λ (l : List ValueSlot). IsOpen l k) (sym same) is

    by_place : (k < number) ⊎ (number ≤ k) → (n : ℕ) × cycle_order.IsIn (row_at rows k) n × IsOpen first n
    by_place (inl less) = before k less unset
    by_place (inr le) =
        let is : k ≡ number = omega (arith, lt, le) in
        let h = here (subst (IsOpen old) is (moved k unset)) in
        (h.0, subst (λ (j : ℕ). cycle_order.IsIn (row_at rows j) h.0) (sym is) h.1, subst (λ (l : List ValueSlot). IsOpen l h.0) same h.2)

pub all_settled : (list : List Member) (rows : List (List ℕ)) (slots first : List ValueSlot) (number : ℕ) → AreRows list (all_found list) rows → AreTrue list slots → slots ≡ first → length rows ≤ number
    → ((k : ℕ) → k < number → IsOpen first k → (n : ℕ) × cycle_order.IsIn (row_at rows k) n × IsOpen first n) → AreSettled rows slots
all_settled list rows slots first number are true' same past each k unset =
    let e = open_equate list (all_found list) slots k true'.known.are unset in
    let h = each k (omega (arith, get_within (all_found list) k e.0 e.1, rows_size list (all_found list) rows are, past)) (subst (λ (l : List ValueSlot). IsOpen l k) same unset) in
    (h.0, h.1, subst (λ (l : List ValueSlot). IsOpen l h.0) (sym same) h.2)
