-- Which segments the linked cells name, and where the entries of the table lead.
use Rattle.std.proofs.Common.{◌≡◌, ℕ, ℤ, zero, suc, ◌+◌, ◌-◌, ◌≤◌, Bool, true, false, not, eqb, leb, List, [], ◌∷◌, ◌++◌, length, map, filter, Option, Some, None, Result, Ok, Err, refl, sym, ap, subst, ◌∙◌, append_assoc, arith, inl, inr, ◌<◌}
use Rattle.std.specs.Prelude.{◌⊎◌, ◌&&◌, ◌||◌, cond}
use Rattle.std.specs.List.{AllByRecursion, list_any}
use Rattle.std.proofs.lemmas.Bool.{eqb-true, eq-eqb, ne_eqb, leb-false, eqb-false}
use Rattle.std.proofs.lemmas.List.{length-append}
use Rattle.std.proofs.lemmas.Slice.Eq.{bytes_eq-Decides}
use Rattle.byteorder.specs.Endian.{little_bytes}
use Rattle.omf_format.specs.declared.value.Value.{Value}
use Rattle.omf_format.specs.declared.value.Value.TheVariants.{Fixed, At}
use Rattle.omf_format.specs.laws.FieldLaws.{bind_ok, chosen}
use Rattle.omf_format.specs.Record.{Record, End, Const, LongConst, Align, Org, Space, Reloc, InterSeg, ShortReloc, ShortInterSeg, Super, Using, Strong, Label, Equate, Formula, Entry}
use Rattle.load_meaning.specs.Cells.{Cell, Byte, Part, Patch, parts_from}
use Rattle.load_meaning.specs.declared.table.Target.{Target}
use Rattle.load_meaning.specs.Table.{is_same, with_target, entry_place}
use Rattle.link_meaning.specs.declared.fault.LinkCause.{LinkCause}
use Rattle.link_meaning.specs.declared.fault.LinkCause.TheVariants.{DoesNotFit, DynamicReference, OutOfSegment, TooManyEntries}
use Rattle.object_meaning.specs.Sizes.{Located, located_from, records_with_offsets}
use Rattle.omf_format.specs.Number.{padding}
use Rattle.link_meaning.specs.Member.{Member, LinkSetting, setting_in, form_in}
use Rattle.link_meaning.specs.declared.form.LinkForm.TheVariants.{Program, Runtime as LibraryForm}
use Rattle.link_meaning.specs.declared.form.LinkForm.{LinkForm}
use Rattle.link_meaning.specs.Layout.{in_load, load_names, number_in, load_of, load_headers, offset_of}
use Rattle.link_meaning.specs.LinkValues.{EquateAnswer, value_in}
use Rattle.link_meaning.specs.Fitting as fitting
use Rattle.link_meaning.specs.Fitting.{PatchPlace, Fit, Number, Place, place_fit, is_dynamic_load, length_of, call_fit, fit_value, parts, fit_cells, targets_after, value_or_cause, length_outside}
use Rattle.link_meaning.specs.laws.Steps.{distance_fit, length_there, has_room_for, is_far, target_of, number_fit, entry_of, may_call, or_does_not_fit, frame_of, is_call}
use Rattle.link_meaning.specs.LinkedCells.{Item, LinkState, Made, zeros, made_by, made, table_number, items_from, items, cells_before, state_after_item, state_from, state_after, targets, member_cells, cells_from, linked}
use Rattle.link_meaning.specs.LinkWritten.{AreMade, start}
use Rattle.link_meaning.specs.LinkLoadable.{IsLoad, Reaches, OfLoad, OfTable, Names, IsCalled, IsNamed, IsCalledHere, IsCalledThere}
use Rattle.link_meaning.specs.laws.MadeLaws.{FitsPlace, okay, one_made, value_ok, own_file}
use Rattle.link_meaning.specs.laws.LinkedRuns.{item, state_from-append, made-append, state_place, are_below, items_from-append, up_to}

-- ---- what a value becomes

abbrev fine : Fit → Result Fit LinkCause
fine fit = Ok fit

abbrev bad : LinkCause → Result Fit LinkCause
bad cause = Err cause

one_fit : (a b : Fit) → fine a ≡ fine b → a ≡ b
one_fit a b e = cc

not_bad : (cause : LinkCause) (fit : Fit) → bad cause ≡ fine fit → ⊥
not_bad cause fit e = cc

abbrev IfFits : (Fit → Type 0) → Option Fit → Type 0
IfFits Q None = Unit {0}
IfFits Q (Some fit) = Q fit

in_fit : (Q : Fit → Type 0) (o : Option Fit) (fit : Fit) → or_does_not_fit o ≡ Ok fit → IfFits Q o → Q fit
in_fit Q None fit e is = absurd (not_bad DoesNotFit fit e)
in_fit Q (Some other) fit e is = subst Q (one_fit other fit e) is

by_cond : (Q : Fit → Type 0) (b : Bool) (x y : Option Fit) → IfFits Q x → IfFits Q y → IfFits Q (cond b x y)
by_cond Q true x y p q = p
by_cond Q false x y p q = q

number_is : (Q : Fit → Type 0) → ((n : ℕ) → Q (Number n)) → (code count n : ℕ) → IfFits Q (number_fit code count n)
number_is Q all code count n =
    by_cond Q (eqb code 0xEB) (Some (Number n)) _ (all n) (by_cond Q (eqb code 0xEE) None _ tt (by_cond Q _ (Some (Number n)) None (all n) tt))

place_is : (Q : Fit → Type 0) → ((n : ℕ) → Q (Number n)) → (f : PatchPlace) (code count n segment offset : ℕ) (shift : ℤ) → Q (Place segment offset shift) → IfFits Q (place_fit f code count n segment offset shift)
place_is Q all f code count n segment offset shift is =
    by_cond Q (eqb code 0xEB || eqb code 0xF3) (Some (Place segment offset shift)) _ is
    (by_cond Q (eqb code 0xED) _ _ (by_cond Q _ (Some (Place segment offset shift)) None is tt)
    (by_cond Q (eqb code 0xEE) _ None (by_cond Q _ (distance_fit count offset (f.place + n)) None (by_cond Q _ (Some (Number _)) None (all _) tt) tt) tt))

-- what a fit names
abbrev ReachesFit : List Member → ℕ → Fit → Type 0
ReachesFit list own (Number n) = Unit {0}
ReachesFit list own (Place segment offset shift) = IsLoad (length (load_names list)) segment × ((segment ≡ own) ⊎ (is_dynamic_load (load_headers list) segment ≡ false))
ReachesFit list own (fitting.Entry t) = IsCalled list t

may_program : (form : LinkForm) (call : Bool) → not (may_call form && call) ≡ false → form ≡ Program
may_program Program call e = refl
may_program LibraryForm call e = absurd cc

call_reaches : (list : List Member) (own : ℕ) (targets : List Target) (call : Bool) (t : Target) (fit : Fit)
    → (form_in list ≡ Program → t.offset < length_there (load_headers list) (setting_in list) t → IsCalled list t)
    → call_fit (load_headers list) (setting_in list) targets call t ≡ Ok fit → ReachesFit list own fit
call_reaches list own targets call t fit called e = elim (chosen (not (may_call (setting_in list).form && call)) _ _ (fine fit) e) [
  | inl x ↦ absurd (not_bad DynamicReference fit x.1)
  | inr x ↦ elim (chosen (leb (length_there (load_headers list) (setting_in list) t) t.offset) (bad OutOfSegment) (cond (not (has_room_for targets t)) (bad TooManyEntries) (fine (fitting.Entry t))) (fine fit) x.1) [
    | inl y ↦ absurd (not_bad OutOfSegment fit y.1)
    | inr y ↦ elim (chosen (not (has_room_for targets t)) _ _ (fine fit) y.1) [
      | inl z ↦ absurd (not_bad TooManyEntries fit z.1)
      | inr z ↦ subst (ReachesFit list own) (one_fit (fitting.Entry t) fit z.1) (called (may_program (form_in list) call x.0) (leb-false (length_there (load_headers list) (setting_in list) t) t.offset y.0))
    ]
  ]
]

other_dynamic : (a d : Bool) → (not a && d) ≡ true → d ≡ true
other_dynamic true d e = absurd cc
other_dynamic false d e = e

own_or_static : (segment own : ℕ) (d : Bool) → (not (eqb segment own) && d) ≡ false → (segment ≡ own) ⊎ (d ≡ false)
own_or_static segment own d e = by_test (eqb segment own) refl e
  where
    by_test : (b : Bool) → eqb segment own ≡ b → (not b && d) ≡ false → (segment ≡ own) ⊎ (d ≡ false)
    by_test true is e = inl (eqb-true segment own is)
    by_test false is e = inr e

-- a place that is far and may be called
far_called : (list : List Member) (own : ℕ) (t : Target) → IsNamed list t.file t.segment → is_far (load_headers list) own t.file t.segment ≡ true
    → form_in list ≡ Program → t.offset < length_there (load_headers list) (setting_in list) t → IsCalled list t
far_called list own t named far form inside = (form, by_file (eqb t.file 1) refl named)
  where
    there : (b : Bool) → eqb t.file 1 ≡ b → t.offset < cond b (length_of (load_headers list) t.segment) (length_outside (setting_in list) t.file t.segment)
    there b is = subst (λ (c : Bool). t.offset < cond c (length_of (load_headers list) t.segment) (length_outside (setting_in list) t.file t.segment)) is inside

    far_is : (b : Bool) → eqb t.file 1 ≡ b → (not b || (not (eqb t.segment own) && is_dynamic_load (load_headers list) t.segment)) ≡ true
    far_is b is = subst (λ (c : Bool). (not c || (not (eqb t.segment own) && is_dynamic_load (load_headers list) t.segment)) ≡ true) is far

    by_file : (b : Bool) → eqb t.file 1 ≡ b → IsNamed list t.file t.segment → IsCalledHere list t ⊎ IsCalledThere list t
    by_file true is (inl here) = inl (record {
      file' = here.0;
      load = here.1;
      dynamic = other_dynamic (eqb t.segment own) (is_dynamic_load (load_headers list) t.segment) (far_is true is);
      inside = there true is;
    })
    by_file true is (inr beyond) = absurd (omega (arith, eqb-true t.file 1 is, beyond.0))
    by_file false is (inl here) = absurd (eqb-false t.file 1 is here.0)
    by_file false is (inr beyond) = inr (record { file' = beyond; inside = there false is })

-- a place that isn't far is in a load segment of the file itself, its own or a static one
near_load : (list : List Member) (own file segment : ℕ) → IsNamed list file segment → is_far (load_headers list) own file segment ≡ false
    → IsLoad (length (load_names list)) segment × ((segment ≡ own) ⊎ (is_dynamic_load (load_headers list) segment ≡ false))
near_load list own file segment named near =
    let one = own_file file (not (eqb segment own) && is_dynamic_load (load_headers list) segment) near in
    let rest : (not (eqb segment own) && is_dynamic_load (load_headers list) segment) ≡ false =
    sym (ap (λ (n : ℕ). not (eqb n 1) || (not (eqb segment own) && is_dynamic_load (load_headers list) segment)) one) ∙ near in
    (by_kind one named, own_or_static segment own (is_dynamic_load (load_headers list) segment) rest)
  where
    by_kind : file ≡ 1 → IsNamed list file segment → IsLoad (length (load_names list)) segment
    by_kind one (inl here) = here.1
    by_kind one (inr beyond) = absurd (omega (arith, one, beyond.0))

fit_reaches : (list : List Member) (f : PatchPlace) (targets : List Target) (before : List Cell) (code count n : ℕ) (v : Value) (fit : Fit) → fit_value (load_headers list) f targets before code count n v ≡ Ok fit
    → f.setting ≡ setting_in list → FitsPlace (IsNamed list) v → ReachesFit list f.own fit
fit_reaches list f targets before code count n (Fixed k) fit e set is = in_fit (ReachesFit list f.own) (number_fit code count k) fit e (number_is (ReachesFit list f.own) (λ k. tt) code count k)
fit_reaches list f targets before code count n (At file segment offset shift) fit e set is = elim (chosen (is_far (load_headers list) f.own file segment) _ _ (fine fit) e) [
  | inl x ↦ call_reaches list f.own targets (is_call code count shift before) (target_of file segment offset) fit (far_called list f.own (target_of file segment offset) is.1 x.0)
      (subst (λ (s : LinkSetting). call_fit (load_headers list) s targets (is_call code count shift before) (target_of file segment offset) ≡ Ok fit) set x.1)
  | inr x ↦ in_fit (ReachesFit list f.own) (place_fit f code count n segment offset shift) fit x.1
      (place_is (ReachesFit list f.own) (λ k. tt) f code count n segment offset shift (near_load list f.own file segment is.1 x.0))
]

-- ---- cells

abbrev NamesReached : List Member → List Target → ℕ → Cell → Type 0
NamesReached list targets own c = Names (Reaches list targets own) c

-- where no target is lost, what was named still is
keep : (list : List Member) (before after : List Target) (own : ℕ) → (after ≡ [] → before ≡ []) → (cells : List Cell) → AllByRecursion (NamesReached list before own) cells → AllByRecursion (NamesReached list after own) cells
keep list before after own grows [] all = tt
keep list before after own grows (Byte b ∷ cells) all = (tt, keep list before after own grows cells all.1)
keep list before after own grows (Part file segment offset shift index ∷ cells) all = (still all.0, keep list before after own grows cells all.1)
  where
    still : Reaches list before own segment → Reaches list after own segment
    still (OfLoad load near) = OfLoad load near
    still (OfTable is some) = OfTable is (λ none. some (grows none))

pub all-both : {A : Type 0} → (P : A → Type 0) (xs ys : List A) → AllByRecursion P xs → AllByRecursion P ys → AllByRecursion P (xs ++ ys)
all-both P [] ys p q = q
all-both P (x ∷ xs) ys p q = (p.0, all-both P xs ys p.1 q)

byte_names : (P : ℕ → Type 0) (bytes : List ℕ) → AllByRecursion (Names P) (map Byte bytes)
byte_names P [] = tt
byte_names P (b ∷ bytes) = (tt, byte_names P bytes)

zero_names : (P : ℕ → Type 0) (n : ℕ) → AllByRecursion (Names P) (zeros n)
zero_names P zero = tt
zero_names P (suc n) = (tt, zero_names P n)

part_names : (P : ℕ → Type 0) (p : Patch) (index n : ℕ) → P p.segment → AllByRecursion (Names P) (parts_from p index n)
part_names P p index zero is = tt
part_names P p index (suc n) is = (is, part_names P p (index + 1) n is)

-- with a target there is one
some_with : (targets : List Target) (t : Target) → with_target targets t ≡ [] → ⊥
some_with targets t e = by_test (list_any (is_same t) targets) refl e
  where
    none_any : (l : List Target) → list_any (is_same t) l ≡ true → l ≡ [] → ⊥
    none_any [] is none = cc
    none_any (x ∷ l) is none = cc

    not_last : (l : List Target) → l ++ t ∷ [] ≡ [] → ⊥
    not_last [] none = cc
    not_last (x ∷ l) none = cc

    by_test : (b : Bool) → list_any (is_same t) targets ≡ b → cond b targets (targets ++ t ∷ []) ≡ [] → ⊥
    by_test true is none = none_any targets is none
    by_test false is none = not_last targets none

called_with : (list : List Member) (targets : List Target) (t : Target) → AllByRecursion (IsCalled list) targets → IsCalled list t → AllByRecursion (IsCalled list) (with_target targets t)
called_with list targets t all is = by_test (list_any (is_same t) targets)
  where
    by_test : (b : Bool) → AllByRecursion (IsCalled list) (cond b targets (targets ++ t ∷ []))
    by_test true = all
    by_test false = all-both (IsCalled list) targets (t ∷ []) all (is, tt)

-- what a record made: its cells name what they may, so do the targets, and none is lost
pub record Keeps (list : List Member) (own : ℕ) (before : List Target) (x : Made) : Type 0 where
  pub cells' : AllByRecursion (Names (Reaches list x.1 own)) x.0
  pub called : AllByRecursion (IsCalled list) x.1
  pub grows : x.1 ≡ [] → before ≡ []

fit_keeps : (list : List Member) (own count : ℕ) (targets : List Target) (fit : Fit) → AllByRecursion (IsCalled list) targets → ReachesFit list own fit
    → Keeps list own targets (fit_cells (table_number list) count (targets_after targets fit) fit, targets_after targets fit)
fit_keeps list own count targets (Number n) all is = record { cells' = byte_names _ (little_bytes count n); called = all; grows = λ none. none }
fit_keeps list own count targets (Place segment offset shift) all is = record {
  cells' = part_names (Reaches list targets own) (record { location = 0; count = count; file = 1; segment = segment; offset = offset; shift = shift }) 0 count (OfLoad is.0 is.1);
  called = all;
  grows = λ none. none;
}
fit_keeps list own count targets (fitting.Entry t) all is =
    record {
      cells' = part_names (Reaches list (with_target targets t) own) (record { location = 0; count = count; file = 1; segment = table_number list; offset = entry_place (entry_of (with_target targets t) t); shift = ℤ.pos 0 }) 0 count (OfTable refl (some_with targets t));
      called = called_with list targets t all is;
      grows = λ none. absurd (some_with targets t none);
    }

keeps_is : (list : List Member) (own : ℕ) (before : List Target) (a x : Made) → okay a ≡ okay x → Keeps list own before a → Keeps list own before x
keeps_is list own before a x e is = subst (Keeps list own before) (one_made a x e) is

keeps_bytes : (list : List Member) (own : ℕ) (targets : List Target) (cells : List Cell) (x : Made) → AllByRecursion (IsCalled list) targets → AllByRecursion (Names (Reaches list targets own)) cells → okay (cells, targets) ≡ okay x → Keeps list own targets x
keeps_bytes list own targets cells x all names e = keeps_is list own targets (cells, targets) x e (record { cells' = names; called = all; grows = λ none. none })

-- an expression at this record names load segments
abbrev pub ValuesIn : List Member → List EquateAnswer → Item → Type 0
ValuesIn list table i = (text : List ℕ) (v : Value) → value_in list table i.place i.member i.here.location text ≡ Ok v → FitsPlace (IsNamed list) v

made_keeps : (list : List Member) (table : List EquateAnswer) (state : LinkState) (i : Item) (r : Record) (x : Made) → ValuesIn list table i → AllByRecursion (IsCalled list) state.targets → made_by list table state i r ≡ Ok x
    → Keeps list (load_of list i.member) state.targets x
made_keeps list table state i End x in' all e = keeps_bytes list _ state.targets [] x all tt e
made_keeps list table state i (Const bytes) x in' all e = keeps_bytes list _ state.targets (map Byte bytes) x all (byte_names _ bytes) e
made_keeps list table state i (LongConst bytes) x in' all e = keeps_bytes list _ state.targets (map Byte bytes) x all (byte_names _ bytes) e
made_keeps list table state i (Align n) x in' all e = keeps_bytes list _ state.targets (zeros (padding n i.here.location)) x all (zero_names _ (padding n i.here.location)) e
made_keeps list table state i (Org n) x in' all e = keeps_bytes list _ state.targets (zeros n) x all (zero_names _ n) e
made_keeps list table state i (Space n) x in' all e = keeps_bytes list _ state.targets (zeros n) x all (zero_names _ n) e
made_keeps list table state i (Reloc count shift location offset) x in' all e = keeps_bytes list _ state.targets [] x all tt e
made_keeps list table state i (InterSeg count shift location file segment offset) x in' all e = keeps_bytes list _ state.targets [] x all tt e
made_keeps list table state i (ShortReloc count shift location offset) x in' all e = keeps_bytes list _ state.targets [] x all tt e
made_keeps list table state i (ShortInterSeg count shift location segment offset) x in' all e = keeps_bytes list _ state.targets [] x all tt e
made_keeps list table state i (Super form bytes) x in' all e = keeps_bytes list _ state.targets [] x all tt e
made_keeps list table state i (Using name) x in' all e = keeps_bytes list _ state.targets [] x all tt e
made_keeps list table state i (Strong name) x in' all e = keeps_bytes list _ state.targets [] x all tt e
made_keeps list table state i (Label global name size form private) x in' all e = keeps_bytes list _ state.targets [] x all tt e
made_keeps list table state i (Equate global name size form private expr) x in' all e =
    let v = bind_ok (value_or_cause (value_in list table i.place i.member i.here.location expr)) _ x e in
    keeps_bytes list _ state.targets [] x all tt v.2
made_keeps list table state i (Formula code count n expr) x in' all e =
    let v = bind_ok (value_or_cause (value_in list table i.place i.member i.here.location expr)) _ x e in
    let fit = bind_ok (fit_value (load_headers list) (frame_of list i) state.targets (cells_before state i) code count n v.0) _ x v.2 in
    let value = value_ok (value_in list table i.place i.member i.here.location expr) v.0 v.1 in
    let reaches = fit_reaches list (frame_of list i) state.targets (cells_before state i) code count n v.0 fit.0 fit.1 refl (in' expr v.0 value) in
    keeps_is list _ state.targets _ x fit.2 (fit_keeps list (load_of list i.member) count state.targets fit.0 all reaches)
made_keeps list table state i (Entry segment offset name) x in' all e = keeps_bytes list _ state.targets [] x all tt e

-- ---- records one after another

-- what is known after some records: the targets, and the cells of the member at a place
record Reached (list : List Member) (place own : ℕ) (before : List Target) (state : LinkState) : Type 0 where
  called : AllByRecursion (IsCalled list) state.targets
  cells' : AllByRecursion (Names (Reaches list state.targets own)) (cond (eqb state.place place) state.cells [])
  grows : state.targets ≡ [] → before ≡ []

-- one record more of that member
one_more : (list : List Member) (table : List EquateAnswer) (place own : ℕ) (before : List Target) (state : LinkState) (i : Item) (x : Made) → ValuesIn list table i → i.place ≡ place → load_of list i.member ≡ own
    → Reached list place own before state → made list table state i ≡ Ok x → Reached list place own before (state_after_item state i (Ok x))
unfolding made
one_more list table place own before state i x in' at number is e =
    let k = made_keeps list table state i i.here.content x in' is.called e in
    let made' : AllByRecursion (Names (Reaches list x.1 own)) x.0 = subst (λ (n : ℕ). AllByRecursion (Names (Reaches list x.1 n)) x.0) number k.cells' in
    let here : eqb i.place place ≡ true = eq-eqb i.place place at in
    let earlier : AllByRecursion (Names (Reaches list state.targets own)) (cells_before state i) = subst (λ (n : ℕ). AllByRecursion (Names (Reaches list state.targets own)) (cond (eqb state.place n) state.cells [])) (sym at) is.cells' in
    let both = all-both (Names (Reaches list x.1 own)) (cells_before state i) x.0 (keep list state.targets x.1 own k.grows (cells_before state i) earlier) made' in
    record {
      called = k.called;
      cells' = subst (λ (b : Bool). AllByRecursion (Names (Reaches list x.1 own)) (cond b (cells_before state i ++ x.0) [])) (sym here) both;
      grows = λ none. is.grows (k.grows none);
    }

-- these records belong to that member
abbrev AreOf : List Member → List EquateAnswer → ℕ → ℕ → List Item → Type 0
AreOf list table place own is = AllByRecursion (λ (i : Item). (i.place ≡ place) × (load_of list i.member ≡ own) × ValuesIn list table i) is

own_walk : (list : List Member) (table : List EquateAnswer) (place own : ℕ) (before : List Target) (state : LinkState) (is : List Item) → AreMade list table state is → AreOf list table place own is → Reached list place own before state
    → Reached list place own before (state_from list table state is)
own_walk list table place own before state [] are of r = r
own_walk list table place own before state (i ∷ is) are of r =
    let one = one_more list table place own before state i are.0 of.0.2 of.0.0 of.0.1 r are.1 in
    let here : Reached list place own before (state_after_item state i (made list table state i)) = subst (λ (g : Result Made LinkCause). Reached list place own before (state_after_item state i g)) (sym are.1) one in
    own_walk list table place own before (state_after_item state i (made list table state i)) is are.2 of.1 here

-- the targets alone, after records of any members
pub record Called (list : List Member) (before after : List Target) : Type 0 where
  pub called : AllByRecursion (IsCalled list) after
  pub grows : after ≡ [] → before ≡ []

called_walk : (list : List Member) (table : List EquateAnswer) (before : List Target) (state : LinkState) (is : List Item) → AreMade list table state is → AllByRecursion (ValuesIn list table) is → Called list before state.targets
    → Called list before (state_from list table state is).targets
unfolding made
called_walk list table before state [] are in' c = c
called_walk list table before state (i ∷ is) are in' c =
    let k = made_keeps list table state i i.here.content are.0 in'.0 c.called are.1 in
    let next : Called list before (state_after_item state i (Ok are.0)).targets = record { called = k.called; grows = λ none. c.grows (k.grows none) } in
    called_walk list table before (state_after_item state i (made list table state i)) is are.2 in'.1 (subst (λ (g : Result Made LinkCause). Called list before (state_after_item state i g).targets) (sym are.1) next)

-- after a member's records the state has its place
at_place : (list : List Member) (table : List EquateAnswer) (place : ℕ) (state : LinkState) (is : List Item) → state.place ≡ place → AreMade list table state is → AllByRecursion (λ (i : Item). i.place ≡ place) is → (state_from list table state is).place ≡ place
at_place list table place state [] at are of = at
at_place list table place state (i ∷ is) at are of =
    at_place list table place (state_after_item state i (made list table state i)) is (subst (λ (g : Result Made LinkCause). (state_after_item state i g).place ≡ place) (sym are.1) of.0) are.2 of.1

-- ---- members

-- the values of all records name load segments
abbrev pub AllIn : List Member → List EquateAnswer → List Item → Type 0
AllIn list table is = AllByRecursion (ValuesIn list table) is

front-all : {A : Type 0} → (P : A → Type 0) (xs ys : List A) → AllByRecursion P (xs ++ ys) → AllByRecursion P xs
front-all P [] ys all = tt
front-all P (x ∷ xs) ys all = (all.0, front-all P xs ys all.1)

following-all : {A : Type 0} → (P : A → Type 0) (xs ys : List A) → AllByRecursion P (xs ++ ys) → AllByRecursion P ys
following-all P [] ys all = all
following-all P (x ∷ xs) ys all = following-all P xs ys all.1

are_of : (list : List Member) (table : List EquateAnswer) (place : ℕ) (m : Member) (rs : List Located) → AllIn list table (map (item place m) rs) → AreOf list table place (load_of list m) (map (item place m) rs)
are_of list table place m [] all = tt
are_of list table place m (r ∷ rs) all = ((refl, refl, all.0), are_of list table place m rs all.1)

places_of : (place : ℕ) (m : Member) (rs : List Located) → AllByRecursion (λ (i : Item). i.place ≡ place) (map (item place m) rs)
places_of place m [] = tt
places_of place m (r ∷ rs) = (refl, places_of place m rs)

-- where a member's records lie in the whole walk
record Parts (list : List Member) (place : ℕ) (front : List Member) (m : Member) (rest : List Item) : Type 0 where
  whole : items_from 1 list ≡ items_from 1 front ++ (map (item place m) (located_from 0 m.segment.records) ++ rest)
  kept : filter (λ (i : Item). leb i.place place) (items_from 1 list) ≡ items_from 1 front ++ map (item place m) (located_from 0 m.segment.records)

parts_of : (list front : List Member) (m : Member) (back : List Member) → list ≡ front ++ m ∷ back → Parts list (length front + 1) front m (items_from (1 + length front + 1) back)
unfolding records_with_offsets
parts_of list front m back parts = record {
  whole =
      ap (items_from 1) parts ∙ items_from-append 1 front (m ∷ back)
      ∙ ap (λ (k : ℕ). items_from 1 front ++ (map (item k m) (located_from 0 m.segment.records) ++ items_from (1 + length front + 1) back)) (omega arith);
  kept = ap (λ (l : List Member). filter (λ (i : Item). leb i.place (length front + 1)) (items_from 1 l)) parts ∙ up_to front m back;
}

pub member_reaches : (list : List Member) (table : List EquateAnswer) (front : List Member) (m : Member) (back : List Member) → list ≡ front ++ m ∷ back → AreMade list table start (items list) → AllIn list table (items list)
    → (found : ℕ × Record) (founds : List (ℕ × Record)) → m.segment.records ≡ found ∷ founds
    → AllByRecursion (λ c. Names (Reaches list (targets list table) (load_of list m)) c) (member_cells list table (length front + 1) m)
unfolding items state_after targets member_cells
member_reaches list table front m back parts are in' found founds records =
    let n = length front + 1 in
    let own = map (item n m) (located_from 0 m.segment.records) in
    let rest = items_from (1 + length front + 1) back in
    let of : Parts list n front m rest = parts_of list front m back parts in
    let made1 = made-append list table start (items_from 1 front) (own ++ rest) (subst (AreMade list table start) of.whole are) in
    let all1 = subst (AllIn list table) of.whole in' in
    let before = state_from list table start (items_from 1 front) in
    let made2 = made-append list table before own rest made1.1 in
    let all2 = following-all (ValuesIn list table) (items_from 1 front) (own ++ rest) all1 in
    let first = called_walk list table [] start (items_from 1 front) made1.0 (front-all (ValuesIn list table) (items_from 1 front) (own ++ rest) all1) (record { called = tt; grows = λ none. none }) in
    let earlier : before.place ≤ length front = state_place list table start (length front) (items_from 1 front) (omega arith) (are_below (length front) 1 front (omega arith)) in
    let other : eqb before.place n ≡ false = ne_eqb before.place n (λ (e : before.place ≡ n). absurd (omega (arith, e, earlier))) in
    let begun : Reached list n (load_of list m) before.targets before = record {
      called = first.called;
      cells' = subst (λ (b : Bool). AllByRecursion (λ c. Names (Reaches list before.targets (load_of list m)) c) (cond b before.cells [])) (sym other) tt;
      grows = λ none. none;
    } in
    let walked = own_walk list table n (load_of list m) before.targets before own made2.0 (are_of list table n m (located_from 0 m.segment.records) (front-all (ValuesIn list table) own rest all2)) begun in
    let state = state_from list table before own in
    let at : state.place ≡ n = by_records own refl made2.0 (places_of n m (located_from 0 m.segment.records)) in
    let here : AllByRecursion (λ c. Names (Reaches list state.targets (load_of list m)) c) state.cells =
    subst (λ (b : Bool). AllByRecursion (λ c. Names (Reaches list state.targets (load_of list m)) c) (cond b state.cells [])) (eq-eqb state.place n at) walked.cells' in
    let final = called_walk list table state.targets state rest made2.1 (following-all (ValuesIn list table) own rest all2) (record { called = walked.called; grows = λ none. none }) in
    let ends : state_from list table start (items_from 1 list) ≡ state_from list table state rest =
    ap (state_from list table start) of.whole ∙ state_from-append list table start (items_from 1 front) (own ++ rest) ∙ state_from-append list table before own rest in
    let grows : (state_from list table start (items_from 1 list)).targets ≡ [] → state.targets ≡ [] = λ none. final.grows (sym (ap (λ (s : LinkState). s.targets) ends) ∙ none) in
    let cells' : (state_from list table start (filter (λ (i : Item). leb i.place n) (items_from 1 list))).cells ≡ state.cells =
    ap (λ (s : LinkState). s.cells) (ap (state_from list table start) of.kept ∙ state_from-append list table start (items_from 1 front) own) in
    let final_targets = (state_from list table start (items_from 1 list)).targets in
    all-both (λ c. Names (Reaches list final_targets (load_of list m)) c) (state_from list table start (filter (λ (i : Item). leb i.place n) (items_from 1 list))).cells (zeros m.segment.fields.res_spc)
    (subst (λ (l : List Cell). AllByRecursion (λ c. Names (Reaches list final_targets (load_of list m)) c) l) (sym cells') (keep list state.targets final_targets (load_of list m) grows state.cells here))
    (zero_names (Reaches list final_targets (load_of list m)) m.segment.fields.res_spc)
  where
    by_records : (is : List Item) → is ≡ map (item (length front + 1) m) (located_from 0 m.segment.records) → AreMade list table (state_from list table start (items_from 1 front)) is
        → AllByRecursion (λ (i : Item). i.place ≡ length front + 1) is → (state_from list table (state_from list table start (items_from 1 front)) is).place ≡ length front + 1
    by_records [] e are all = absurd (none (ap (λ (l : List (ℕ × Record)). map (item (length front + 1) m) (located_from 0 l)) (sym records) ∙ sym e))
      where
        none : map (item (length front + 1) m) (located_from 0 (found ∷ founds)) ≡ [] → ⊥
        none clash = cc
    by_records (i ∷ is) e are all =
        let before = state_from list table start (items_from 1 front) in
        at_place list table (length front + 1) (state_after_item before i (made list table before i)) is (subst (λ (g : Result Made LinkCause). (state_after_item before i g).place ≡ length front + 1) (sym are.1) all.0) are.2 all.1

-- all targets are called
pub targets_called : (list : List Member) (table : List EquateAnswer) → AreMade list table start (items list) → AllIn list table (items list) → AllByRecursion (IsCalled list) (targets list table)
unfolding targets state_after
targets_called list table are in' = (called_walk list table [] start (items list) are in' (record { called = tt; grows = λ none. none })).called

-- ---- load segments

-- the cells of each member name what they may
abbrev pub MembersReach : List Member → List EquateAnswer → Type 0
MembersReach list table = (front : List Member) (m : Member) (back : List Member) → list ≡ front ++ m ∷ back
    → AllByRecursion (λ c. Names (Reaches list (targets list table) (load_of list m)) c) (member_cells list table (length front + 1) m)

load_number : (list : List Member) (m : Member) (x : List ℕ) → in_load x m ≡ true → load_of list m ≡ number_in (load_names list) x
unfolding load_of
load_number list m x is = ap (number_in (load_names list)) ((bytes_eq-Decides m.segment.fields.load_name x).0 is)

from_reaches : (list : List Member) (table : List EquateAnswer) (x : List ℕ) (front members : List Member) (cells : List Cell) → MembersReach list table → list ≡ front ++ members
    → AllByRecursion (λ c. Names (Reaches list (targets list table) (number_in (load_names list) x)) c) cells
    → AllByRecursion (λ c. Names (Reaches list (targets list table) (number_in (load_names list) x)) c) (cells_from list table x cells (length front + 1) members)
from_reaches list table x front [] cells reach parts all = all
from_reaches list table x front (m ∷ members) cells reach parts all =
    by_test (in_load x m) refl (λ grown good. subst (λ (n : ℕ). AllByRecursion P (cells_from list table x grown n members)) next (from_reaches list table x (front ++ m ∷ []) members grown reach (parts ∙ sym (append_assoc front (m ∷ []) members)) good))
  where
    P : Cell → Type 0
    P c = Names (Reaches list (targets list table) (number_in (load_names list) x)) c

    place : ℕ
    place = length front + 1

    next : length (front ++ m ∷ []) + 1 ≡ place + 1
    next = ap (λ (n : ℕ). n + 1) (length-append front (m ∷ []))

    grown : List Cell
    grown = cells ++ zeros (offset_of list place m - length cells) ++ member_cells list table place m

    by_test : (b : Bool) → in_load x m ≡ b → ((grown : List Cell) → AllByRecursion P grown → AllByRecursion P (cells_from list table x grown (place + 1) members))
        → AllByRecursion P (cells_from list table x (cond b grown cells) (place + 1) members)
    by_test true is go =
        let own = subst (λ (n : ℕ). AllByRecursion (λ c. Names (Reaches list (targets list table) n) c) (member_cells list table place m)) (load_number list m x is) (reach front m members parts) in
        go grown (all-both P (cells ++ zeros (offset_of list place m - length cells)) (member_cells list table place m)
        (all-both P cells (zeros (offset_of list place m - length cells)) all (zero_names _ (offset_of list place m - length cells))) own)
    by_test false is go = go cells all

pub linked_reaches : (list : List Member) (table : List EquateAnswer) (x : List ℕ) → MembersReach list table → AllByRecursion (λ c. Names (Reaches list (targets list table) (number_in (load_names list) x)) c) (linked list table x)
unfolding linked
linked_reaches list table x reach = from_reaches list table x [] list [] reach refl tt
