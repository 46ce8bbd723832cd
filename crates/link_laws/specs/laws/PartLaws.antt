-- Linked cells are of the file, and a place in another file is called.
use Rattle.std.proofs.Common.{◌≡◌, ℕ, ℤ, zero, suc, ◌+◌, ◌-◌, Bool, true, false, not, eqb, leb, cond, List, [], ◌∷◌, ◌++◌, length, map, filter, Result, Ok, Err, refl, sym, subst, inl, inr}
use Rattle.std.specs.Prelude.{◌&&◌}
use Rattle.std.specs.List.{AllByRecursion}
use Rattle.std.proofs.lemmas.Bool.{eqb-true}
use Rattle.omf_format.specs.Field.{◌>>=◌}
use Rattle.omf_format.specs.laws.FieldLaws.{chosen}
use Rattle.omf_format.specs.Header.{HeaderFields}
use Rattle.omf_format.specs.Value.{is_unshifted}
use Rattle.omf_format.specs.Number.{padding}
use Rattle.omf_format.specs.Record.{Record, Const, LongConst, Align, Org, Space, Equate, Formula}
use Rattle.byteorder.specs.Endian.{little_bytes}
use Rattle.load_meaning.specs.Cells.{Cell, Byte, Patch, parts_from}
use Rattle.load_meaning.specs.declared.table.Target.{Target}
use Rattle.load_meaning.specs.Table.{table_bytes, file_entry}
use Rattle.load_meaning.specs.Pathnames.{paths_text}
use Rattle.link_meaning.specs.declared.fault.LinkCause.{LinkCause}
use Rattle.link_meaning.specs.declared.fault.LinkCause.TheVariants.{DynamicReference, OutOfSegment, TooManyEntries}
use Rattle.link_meaning.specs.Member.{Member, RuntimeFile, LinkSetting, setting_in}
use Rattle.link_meaning.specs.Layout.{in_load, load_names, load_headers, offset_of}
use Rattle.link_meaning.specs.LinkValues.{EquateAnswer, value_in}
use Rattle.link_meaning.specs.Fitting as fitting
use Rattle.link_meaning.specs.Fitting.{Fit, Number, Place, call_fit, fit_value, fit_cells, targets_after, parts, ends_in_jsl, value_or_cause}
use Rattle.link_meaning.specs.LinkedCells.{Item, table_number, LinkState, Made, zeros, made_by, made, items, cells_before, state_after_item, state_from, state_after, targets, member_cells, cells_from, linked}
use Rattle.link_meaning.specs.laws.MadeLaws.{own_file}
use Rattle.link_meaning.specs.laws.Steps.{length_there, has_room_for, is_far, may_call, is_call}
use Rattle.link_meaning.specs.LinkWritten.{table_cells, path_cells, linked_cells, start}
use Rattle.link_laws.specs.Parts.{IsOfTheFile, PartsAreOfTheFile, OutsideIsCalled}

abbrev AreOfTheFile : List Cell → Type 0
AreOfTheFile cells = AllByRecursion IsOfTheFile cells

both : {A : Type 0} (P : A → Type 0) (xs ys : List A) → AllByRecursion P xs → AllByRecursion P ys → AllByRecursion P (xs ++ ys)
both P [] ys first second = second
both P (x ∷ xs) ys first second = (first.0, both P xs ys first.1 second)

bytes_are : (bytes : List ℕ) → AreOfTheFile (map Byte bytes)
bytes_are [] = tt
bytes_are (b ∷ bytes) = (tt, bytes_are bytes)

zeros_are : (n : ℕ) → AreOfTheFile (zeros n)
zeros_are zero = tt
zeros_are (suc n) = (tt, zeros_are n)

parts_are : (p : Patch) (index n : ℕ) → p.file ≡ 1 → AreOfTheFile (parts_from p index n)
parts_are p index zero one = tt
parts_are p index (suc n) one = (one, parts_are p (index + 1) n one)

place_is : (count segment offset : ℕ) (shift : ℤ) → AreOfTheFile (parts count segment offset shift)
place_is count segment offset shift = parts_are (record { location = 0; count = count; file = 1; segment = segment; offset = offset; shift = shift }) 0 count refl

fit_is : (table count : ℕ) (targets : List Target) (fit : Fit) → AreOfTheFile (fit_cells table count targets fit)
fit_is table count targets (Number n) = bytes_are (little_bytes count n)
fit_is table count targets (Place segment offset shift) = place_is count segment offset shift
fit_is table count targets (fitting.Entry target) = place_is count table _ (ℤ.pos 0)

-- what a record made is of the file
abbrev MadeIs : Result Made LinkCause → Type 0
MadeIs r = (x : Made) → r ≡ Ok x → AreOfTheFile x.0

okay : (x : Made) → AreOfTheFile x.0 → MadeIs (Ok x)
okay x are y e = subst (λ (z : Made). AreOfTheFile z.0) (same x y e) are
  where
    ok : Made → Result Made LinkCause
    ok z = Ok z

    same : (a b : Made) → ok a ≡ ok b → a ≡ b
    same a b e = cc

after : {A : Type 0} (r : Result A LinkCause) (next : A → Result Made LinkCause) → ((x : A) → MadeIs (next x)) → MadeIs (r >>= next)
after (Ok x) next is = is x
after (Err cause) next is = λ y e. absurd cc

record_is : (list : List Member) (table : List EquateAnswer) (state : LinkState) (i : Item) (r : Record) → MadeIs (made_by list table state i r)
record_is list table state i (Const bytes) = okay (map Byte bytes, state.targets) (bytes_are bytes)
record_is list table state i (LongConst bytes) = okay (map Byte bytes, state.targets) (bytes_are bytes)
record_is list table state i (Align n) = okay (zeros (padding n i.here.location), state.targets) (zeros_are (padding n i.here.location))
record_is list table state i (Org n) = okay (zeros n, state.targets) (zeros_are n)
record_is list table state i (Space n) = okay (zeros n, state.targets) (zeros_are n)
record_is list table state i (Equate global name size form private expr) =
    after (value_or_cause (value_in list table i.place i.member i.here.location expr)) _ (λ v. okay ([], state.targets) tt)
record_is list table state i (Formula code count n expr) =
    after (value_or_cause (value_in list table i.place i.member i.here.location expr)) _ (λ v. after (fit_value (load_headers list) _ state.targets (cells_before state i) code count n v) _
    (λ fit. okay (fit_cells (table_number list) count (targets_after state.targets fit) fit, targets_after state.targets fit) (fit_is (table_number list) count (targets_after state.targets fit) fit)))
record_is list table state i _ = okay ([], state.targets) tt

item_is : (list : List Member) (table : List EquateAnswer) (state : LinkState) (i : Item) → MadeIs (made list table state i)
unfolding made
item_is list table state i = record_is list table state i i.here.content

chosen_is : (b : Bool) (cells : List Cell) → AreOfTheFile cells → AreOfTheFile (cond b cells [])
chosen_is true cells are = are
chosen_is false cells are = tt

state_is : (list : List Member) (table : List EquateAnswer) (state : LinkState) (is : List Item) → AreOfTheFile state.cells → AreOfTheFile (state_from list table state is).cells
state_is list table state [] are = are
state_is list table state (i ∷ is) are =
    state_is list table (state_after_item state i (made list table state i)) is (by_made (made list table state i) (item_is list table state i))
  where
    by_made : (found : Result Made LinkCause) → MadeIs found → AreOfTheFile (state_after_item state i found).cells
    by_made (Err cause) made_is = are
    by_made (Ok x) made_is = both IsOfTheFile (cells_before state i) x.0 (chosen_is (eqb state.place i.place) state.cells are) (made_is x refl)

member_is : (list : List Member) (table : List EquateAnswer) (place : ℕ) (m : Member) → AreOfTheFile (member_cells list table place m)
unfolding member_cells state_after
member_is list table place m =
    both IsOfTheFile (state_after list table (filter (λ i. leb i.place place) (items list))).cells (zeros m.segment.fields.res_spc)
    (state_is list table start (filter (λ i. leb i.place place) (items list)) tt) (zeros_are m.segment.fields.res_spc)

cells_are : (list : List Member) (table : List EquateAnswer) (load_name : List ℕ) (members : List Member) (cells : List Cell) (place : ℕ) → AreOfTheFile cells
    → AreOfTheFile (cells_from list table load_name cells place members)
cells_are list table load_name [] cells place are = are
cells_are list table load_name (m ∷ members) cells place are = cells_are list table load_name members _ (place + 1) (by_test (in_load load_name m))
  where
    by_test : (b : Bool) → AreOfTheFile (cond b (cells ++ zeros (offset_of list place m - length cells) ++ member_cells list table place m) cells)
    by_test true = both IsOfTheFile (cells ++ zeros (offset_of list place m - length cells)) (member_cells list table place m)
        (both IsOfTheFile cells (zeros (offset_of list place m - length cells)) are (zeros_are (offset_of list place m - length cells))) (member_is list table place m)
    by_test false = are

linked_is : (list : List Member) (table : List EquateAnswer) (load_name : List ℕ) → AreOfTheFile (linked list table load_name)
unfolding linked
linked_is list table load_name = cells_are list table load_name list [] 1 tt

loads_are : (list : List Member) (table : List EquateAnswer) (names : List (List ℕ)) → AllByRecursion AreOfTheFile (map (linked list table) names)
loads_are list table [] = tt
loads_are list table (name ∷ names) = (linked_is list table name, loads_are list table names)

table_is : (ts : List Target) → AllByRecursion AreOfTheFile (table_cells ts)
table_is [] = tt
table_is (t ∷ ts) = (bytes_are (table_bytes (map file_entry (t ∷ ts))), tt)

paths_are : (runtimes : List RuntimeFile) → AllByRecursion AreOfTheFile (path_cells runtimes)
paths_are [] = tt
paths_are (r ∷ runtimes) = (bytes_are (paths_text (map (λ one. one.path) (r ∷ runtimes))), tt)

pub parts_are_of_the_file : PartsAreOfTheFile
unfolding linked_cells
parts_are_of_the_file list table =
    both AreOfTheFile (map (linked list table) (load_names list)) (table_cells (targets list table) ++ path_cells (setting_in list).runtimes) (loads_are list table (load_names list))
    (both AreOfTheFile (table_cells (targets list table)) (path_cells (setting_in list).runtimes) (table_is (targets list table)) (paths_are (setting_in list).runtimes))

-- ---- a place in another file

program_calls : (a b : Bool) → not (a && b) ≡ false → b ≡ true
program_calls true true e = refl
program_calls true false e = absurd cc
program_calls false b e = absurd cc

abbrev fine : Fit → Result Fit LinkCause
fine fit = Ok fit

abbrev bad : LinkCause → Result Fit LinkCause
bad cause = Err cause

one_fit : (a b : Fit) → fine a ≡ fine b → a ≡ b
one_fit a b e = cc

not_bad : (cause : LinkCause) (fit : Fit) → bad cause ≡ fine fit → ⊥
not_bad cause fit e = cc

called : (headers : List HeaderFields) (setting : LinkSetting) (targets : List Target) (call : Bool) (t : Target) (fit : Fit)
    → call_fit headers setting targets call t ≡ Ok fit → (fit ≡ fitting.Entry t) × (call ≡ true)
called headers setting targets call t fit e = elim (chosen (not (may_call setting.form && call)) _ _ (fine fit) e) [
  | inl x ↦ absurd (not_bad DynamicReference fit x.1)
  | inr x ↦ elim (chosen (leb (length_there headers setting t) t.offset) (bad OutOfSegment) (cond (not (has_room_for targets t)) (bad TooManyEntries) (fine (fitting.Entry t))) (fine fit) x.1) [
    | inl y ↦ absurd (not_bad OutOfSegment fit y.1)
    | inr y ↦ elim (chosen (not (has_room_for targets t)) _ _ (fine fit) y.1) [
      | inl z ↦ absurd (not_bad TooManyEntries fit z.1)
      | inr z ↦ (sym (one_fit (fitting.Entry t) fit z.1), program_calls (may_call setting.form) call x.0)
    ]
  ]
]

called_parts : (a b c d : Bool) → (a && b && c && d) ≡ true → (a ≡ true) × (b ≡ true) × (c ≡ true) × (d ≡ true)
called_parts true true true true e = (refl, refl, refl, refl)
called_parts true true true false e = absurd cc
called_parts true true false d e = absurd cc
called_parts true false c d e = absurd cc
called_parts false b c d e = absurd cc

pub outside_is_called : OutsideIsCalled
outside_is_called headers f targets before code count n t shift fit outside e = elim (chosen (is_far headers f.own t.file t.segment) _ _ (fine fit) e) [
  | inl far ↦ let is = called headers f.setting targets (is_call code count shift before) t fit far.1 in
      let calls = called_parts (eqb code 0xF3) (eqb count 3) (is_unshifted shift) (ends_in_jsl before) is.1 in
      (is.0, record { record' = eqb-true code 0xF3 calls.0; wide = eqb-true count 3 calls.1; after = calls.3 }, calls.2)
  | inr near ↦ absurd (outside (own_file t.file _ near.0))
]
