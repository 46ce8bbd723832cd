-- The cells that a record gives: as many as its size says, bytes and whole places.
use Rattle.std.proofs.Common.{◌≡◌, ℕ, ℤ, pos, zero, suc, ◌+◌, ◌^◌, ◌<◌, ◌≤◌, Bool, true, false, eqb, leb, ltb, List, [], ◌∷◌, ◌++◌, length, map, replicate, Option, Some, None, Result, Ok, Err, refl, sym, ap, subst, ◌∙◌, arith, inl, inr}
use Rattle.std.specs.Prelude.{◌&&◌, ◌||◌, not, cond, IsTrue, unwrap_or, position}
use Rattle.std.specs.List.{flat_map, list_any, AllByRecursion}
use Rattle.std.proofs.lemmas.Bool.{ltb-true, eqb-true}
use Rattle.std.proofs.lemmas.List.{length-append, length-map, length-replicate}
use Rattle.std.proofs.lemmas.List.Concat.{flat_map-cons}
use Rattle.std.proofs.lemmas.List.Quantifiers.{position-Some}
use Rattle.std.proofs.lemmas.Grind.{flat_map-append}
use Rattle.byteorder.specs.Endian.{little_bytes}
use Rattle.byteorder.specs.Numbers.{length-bytes_low_first}
use Rattle.omf_format.specs.declared.value.Value.{Value}
use Rattle.omf_format.specs.declared.value.Value.TheVariants.{Fixed, At}
use Rattle.omf_format.specs.declared.value.ValueFault.{ValueFault}
use Rattle.omf_format.specs.Field.{is_count, is_shift}
use Rattle.omf_format.specs.laws.FieldLaws.{bind_ok, chosen}
use Rattle.omf_format.specs.Record.{Record, End, Const, LongConst, Align, Org, Space, Reloc, InterSeg, ShortReloc, ShortInterSeg, Super, Using, Strong, Label, Equate, Formula, Entry}
use Rattle.omf_format.specs.Header.{HeaderFields}
use Rattle.load_meaning.specs.Cells.{Cell, Byte, Patch, parts_from}
use Rattle.load_meaning.specs.declared.table.Target.{Target}
use Rattle.load_meaning.specs.Table.{is_same, with_target, entry_place}
use Rattle.link_meaning.specs.declared.fault.LinkCause.{LinkCause}
use Rattle.link_meaning.specs.declared.fault.LinkCause.TheVariants.{DoesNotFit, DynamicReference, OutOfSegment, TooManyEntries}
use Rattle.object_meaning.specs.Sizes.{size_at}
use Rattle.omf_format.specs.Number.{padding}
use Rattle.link_meaning.specs.Member.{Member, LinkSetting}
use Rattle.link_meaning.specs.Layout.{load_headers}
use Rattle.link_meaning.specs.LinkValues.{EquateAnswer, value_in}
use Rattle.link_meaning.specs.Fitting as fitting
use Rattle.link_meaning.specs.Fitting.{PatchPlace, Fit, Number, Place, place_fit, is_dynamic_load, call_fit, fit_value, parts, fit_cells, targets_after, value_or_cause}
use Rattle.link_meaning.specs.laws.Steps.{distance_fit, length_there, has_room_for, is_far, target_of, number_fit, entry_of, may_call, or_does_not_fit, frame_of, is_call}
use Rattle.link_meaning.specs.LinkedCells.{Item, LinkState, Made, zeros, made_by, table_number, cells_before}
use Rattle.link_meaning.specs.laws.RunCells.{Piece, One, Whole, cells_of, IsPiece, AreRuns}

-- ---- bytes and whole places

all-append : (xs ys : List Piece) → AllByRecursion IsPiece xs → AllByRecursion IsPiece ys → AllByRecursion IsPiece (xs ++ ys)
all-append [] ys p q = q
all-append (x ∷ xs) ys p q = (p.0, all-append xs ys p.1 q)

pub no_runs : AreRuns []
no_runs = record { pieces = []; each = tt; whole = refl }

pub both_runs : (xs ys : List Cell) → AreRuns xs → AreRuns ys → AreRuns (xs ++ ys)
both_runs xs ys p q = record {
  pieces = p.pieces ++ q.pieces;
  each = all-append p.pieces q.pieces p.each q.each;
  whole = ap (λ (l : List Cell). l ++ ys) p.whole ∙ ap (λ (l : List Cell). flat_map cells_of p.pieces ++ l) q.whole ∙ sym (flat_map-append cells_of p.pieces q.pieces);
}

all_ones : (bytes : List ℕ) → AllByRecursion IsPiece (map One bytes)
all_ones [] = tt
all_ones (b ∷ bytes) = (tt, all_ones bytes)

ones : (bytes : List ℕ) → map Byte bytes ≡ flat_map cells_of (map One bytes)
ones [] = refl
ones (b ∷ bytes) = ap (λ (l : List Cell). Byte b ∷ l) (ones bytes) ∙ sym (flat_map-cons cells_of (One b) (map One bytes))

pub byte_runs : (bytes : List ℕ) → AreRuns (map Byte bytes)
byte_runs bytes = record { pieces = map One bytes; each = all_ones bytes; whole = ones bytes }

map_zeros : (n : ℕ) → map Byte (replicate n 0) ≡ zeros n
map_zeros zero = refl
map_zeros (suc n) = ap (λ (l : List Cell). Byte 0 ∷ l) (map_zeros n)

pub zero_runs : (n : ℕ) → AreRuns (zeros n)
zero_runs n = subst AreRuns (map_zeros n) (byte_runs (replicate n 0))

pub whole_runs : (count segment offset : ℕ) (shift : ℤ) → IsPiece (Whole count segment offset shift) → AreRuns (parts count segment offset shift)
whole_runs count segment offset shift is = record {
  pieces = Whole count segment offset shift ∷ [];
  each = (is, tt);
  whole = sym (flat_map-cons cells_of (Whole count segment offset shift) [] ∙ append-none (parts count segment offset shift));
}
  where
    append-none : (l : List Cell) → l ++ [] ≡ l
    append-none [] = refl
    append-none (c ∷ l) = ap (λ (m : List Cell). c ∷ m) (append-none l)

-- ---- how many cells

pub length-zeros : (n : ℕ) → length (zeros n) ≡ n
length-zeros n = length-replicate n (Byte 0)

length-parts_from : (p : Patch) (index n : ℕ) → length (parts_from p index n) ≡ n
length-parts_from p index zero = refl
length-parts_from p index (suc n) = ap suc (length-parts_from p (index + 1) n)

length-parts : (count segment offset : ℕ) (shift : ℤ) → length (parts count segment offset shift) ≡ count
length-parts count segment offset shift = length-parts_from (record { location = 0; count = count; file = 1; segment = segment; offset = offset; shift = shift }) 0 count

length-bytes : (bytes : List ℕ) → length (map Byte bytes) ≡ length bytes
length-bytes bytes = length-map bytes (λ (b : ℕ). Byte b)

length-fit : (table count : ℕ) (targets : List Target) (fit : Fit) → length (fit_cells table count targets fit) ≡ count
length-fit table count targets (Number n) = length-bytes (little_bytes count n) ∙ length-bytes_low_first 0 count n
length-fit table count targets (Place segment offset shift) = length-parts count segment offset shift
length-fit table count targets (fitting.Entry t) = length-parts count table (entry_place (entry_of targets t)) (pos 0)

abbrev pub okay : Made → Result Made LinkCause
okay x = Ok x

pub one_made : (a b : Made) → okay a ≡ okay b → a ≡ b
one_made a b e = cc

size_is : (a x : Made) (n : ℕ) → okay a ≡ okay x → length a.0 ≡ n → length x.0 ≡ n
size_is a x n e is = ap (λ (y : Made). length y.0) (sym (one_made a x e)) ∙ is

pub length-made : (list : List Member) (table : List EquateAnswer) (state : LinkState) (i : Item) (r : Record) (x : Made) → made_by list table state i r ≡ Ok x → length x.0 ≡ size_at i.here.location r
length-made list table state i End x e = size_is _ x _ e refl
length-made list table state i (Const bytes) x e = size_is _ x _ e (length-bytes bytes)
length-made list table state i (LongConst bytes) x e = size_is _ x _ e (length-bytes bytes)
length-made list table state i (Align n) x e = size_is _ x _ e (length-zeros (padding n i.here.location))
length-made list table state i (Org n) x e = size_is _ x _ e (length-zeros n)
length-made list table state i (Space n) x e = size_is _ x _ e (length-zeros n)
length-made list table state i (Reloc count shift location offset) x e = size_is _ x _ e refl
length-made list table state i (InterSeg count shift location file segment offset) x e = size_is _ x _ e refl
length-made list table state i (ShortReloc count shift location offset) x e = size_is _ x _ e refl
length-made list table state i (ShortInterSeg count shift location segment offset) x e = size_is _ x _ e refl
length-made list table state i (Super form bytes) x e = size_is _ x _ e refl
length-made list table state i (Using name) x e = size_is _ x _ e refl
length-made list table state i (Strong name) x e = size_is _ x _ e refl
length-made list table state i (Label global name size form private) x e = size_is _ x _ e refl
length-made list table state i (Equate global name size form private expr) x e =
    let v = bind_ok (value_or_cause (value_in list table i.place i.member i.here.location expr)) _ x e in
    size_is _ x _ v.2 refl
length-made list table state i (Formula code count n expr) x e =
    let v = bind_ok (value_or_cause (value_in list table i.place i.member i.here.location expr)) _ x e in
    let fit = bind_ok (fit_value (load_headers list) (frame_of list i) state.targets (cells_before state i) code count n v.0) _ x v.2 in
    size_is _ x _ fit.2 (length-fit (table_number list) count (targets_after state.targets fit.0) fit.0)
length-made list table state i (Entry segment offset name) x e = size_is _ x _ e refl

-- ---- what fits

-- a place has a shift and an offset that fit a patch record, and its file and its segment's number are some of these
abbrev pub FitsPlace : (ℕ → ℕ → Type 0) → Value → Type 0
FitsPlace P (Fixed n) = Unit {0}
FitsPlace P (At file segment offset shift) = IsTrue (is_shift shift) × P file segment × (file ≡ 1 → offset < 2 ^ 32)

-- a place fits a patch record
abbrev pub FitsPatch : Value → Type 0
FitsPatch v = FitsPlace (λ (file segment : ℕ). file ≡ 1 → segment < 2 ^ 16) v

abbrev FitsFit : List Target → Fit → Type 0
FitsFit targets (Number n) = Unit {0}
FitsFit targets (Place segment offset shift) = IsTrue (is_shift shift) × (segment < 2 ^ 16) × (offset < 2 ^ 32)
FitsFit targets (fitting.Entry t) = has_room_for targets t ≡ true

abbrev fine : Fit → Result Fit LinkCause
fine fit = Ok fit

abbrev bad : LinkCause → Result Fit LinkCause
bad cause = Err cause

one_fit : (a b : Fit) → fine a ≡ fine b → a ≡ b
one_fit a b e = cc

not_bad : (cause : LinkCause) (fit : Fit) → bad cause ≡ fine fit → ⊥
not_bad cause fit e = cc

abbrev HasFit : List Target → Option Fit → Type 0
HasFit targets None = Unit {0}
HasFit targets (Some fit) = FitsFit targets fit

in_fit : (targets : List Target) (o : Option Fit) (fit : Fit) → or_does_not_fit o ≡ Ok fit → HasFit targets o → FitsFit targets fit
in_fit targets None fit e is = absurd (not_bad DoesNotFit fit e)
in_fit targets (Some other) fit e is = subst (FitsFit targets) (one_fit other fit e) is

by_cond : (targets : List Target) (b : Bool) (x y : Option Fit) → HasFit targets x → HasFit targets y → HasFit targets (cond b x y)
by_cond targets true x y p q = p
by_cond targets false x y p q = q

number_fits : (targets : List Target) (code count n : ℕ) → HasFit targets (number_fit code count n)
number_fits targets code count n =
    by_cond targets (eqb code 0xEB) (Some (Number n)) _ tt (by_cond targets (eqb code 0xEE) None _ tt (by_cond targets (ltb n (256 ^ count)) (Some (Number n)) None tt tt))

place_fits : (targets : List Target) (f : PatchPlace) (code count n segment offset : ℕ) (shift : ℤ) → FitsFit targets (Place segment offset shift) → HasFit targets (place_fit f code count n segment offset shift)
place_fits targets f code count n segment offset shift is =
    by_cond targets (eqb code 0xEB || eqb code 0xF3) (Some (Place segment offset shift)) _ is
    (by_cond targets (eqb code 0xED) _ _ (by_cond targets _ (Some (Place segment offset shift)) None is tt)
    (by_cond targets (eqb code 0xEE) _ None (by_cond targets _ (distance_fit count offset (f.place + n)) None (by_cond targets _ (Some (Number _)) None tt tt) tt) tt))

room : (b : Bool) → not b ≡ false → b ≡ true
room true e = refl
room false e = absurd cc

call_fits : (headers : List HeaderFields) (setting : LinkSetting) (targets : List Target) (call : Bool) (t : Target) (fit : Fit) → call_fit headers setting targets call t ≡ Ok fit → FitsFit targets fit
call_fits headers setting targets call t fit e = elim (chosen (not (may_call setting.form && call)) _ _ (fine fit) e) [
  | inl x ↦ absurd (not_bad DynamicReference fit x.1)
  | inr x ↦ elim (chosen (leb (length_there headers setting t) t.offset) (bad OutOfSegment) (cond (not (has_room_for targets t)) (bad TooManyEntries) (fine (fitting.Entry t))) (fine fit) x.1) [
    | inl y ↦ absurd (not_bad OutOfSegment fit y.1)
    | inr y ↦ elim (chosen (not (has_room_for targets t)) _ _ (fine fit) y.1) [
      | inl z ↦ absurd (not_bad TooManyEntries fit z.1)
      | inr z ↦ subst (FitsFit targets) (one_fit (fitting.Entry t) fit z.1) (room (has_room_for targets t) z.0)
    ]
  ]
]

-- a place that isn't far is in the file itself
pub own_file : (file : ℕ) (d : Bool) → (not (eqb file 1) || d) ≡ false → file ≡ 1
own_file file d e = by_test (eqb file 1) refl e
  where
    by_test : (b : Bool) → eqb file 1 ≡ b → (not b || d) ≡ false → file ≡ 1
    by_test true is e = eqb-true file 1 is
    by_test false is e = absurd cc

fits_fit : (headers : List HeaderFields) (f : PatchPlace) (targets : List Target) (before : List Cell) (code count n : ℕ) (v : Value) (fit : Fit) → fit_value headers f targets before code count n v ≡ Ok fit → FitsPatch v → FitsFit targets fit
fits_fit headers f targets before code count n (Fixed k) fit e is = in_fit targets (number_fit code count k) fit e (number_fits targets code count k)
fits_fit headers f targets before code count n (At file segment offset shift) fit e is = elim (chosen (is_far headers f.own file segment) _ _ (fine fit) e) [
  | inl x ↦ call_fits headers f.setting targets (is_call code count shift before) (target_of file segment offset) fit x.1
  | inr x ↦ in_fit targets (place_fit f code count n segment offset shift) fit x.1 (place_fits targets f code count n segment offset shift (is.0, is.1 (own_file file (not (eqb segment f.own) && is_dynamic_load headers segment) x.0), is.2 (own_file file (not (eqb segment f.own) && is_dynamic_load headers segment) x.0)))
]

-- ---- targets

-- a table has no more targets than it may
abbrev pub Few : List Target → Type 0
Few targets = length targets ≤ 4680

with_few : (targets : List Target) (t : Target) → Few targets → has_room_for targets t ≡ true → Few (with_target targets t)
with_few targets t few fits = by_test (list_any (is_same t) targets) fits
  where
    by_test : (b : Bool) → (b || ltb (length targets) 4680) ≡ true → Few (cond b targets (targets ++ t ∷ []))
    by_test true e = few
    by_test false e = omega (arith, length-append targets (t ∷ []), ltb-true _ _ e)

few_after : (targets : List Target) (fit : Fit) → Few targets → FitsFit targets fit → Few (targets_after targets fit)
few_after targets (Number n) few is = few
few_after targets (Place segment offset shift) few is = few
few_after targets (fitting.Entry t) few is = with_few targets t few is

entry_below : (targets : List Target) (t : Target) → entry_of targets t ≤ length targets
entry_below targets t = by_option (position (is_same t) targets) (λ i e. (position-Some (is_same t) targets i t e).0)
  where
    by_option : (o : Option ℕ) → ((i : ℕ) → o ≡ Some i → i < length targets) → unwrap_or o (length targets) ≤ length targets
    by_option None f = omega arith
    by_option (Some i) f = omega (arith, f i refl)

fit_runs : (table count : ℕ) (targets all : List Target) (fit : Fit) → table < 2 ^ 16 → Few all → is_count count ≡ true → FitsFit targets fit → AreRuns (fit_cells table count all fit)
fit_runs table count targets all (Number n) small few counts is = byte_runs (little_bytes count n)
fit_runs table count targets all (Place segment offset shift) small few counts is = whole_runs count segment offset shift (counts, is.0, is.1, is.2)
fit_runs table count targets all (fitting.Entry t) small few counts is =
    whole_runs count table (entry_place (entry_of all t)) (pos 0) (counts, refl, small, omega (arith, entry_below all t, few))

-- ---- a record

-- what is known of the record: a count is 1 to 4, and where the value of its expression is a place, that fits
abbrev pub IsSoundAt : List Member → List EquateAnswer → Item → Record → Type 0
IsSoundAt list table i End = Unit {0}
IsSoundAt list table i (Const bytes) = Unit {0}
IsSoundAt list table i (LongConst bytes) = Unit {0}
IsSoundAt list table i (Align n) = Unit {0}
IsSoundAt list table i (Org n) = Unit {0}
IsSoundAt list table i (Space n) = Unit {0}
IsSoundAt list table i (Reloc count shift location offset) = Unit {0}
IsSoundAt list table i (InterSeg count shift location file segment offset) = Unit {0}
IsSoundAt list table i (ShortReloc count shift location offset) = Unit {0}
IsSoundAt list table i (ShortInterSeg count shift location segment offset) = Unit {0}
IsSoundAt list table i (Super form bytes) = Unit {0}
IsSoundAt list table i (Using name) = Unit {0}
IsSoundAt list table i (Strong name) = Unit {0}
IsSoundAt list table i (Label global name size form private) = Unit {0}
IsSoundAt list table i (Equate global name size form private expr) = Unit {0}
IsSoundAt list table i (Formula code count n expr) =
    (is_count count ≡ true) × ((v : Value) → value_in list table i.place i.member i.here.location expr ≡ Ok v → FitsPatch v)
IsSoundAt list table i (Entry segment offset name) = Unit {0}

abbrev IsMade : Made → Type 0
IsMade x = AreRuns x.0 × Few x.1

is_made : (a x : Made) → okay a ≡ okay x → IsMade a → IsMade x
is_made a x e is = subst IsMade (one_made a x e) is

abbrev no_value : Value → Result Value LinkCause
no_value v = Ok v

pub value_ok : (r : Result Value ValueFault) (v : Value) → value_or_cause r ≡ Ok v → r ≡ Ok v
value_ok (Ok w) v e = ap okay_value (same w v e)
  where
    okay_value : Value → Result Value ValueFault
    okay_value u = Ok u

    same : (a b : Value) → no_value a ≡ no_value b → a ≡ b
    same a b e = cc
value_ok (Err fault) v e = absurd cc

pub runs-made : (list : List Member) (table : List EquateAnswer) (state : LinkState) (i : Item) (r : Record) (x : Made) → table_number list < 2 ^ 16 → Few state.targets → IsSoundAt list table i r → made_by list table state i r ≡ Ok x
    → AreRuns x.0 × Few x.1
runs-made list table state i End x small few is e = is_made _ x e (no_runs, few)
runs-made list table state i (Const bytes) x small few is e = is_made _ x e (byte_runs bytes, few)
runs-made list table state i (LongConst bytes) x small few is e = is_made _ x e (byte_runs bytes, few)
runs-made list table state i (Align n) x small few is e = is_made _ x e (zero_runs (padding n i.here.location), few)
runs-made list table state i (Org n) x small few is e = is_made _ x e (zero_runs n, few)
runs-made list table state i (Space n) x small few is e = is_made _ x e (zero_runs n, few)
runs-made list table state i (Reloc count shift location offset) x small few is e = is_made _ x e (no_runs, few)
runs-made list table state i (InterSeg count shift location file segment offset) x small few is e = is_made _ x e (no_runs, few)
runs-made list table state i (ShortReloc count shift location offset) x small few is e = is_made _ x e (no_runs, few)
runs-made list table state i (ShortInterSeg count shift location segment offset) x small few is e = is_made _ x e (no_runs, few)
runs-made list table state i (Super form bytes) x small few is e = is_made _ x e (no_runs, few)
runs-made list table state i (Using name) x small few is e = is_made _ x e (no_runs, few)
runs-made list table state i (Strong name) x small few is e = is_made _ x e (no_runs, few)
runs-made list table state i (Label global name size form private) x small few is e = is_made _ x e (no_runs, few)
runs-made list table state i (Equate global name size form private expr) x small few is e =
    let v = bind_ok (value_or_cause (value_in list table i.place i.member i.here.location expr)) _ x e in
    is_made _ x v.2 (no_runs, few)
runs-made list table state i (Formula code count n expr) x small few is e =
    let v = bind_ok (value_or_cause (value_in list table i.place i.member i.here.location expr)) _ x e in
    let fit = bind_ok (fit_value (load_headers list) (frame_of list i) state.targets (cells_before state i) code count n v.0) _ x v.2 in
    let value = value_ok (value_in list table i.place i.member i.here.location expr) v.0 v.1 in
    let fits = fits_fit (load_headers list) (frame_of list i) state.targets (cells_before state i) code count n v.0 fit.0 fit.1 (is.1 v.0 value) in
    let all = few_after state.targets fit.0 few fits in
    is_made _ x fit.2 (fit_runs (table_number list) count state.targets (targets_after state.targets fit.0) fit.0 small all is.0 fits, all)
runs-made list table state i (Entry segment offset name) x small few is e = is_made _ x e (no_runs, few)
