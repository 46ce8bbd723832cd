-- What a list exports can be written as ENTRY records.
use Rattle.std.proofs.Common.{◌≡◌, ℕ, zero, suc, ◌+◌, ◌-◌, ◌^◌, ◌<◌, ◌≤◌, Bool, true, false, eqb, ltb, List, [], ◌∷◌, ◌++◌, length, map, take, drop, Option, Some, None, Result, Ok, Err, refl, sym, subst, arith, inl, inr}
use Rattle.link_meaning.specs.laws.Steps.{is_too_long, export_of}
use Rattle.std.specs.Prelude.{◌&&◌, ◌||◌, cond, slice_get}
use Rattle.std.specs.List.{flat_map, AllByRecursion}
use Rattle.std.proofs.lemmas.Bool.{ne_eqb, and_parts, ltb-true, ltb-false}
use Rattle.std.proofs.lemmas.List.{length-take}
use Rattle.std.proofs.lemmas.List.Concat.{flat_map-cons}
use Rattle.omf_format.specs.Number.{number_at}
use Rattle.omf_format.specs.Name.{name_at, without_trailing}
use Rattle.omf_format.specs.laws.FieldLaws.{IsBytes-drop, length-trim}
use Rattle.omf_format.specs.Field.{IsName, length_width_of}
use Rattle.omf_format.specs.Header.{HeaderFields, fields_of, is_private}
use Rattle.byteorder.specs.Numbers.{little_from-lt}
use Rattle.omf_format.specs.Number.{IsBytes}
use Rattle.omf_format.specs.Record.{Record, End, Const, LongConst, Align, Org, Space, Reloc, InterSeg, ShortReloc, ShortInterSeg, Super, Using, Strong, Label, Equate, Formula, Entry, IsRecord}
use Rattle.omf_format.specs.Value.{is_unshifted}
use Rattle.omf_format.specs.declared.value.Value.{Value}
use Rattle.omf_format.specs.declared.value.Value.TheVariants.{Fixed, At}
use Rattle.omf_format.specs.declared.value.ValueFault.{ValueFault}
use Rattle.omf_format.specs.File.{Segment}
use Rattle.load_meaning.specs.WrittenFile.{IsExport}
use Rattle.link_meaning.specs.First.{IsIn}
use Rattle.object_meaning.specs.Sizes.{Located, size_at, located_from, records_with_offsets}
use Rattle.link_meaning.specs.Member.{Member}
use Rattle.object_meaning.specs.Defines.{outer_scope, Scope, ForSegment, ForUnit, ForAll, Definition, title_of, defined_by, defined_in}
use Rattle.link_meaning.specs.Search.{FoundDefinition, entries_from, entries}
use Rattle.link_meaning.specs.Layout.{load_headers}
use Rattle.link_meaning.specs.LinkValues.{EquateAnswer, found_value}
use Rattle.link_meaning.specs.Fitting.{load_header, length_of}
use Rattle.link_meaning.specs.LinkWritten.{export_at, exports}
use Rattle.link_meaning.specs.laws.ReadMembers.{IsRead, read_records}

-- ---- names

-- a name that an ENTRY record can have
abbrev IsShort : List ℕ → Type 0
IsShort name = (1 ≤ length name) × (length name ≤ 255)

abbrev HasShort : Definition → Type 0
HasShort d = IsShort d.name

short_name : (lab_len : ℕ) (name : List ℕ) → lab_len ≤ 255 → IsName lab_len name → IsShort name
short_name zero name small is = is
short_name (suc n) name small is = (is.0, omega (arith, is.1, small))

by_record : (lab_len width at place : ℕ) (r : Record) → lab_len ≤ 255 → IsRecord (record { lab_len = lab_len; length_width = width }) r → AllByRecursion HasShort (defined_by at place r)
by_record l w at place End small is = tt
by_record l w at place (Const bytes) small is = tt
by_record l w at place (LongConst bytes) small is = tt
by_record l w at place (Align n) small is = tt
by_record l w at place (Org n) small is = tt
by_record l w at place (Space n) small is = tt
by_record l w at place (Reloc count shift location offset) small is = tt
by_record l w at place (InterSeg count shift location file segment offset) small is = tt
by_record l w at place (ShortReloc count shift location offset) small is = tt
by_record l w at place (ShortInterSeg count shift location segment offset) small is = tt
by_record l w at place (Super form bytes) small is = tt
by_record l w at place (Using name) small is = tt
by_record l w at place (Strong name) small is = tt
by_record l w at place (Label global name size form private) small is = (short_name l name small is.0, tt)
by_record l w at place (Equate global name size form private expr) small is = (short_name l name small is.0, tt)
by_record l w at place (Formula code count n expr) small is = tt
by_record l w at place (Entry segment offset name) small is = tt

all-append : {A : Type 0} (P : A → Type 0) (xs ys : List A) → AllByRecursion P xs → AllByRecursion P ys → AllByRecursion P (xs ++ ys)
all-append P [] ys p q = q
all-append P (x ∷ xs) ys p q = (p.0, all-append P xs ys p.1 q)

by_records : (lab_len width loc : ℕ) (founds : List (ℕ × Record)) → lab_len ≤ 255 → AllByRecursion (λ found. IsRecord (record { lab_len = lab_len; length_width = width }) found.1) founds
    → AllByRecursion HasShort (flat_map (λ (r : Located). defined_by r.at r.location r.content) (located_from loc founds))
by_records l w loc [] small all = tt
by_records l w loc (found ∷ founds) small all =
    let r : Located = record { at = found.0; location = loc; content = found.1 } in
    let rest = located_from (loc + size_at loc found.1) founds in
    subst (AllByRecursion HasShort) (sym (flat_map-cons (λ (x : Located). defined_by x.at x.location x.content) r rest))
    (all-append HasShort (defined_by found.0 loc found.1) (flat_map (λ (x : Located). defined_by x.at x.location x.content) rest) (by_record l w found.0 loc found.1 small all.0) (by_records l w (loc + size_at loc found.1) founds small all.1))

-- ---- the names that a segment defines

-- a number of one byte is a byte
byte_lt : (at : ℕ) (bytes : List ℕ) → IsBytes bytes → number_at 1 at bytes ≤ 255
unfolding number_at
byte_lt at bytes fits = omega (arith, little_from-lt 0 1 (drop at bytes) (IsBytes-drop at bytes fits))

name_short : (l at : ℕ) (bytes : List ℕ) → l ≤ 255 → IsBytes bytes → length (name_at l at bytes) ≤ 255
unfolding name_at
name_short zero at bytes small fits = omega (arith, length-take (number_at 1 at bytes) (drop (at + 1) bytes), byte_lt at bytes fits)
name_short (suc n) at bytes small fits =
    let some : eqb (suc n) 0 ≡ false = ne_eqb _ _ (λ e. absurd (omega arith)) in
    let front = take (suc n) (drop at bytes) in
    let small' : length (without_trailing 32 front) ≤ 255 = omega (arith, small, length-trim 32 front, length-take (suc n) (drop at bytes)) in
    rw some small'

abbrev AreShort : HeaderFields → Type 0
AreShort f = (length f.name ≤ 255) × (f.lab_len ≤ 255)

fields_short : (bytes : List ℕ) → IsBytes bytes → AreShort (fields_of bytes)
unfolding fields_of
fields_short bytes fits = let l = byte_lt 0x0D bytes fits in (name_short (number_at 1 0x0D bytes) (number_at 2 0x28 bytes + 10) bytes l fits, l)

segment_short : (s : Segment) → IsRead s → AreShort s.fields
segment_short s read = subst AreShort (sym read.is.header.fields) (fields_short (drop s.start read.file) (IsBytes-drop s.start read.file read.bytes))

title_short : (s : Segment) → length s.fields.name ≤ 255 → AllByRecursion HasShort (title_of s)
unfolding title_of
title_short s small = by_name s.fields.name small
  where
    by_name : (name : List ℕ) → length name ≤ 255 → AllByRecursion HasShort (elim name as (λ n. List Definition) [
      | [] ↦ []
      | b ∷ bs ↦ record { name = b ∷ bs; scope = outer_scope (is_private s.fields.kind); place = 0; at = s.start; expr = None; size = 0; form = 0x4E } ∷ []
    ])
    by_name [] fits = tt
    by_name (b ∷ bs) fits = ((omega arith, fits), tt)

defined_short : (s : Segment) → IsRead s → AllByRecursion HasShort (defined_in s)
unfolding defined_in records_with_offsets
defined_short s read =
    let short = segment_short s read in
    all-append HasShort (title_of s) (flat_map (λ (r : Located). defined_by r.at r.location r.content) (located_from 0 s.records)) (title_short s short.0)
    (by_records s.fields.lab_len (length_width_of s.fields.version) 0 s.records short.1 (read_records s read))

abbrev HasShortName : FoundDefinition → Type 0
HasShortName f = HasShort f.definition

all_found : (place : ℕ) (m : Member) (ds : List Definition) → AllByRecursion HasShort ds → AllByRecursion HasShortName (map (λ d. record { place = place; member = m; definition = d }) ds)
all_found place m [] all = tt
all_found place m (d ∷ ds) all = (all.0, all_found place m ds all.1)

entries_short : (place : ℕ) (members : List Member) → ((m : Member) → IsIn members m → IsRead m.segment) → AllByRecursion HasShortName (entries_from defined_in place members)
entries_short place [] read = tt
entries_short place (m ∷ members) read =
    all-append HasShortName (map (λ d. record { place = place; member = m; definition = d }) (defined_in m.segment)) (entries_from defined_in (place + 1) members)
    (all_found place m (defined_in m.segment) (defined_short m.segment (read m (inl refl)))) (entries_short (place + 1) members (λ x is. read x (inr is)))

-- ---- what is exported

within : {A : Type 0} (xs : List A) (k : ℕ) (x : A) → slice_get xs k ≡ Some x → k < length xs
within [] k x e = absurd cc
within (y ∷ ys) zero x e = omega arith
within (y ∷ ys) (suc k) x e = omega (arith, within ys k x e)

all_at : {A : Type 0} (P : A → Type 0) (xs : List A) (k : ℕ) (x : A) → AllByRecursion P xs → slice_get xs k ≡ Some x → P x
all_at P [] k x all e = absurd cc
all_at {A} P (y ∷ xs) zero x all e = subst P (same y x e) all.0
  where
    same : (y x : A) → Some y ≡ Some x → y ≡ x
    same y x e = cc
all_at P (y ∷ xs) (suc k) x all e = all_at P xs k x all.1 e

short_length : (f : HeaderFields) → is_too_long f ≡ false → f.length ≤ 0xFFFFFF
short_length f e = ltb-false 0xFFFFFF f.length (left _ _ e)
  where
    left : (a b : Bool) → (a || b) ≡ false → a ≡ false
    left true b e = absurd cc
    left false b e = refl

-- a load segment with a place in it has a number of a byte, and the place fits
inside : (headers : List HeaderFields) (segment offset : ℕ) → length headers ≤ 254 → AllByRecursion (λ f. is_too_long f ≡ false) headers → offset < length_of headers segment → (segment < 2 ^ 16) × (offset < 2 ^ 32)
inside headers segment offset few short below = by_header (load_header headers segment) refl below
  where
    by_header : (o : Option HeaderFields) → load_header headers segment ≡ o → offset < elim o as (λ x. ℕ) [ None ↦ 0 | Some f ↦ f.length ] → (segment < 2 ^ 16) × (offset < 2 ^ 32)
    by_header None e below = absurd (omega (arith, below))
    by_header (Some f) e below = (omega (arith, few, within headers (segment - 1) f e), omega (arith, below, short_length f (all_at (λ g. is_too_long g ≡ false) headers (segment - 1) f short e)))

at_fits : (headers : List HeaderFields) (name : List ℕ) (r : Result Value ValueFault) → length headers ≤ 254 → AllByRecursion (λ f. is_too_long f ≡ false) headers → IsShort name → AllByRecursion IsExport (export_at headers name r)
at_fits headers name (Ok (Fixed n)) few short is = tt
at_fits headers name (Ok (At file segment offset shift)) few short is = by_test (is_unshifted shift && ltb offset (length_of headers segment)) refl
  where
    by_test : (b : Bool) → (is_unshifted shift && ltb offset (length_of headers segment)) ≡ b → AllByRecursion IsExport (cond b (Entry segment offset name ∷ []) [])
    by_test false e = tt
    by_test true e =
        let fits = inside headers segment offset few short (ltb-true _ _ (and_parts _ _ e).1) in
        ((fits.0, fits.1, is), tt)
at_fits headers name (Err fault) few short is = tt

one_fits : (list : List Member) (table : List EquateAnswer) (f : FoundDefinition) → length (load_headers list) ≤ 254 → AllByRecursion (λ g. is_too_long g ≡ false) (load_headers list) → HasShortName f → AllByRecursion IsExport (export_of list table f)
one_fits list table f few short is = by_scope f.definition.scope
  where
    by_scope : (scope : Scope) → AllByRecursion IsExport (elim scope as (λ x. List Record) [
      | ForSegment ↦ []
      | ForUnit ↦ []
      | ForAll ↦ export_at (load_headers list) f.definition.name (found_value list table f)
    ])
    by_scope ForSegment = tt
    by_scope ForUnit = tt
    by_scope ForAll = at_fits (load_headers list) f.definition.name (found_value list table f) few short is

all_fit : (list : List Member) (table : List EquateAnswer) (fs : List FoundDefinition) → length (load_headers list) ≤ 254 → AllByRecursion (λ g. is_too_long g ≡ false) (load_headers list) → AllByRecursion HasShortName fs → AllByRecursion IsExport (flat_map (export_of list table) fs)
all_fit list table [] few short all = tt
all_fit list table (f ∷ fs) few short all =
    subst (AllByRecursion IsExport) (sym (flat_map-cons (export_of list table) f fs))
    (all-append IsExport (export_of list table f) (flat_map (export_of list table) fs) (one_fits list table f few short all.0) (all_fit list table fs few short all.1))

pub exports_fit : (list : List Member) (table : List EquateAnswer) → ((m : Member) → IsIn list m → IsRead m.segment) → length (load_headers list) ≤ 254 → AllByRecursion (λ f. is_too_long f ≡ false) (load_headers list) → AllByRecursion IsExport (exports list table)
unfolding exports entries
exports_fit list table read few short = all_fit list table (entries_from defined_in 1 list) few short (entries_short 1 list read)
