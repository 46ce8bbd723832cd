-- What is written for a load file is read again as the same.
use Rattle.std.proofs.Common.{◌≡◌, ℕ, zero, suc, ◌+◌, ◌-◌, ◌^◌, ◌<◌, ◌≤◌, true, false, leb, cond, List, [], ◌∷◌, ◌++◌, length, map, replicate, None, refl, sym, ap, subst, ◌∙◌, append_assoc, arith, inl, inr}
use Rattle.std.specs.Prelude.{◌&&◌}
use Rattle.std.specs.List.{flat_map, filter, AllByRecursion}
use Rattle.std.proofs.lemmas.Bool.{cases_Bool}
use Rattle.std.proofs.lemmas.List.{append-nil, length-map}
use Rattle.std.proofs.lemmas.List.Concat.{flat_map-cons}
use Rattle.omf_format.specs.Field.{written_layout}
use Rattle.omf_format.specs.Header.{HeaderFields, form_of, is_listed, written_fields, IsWritable}
use Rattle.omf_format.specs.Record.{Record, End, Const, LongConst, Align, Org, Space, Reloc, InterSeg, ShortReloc, ShortInterSeg, Super, Using, Strong, Label, Equate, Formula, Entry, content_of, IsRecord}
use Rattle.omf_format.specs.File.{Segment, IsFile}
use Rattle.omf_format.specs.Body.{body_bytes}
use Rattle.load_meaning.specs.Cells.{Cell, Byte, Patch, patched_cells, segment_bytes, patches_in, patches_of, cells, byte_under}
use Rattle.load_meaning.specs.WrittenBody.{is_own, is_short, lone_record, super_records, supers_from, of_form, data_records, written_data, body_records}
use Rattle.load_meaning.specs.laws.Steps.{patches_stored_alone}
use Rattle.load_meaning.specs.laws.StoredLaws.{zeros-le}
use Rattle.object_meaning.specs.laws.RunLaws.{IsBodyRecord, text, placed, flat-placed}
use Rattle.omf_compact.specs.Stretches.{first_broken, stretches, bytes_in, IsWrittenCell}
use Rattle.omf_compact.specs.Canonical.{is_entry, Plain, plain_of, plain, is_pathname, canon_fields, canon_segment, canon_from, canon}
use Rattle.omf_compact.specs.laws.Words.{entries_in, canon_records}
use Rattle.omf_compact.specs.laws.Sheets.{Sheet, sheet_text, IsSheet, IsSheetOf, AreSheetsOf, file_of_sheets}
use Rattle.omf_compact.specs.laws.CellsBack.{given, patches_given, AreEntries, entry_content, entry_patches, none_of, cells_back}
use Rattle.omf_compact.specs.laws.Fronts.{front, records_fit_front}

-- ---- what is held in a load file

-- the cells are bytes
abbrev pub AreBytes : List Cell → Type 0
AreBytes of = of ≡ map Byte (bytes_in of)

-- what a segment of a load file holds, where no part is broken
pub record IsHeld (number : ℕ) (p : Plain) : Type 0 where
  pub number' : number < 2 ^ 16
  pub length' : p.length < 2 ^ 32
  pub kind : p.kind < 2 ^ 16
  pub bank_size : p.bank_size ≤ 0x10000
  pub org : p.org < 2 ^ 32
  pub align : p.align < 2 ^ 32
  pub entry : p.entry < 2 ^ 32
  pub load_name : length p.load_name ≡ 10
  pub name : length p.name ≤ 255
  pub listed : is_listed (form_of p.kind) ≡ true
  pub sized : p.length ≡ length p.cells'
  pub unbroken : first_broken p.cells' ≡ None
  pub written : AllByRecursion IsWrittenCell p.cells'
  pub entries' : AreEntries p.entries
  pub spelled : AllByRecursion (IsRecord written_layout) p.entries
  pub paths : is_pathname p ≡ true → AreBytes p.cells'

abbrev pub AreHeld : ℕ → List Plain → Type 0
AreHeld number [] = Unit {0}
AreHeld number (p ∷ plains) = IsHeld number p × AreHeld (number + 1) plains

-- ---- as sheets

abbrev pub sheet_of : ℕ → Plain → Sheet
sheet_of number p = record { fields = canon_fields number p; records = canon_records number p }

abbrev pub sheets_from : ℕ → List Plain → List Sheet
sheets_from number [] = []
sheets_from number (p ∷ plains) = sheet_of number p ∷ sheets_from (number + 1) plains

segment-sheet : (number : ℕ) (p : Plain) → canon_segment number p ≡ sheet_text (sheet_of number p)
unfolding canon_segment sheet_text
segment-sheet number p = refl

pub canon-sheets : (number : ℕ) (plains : List Plain) → canon_from number plains ≡ flat_map sheet_text (sheets_from number plains)
canon-sheets number [] = refl
canon-sheets number (p ∷ plains) =
    ap (λ (l : List ℕ). l ++ canon_from (number + 1) plains) (segment-sheet number p) ∙ ap (λ (l : List ℕ). sheet_text (sheet_of number p) ++ l) (canon-sheets (number + 1) plains)
    ∙ sym (flat_map-cons sheet_text (sheet_of number p) (sheets_from (number + 1) plains))

-- ---- ENTRY records

abbrev NoEntries : List Record → Type 0
NoEntries records = AllByRecursion (λ r. is_entry r ≡ false) records

none-append : (xs ys : List Record) → NoEntries xs → NoEntries ys → NoEntries (xs ++ ys)
none-append [] ys a b = b
none-append (x ∷ xs) ys a b = (a.0, none-append xs ys a.1 b)

lone-no-entry : (own : ℕ) (p : Patch) → is_entry (lone_record own p) ≡ false
unfolding lone_record
lone-no-entry own p = elim (cases_Bool (is_own own p)) [
  | inl own' ↦ elim (cases_Bool (is_short p)) [
    | inl short ↦ rw (own', short) refl
    | inr long ↦ rw (own', long) refl
  ]
  | inr other ↦ elim (cases_Bool (leb p.segment 255 && is_short p)) [
    | inl short ↦ rw (other, short) refl
    | inr long ↦ rw (other, long) refl
  ]
]

lones-no-entries : (own : ℕ) (patches : List Patch) → NoEntries (map (lone_record own) patches)
lones-no-entries own [] = tt
lones-no-entries own (p ∷ patches) = (lone-no-entry own p, lones-no-entries own patches)

super-no-entries : (form : ℕ) (patches : List Patch) → NoEntries (super_records form patches)
super-no-entries form [] = tt
super-no-entries form (p ∷ patches) = (refl, tt)

supers-no-entries : (own : ℕ) (patches : List Patch) (form n : ℕ) → NoEntries (supers_from own patches form n)
supers-no-entries own patches form zero = tt
supers-no-entries own patches form (suc n) =
    none-append (super_records form (of_form own patches form)) (supers_from own patches (form + 1) n) (super-no-entries form (of_form own patches form)) (supers-no-entries own patches (form + 1) n)

data-no-entries : (bytes : List ℕ) → NoEntries (data_records bytes)
data-no-entries [] = tt
data-no-entries (b ∷ bytes) = (refl, tt)

pub body-no-entries : (own : ℕ) (content : List ℕ) (patches : List Patch) → NoEntries (body_records own content patches)
unfolding body_records
body-no-entries own content patches =
    none-append (data_records (written_data own content patches)) (map (lone_record own) (patches_stored_alone own patches) ++ supers_from own patches 0 38) (data-no-entries (written_data own content patches))
    (none-append (map (lone_record own) (patches_stored_alone own patches)) (supers_from own patches 0 38) (lones-no-entries own (patches_stored_alone own patches)) (supers-no-entries own patches 0 38))

-- those before the ENTRY records
abbrev first_records : ℕ → Plain → List Record
first_records number p = cond (is_pathname p) (LongConst (bytes_in p.cells') ∷ []) (body_records number (bytes_in p.cells') (stretches p.cells'))

records-are : (number : ℕ) (p : Plain) → canon_records number p ≡ first_records number p ++ p.entries
records-are number p = refl

pub records-plain : (number : ℕ) (p : Plain) → is_pathname p ≡ false → canon_records number p ≡ body_records number (bytes_in p.cells') (stretches p.cells') ++ p.entries
records-plain number p other = records-are number p ∙ rw other refl

pub records-path : (number : ℕ) (p : Plain) → is_pathname p ≡ true → canon_records number p ≡ LongConst (bytes_in p.cells') ∷ p.entries
records-path number p is = records-are number p ∙ rw is refl

first-no-entries : (number : ℕ) (p : Plain) → NoEntries (first_records number p)
first-no-entries number p = elim (cases_Bool (is_pathname p)) [
  | inl is ↦ rw is (refl, tt)
  | inr other ↦ rw other (body-no-entries number (bytes_in p.cells') (stretches p.cells'))
]

filter-none : (records more : List Record) → NoEntries records → filter is_entry (records ++ more) ≡ filter is_entry more
filter-none [] more none = refl
filter-none (r ∷ records) more none = rw none.0 (filter-none records more none.1)

filter-all : (entries : List Record) → AreEntries entries → filter is_entry (entries ++ End ∷ []) ≡ entries
filter-all [] all = refl
filter-all (r ∷ entries) all = rw all.0 (ap (λ (l : List Record). r ∷ l) (filter-all entries all.1))

without_end : (end : ℕ) (records : List Record) → map (λ (found : ℕ × Record). found.1) (placed end records) ≡ records ++ End ∷ []
without_end end [] = refl
without_end end (r ∷ records) = ap (λ (l : List Record). r ∷ l) (without_end end records)

entries_back : (number : ℕ) (p : Plain) (s : Segment) → AreEntries p.entries → IsSheetOf (sheet_of number p) s → entries_in s ≡ p.entries
entries_back number p s all is =
    ap (λ (l : List (ℕ × Record)). filter is_entry (map (λ (found : ℕ × Record). found.1) l)) is.records'
    ∙ ap (filter is_entry) (without_end is.end (canon_records number p) ∙ ap (λ (l : List Record). l ++ End ∷ []) (records-are number p) ∙ append_assoc (first_records number p) p.entries (End ∷ []))
    ∙ filter-none (first_records number p) (p.entries ++ End ∷ []) (first-no-entries number p)
    ∙ filter-all p.entries all

-- ---- cells

-- a segment whose records give these bytes, as many as LENGTH, and no patch
bytes_back : (s : Segment) (bytes : List ℕ) → body_bytes s ≡ bytes → s.fields.length ≡ length bytes → given s s.records ≡ [] → cells s ≡ map Byte bytes
unfolding cells segment_bytes
bytes_back s bytes body size none =
    let whole : segment_bytes s ≡ bytes =
    ap (λ (l : List ℕ). l ++ replicate (s.fields.length - length l) 0) body ∙ ap (λ (n : ℕ). bytes ++ replicate n 0) left ∙ append-nil bytes in
    ap (λ (l : List ℕ). patched_cells (map Byte l) (map (λ (p : ℕ × Patch). p.1) (patches_of s))) whole ∙ ap (patched_cells (map Byte bytes)) (patches_given s ∙ none)
  where
    left : s.fields.length - length bytes ≡ 0
    left = omega (arith, size)

pathname_back : (number : ℕ) (p : Plain) (s : Segment) → IsHeld number p → is_pathname p ≡ true → s.fields.length ≡ p.length → IsSheetOf (sheet_of number p) s → cells s ≡ p.cells'
unfolding body_bytes
pathname_back number p s held is len of =
    let bytes = bytes_in p.cells' in
    let rs : canon_records number p ≡ LongConst bytes ∷ p.entries = records-are number p ∙ rw is refl in
    let body : body_bytes s ≡ bytes =
    ap (flat_map (λ (found : ℕ × Record). content_of found.1)) of.records' ∙ flat-placed content_of of.end (canon_records number p) refl ∙ ap (flat_map content_of) rs
    ∙ flat_map-cons content_of (LongConst bytes) p.entries ∙ ap (λ (l : List ℕ). bytes ++ l) (none_of content_of p.entries entry_content held.entries') ∙ append-nil bytes in
    let none : given s s.records ≡ [] =
    ap (given s) of.records' ∙ flat-placed (patches_in s) of.end (canon_records number p) refl ∙ ap (flat_map (patches_in s)) rs
    ∙ flat_map-cons (patches_in s) (LongConst bytes) p.entries ∙ none_of (patches_in s) p.entries (entry_patches s) held.entries' in
    bytes_back s bytes body (omega (arith, len, held.sized, length-map p.cells' byte_under)) none ∙ sym (held.paths is)

plain_cells : (number : ℕ) (p : Plain) (s : Segment) → IsHeld number p → IsSheetOf (sheet_of number p) s → cells s ≡ p.cells'
unfolding canon_fields
plain_cells number p s held of =
    let len : s.fields.length ≡ p.length = ap (λ (f : HeaderFields). f.length) of.fields in
    let own : s.fields.seg_num ≡ number = ap (λ (f : HeaderFields). f.seg_num) of.fields in
    elim (cases_Bool (is_pathname p)) [
      | inl is ↦ pathname_back number p s held is len of
      | inr other ↦ cells_back number p.cells' p.entries s own (len ∙ held.sized) held.unbroken held.written (record {
        end = of.end;
        records' = of.records' ∙ ap (placed of.end) (records-are number p ∙ rw other refl);
        entries' = held.entries';
      })
    ]

-- ---- what is held is held again

made : HeaderFields → List Cell → List Record → Plain
made f of entries = record {
  load_name = f.load_name;
  name = f.name;
  length = f.length;
  kind = f.kind;
  bank_size = f.bank_size;
  org = f.org;
  align = f.align;
  entry = f.entry;
  cells' = of;
  entries = entries;
}

plain-made : (s : Segment) → plain_of s ≡ made s.fields (cells s) (entries_in s)
unfolding plain_of made
plain-made s = refl

made-canon : (number n : ℕ) (p : Plain) → made (written_fields (canon_fields number p) n) p.cells' p.entries ≡ p
unfolding made canon_fields
made-canon number n p = refl

pub plain_back : (number : ℕ) (p : Plain) (s : Segment) → IsHeld number p → IsSheetOf (sheet_of number p) s → plain_of s ≡ p
plain_back number p s held of =
    plain-made s
    ∙ ap (λ (f : HeaderFields). made f (cells s) (entries_in s)) of.fields
    ∙ ap (λ (l : List Cell). made (written_fields (canon_fields number p) (length (text (canon_records number p)))) l (entries_in s)) (plain_cells number p s held of)
    ∙ ap (λ (l : List Record). made (written_fields (canon_fields number p) (length (text (canon_records number p)))) p.cells' l) (entries_back number p s held.entries' of)
    ∙ made-canon number _ p

pub plains_back : (number : ℕ) (plains : List Plain) (segments : List Segment) → AreHeld number plains → AreSheetsOf (sheets_from number plains) segments → plain segments ≡ plains
plains_back number [] [] held of = refl
plains_back number [] (s ∷ segments) held of = absurd of
plains_back number (p ∷ plains) [] held of = absurd of
plains_back number (p ∷ plains) (s ∷ segments) held of =
    ap (λ (q : Plain). q ∷ plain segments) (plain_back number p s held.0 of.0) ∙ ap (λ (l : List Plain). p ∷ l) (plains_back (number + 1) plains segments held.1 of.1)

-- ---- it can be written

entry-record : (r : Record) → is_entry r ≡ true → IsRecord written_layout r → IsBodyRecord r
entry-record (Entry number offset name) e is = (is, refl)
entry-record End e is = absurd cc
entry-record (Const bytes) e is = absurd cc
entry-record (LongConst bytes) e is = absurd cc
entry-record (Align n) e is = absurd cc
entry-record (Org n) e is = absurd cc
entry-record (Space n) e is = absurd cc
entry-record (Reloc count shift location offset) e is = absurd cc
entry-record (InterSeg count shift location file segment offset) e is = absurd cc
entry-record (ShortReloc count shift location offset) e is = absurd cc
entry-record (ShortInterSeg count shift location segment offset) e is = absurd cc
entry-record (Super form bytes) e is = absurd cc
entry-record (Using name) e is = absurd cc
entry-record (Strong name) e is = absurd cc
entry-record (Label global name size form private) e is = absurd cc
entry-record (Equate global name size form private expr) e is = absurd cc
entry-record (Formula code count n expr) e is = absurd cc

entries-fit : (entries : List Record) → AreEntries entries → AllByRecursion (IsRecord written_layout) entries → AllByRecursion IsBodyRecord entries
entries-fit [] all each = tt
entries-fit (r ∷ entries) all each = (entry-record r all.0 each.0, entries-fit entries all.1 each.1)

fit-append : (xs ys : List Record) → AllByRecursion IsBodyRecord xs → AllByRecursion IsBodyRecord ys → AllByRecursion IsBodyRecord (xs ++ ys)
fit-append [] ys a b = b
fit-append (x ∷ xs) ys a b = (a.0, fit-append xs ys a.1 b)

-- the segment is short enough for a file
pub record IsSmall (number : ℕ) (p : Plain) : Type 0 where
  pub data' : is_pathname p ≡ false → length (front p.cells') ≤ 0xFFFFFF
  pub total : 0x37 + length p.name + length (text (canon_records number p)) < 2 ^ 32

records_fit : (number : ℕ) (p : Plain) → IsHeld number p → IsSmall number p → AllByRecursion IsBodyRecord (canon_records number p)
records_fit number p held small =
    subst (AllByRecursion IsBodyRecord) (sym (records-are number p)) (fit-append (first_records number p) p.entries first (entries-fit p.entries held.entries' held.spelled))
  where
    first : AllByRecursion IsBodyRecord (first_records number p)
    first = elim (cases_Bool (is_pathname p)) [
      | inl is ↦ rw is ((omega (arith, held.length', held.sized, length-map p.cells' byte_under), refl), tt)
      | inr other ↦ rw other (records_fit_front number p.cells' held.unbroken held.written (small.data' other))
    ]

zeros-fit : (number : ℕ) (p : Plain) → IsHeld number p → (canon_fields number p).res_spc ≤ p.length
unfolding canon_fields
zeros-fit number p held = elim (cases_Bool (is_pathname p)) [
  | inl is ↦ rw is (omega arith)
  | inr other ↦ rw other (omega (arith, zeros-le p.cells', held.sized))
]

pub is_writable : (number : ℕ) (p : Plain) → IsHeld number p → IsWritable (canon_fields number p)
unfolding canon_fields
is_writable number p held = record { version = refl; banks = held.bank_size; listed = held.listed; spaced = zeros-fit number p held }

pub is_sheet : (number : ℕ) (p : Plain) → IsHeld number p → IsSmall number p → IsSheet (sheet_of number p)
unfolding canon_fields
is_sheet number p held small = record {
  fits = record {
    res_spc = omega (arith, zeros-fit number p held, held.length');
    length = held.length';
    bank_size = omega (arith, held.bank_size);
    kind = held.kind;
    org = held.org;
    align = held.align;
    seg_num = held.number';
    entry = held.entry;
    load_name = held.load_name;
    name = held.name;
    total = small.total;
  };
  writable = record { version = refl; banks = held.bank_size; listed = held.listed; spaced = zeros-fit number p held };
  records' = records_fit number p held small;
}

abbrev pub AreSmall : ℕ → List Plain → Type 0
AreSmall number [] = Unit {0}
AreSmall number (p ∷ plains) = IsSmall number p × AreSmall (number + 1) plains

are_sheets : (number : ℕ) (plains : List Plain) → AreHeld number plains → AreSmall number plains → AllByRecursion IsSheet (sheets_from number plains)
are_sheets number [] held small = tt
are_sheets number (p ∷ plains) held small = (is_sheet number p held.0 small.0, are_sheets (number + 1) plains held.1 small.1)

-- What is written is a file whose segments hold the same.
pub read_again : (plains : List Plain) → AreHeld 1 plains → AreSmall 1 plains → (segments : List Segment) × IsFile segments (canon plains) × (plain segments ≡ plains) × AreSheetsOf (sheets_from 1 plains) segments
unfolding canon
read_again plains held small =
    let made = file_of_sheets (sheets_from 1 plains) (are_sheets 1 plains held small) in
    (made.0, subst (IsFile made.0) (sym (canon-sheets 1 plains)) made.1, plains_back 1 plains made.0 held made.2, made.2)
