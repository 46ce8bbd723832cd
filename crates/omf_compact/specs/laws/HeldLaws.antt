-- What a load file's segments hold can be written.
use Rattle.std.proofs.Common.{◌≡◌, ℕ, zero, suc, ◌+◌, ◌-◌, ◌^◌, ◌<◌, ◌≤◌, Bool, true, false, eqb, leb, ltb, List, [], ◌∷◌, ◌++◌, length, map, take, drop, replicate, Option, Some, None, refl, sym, ap, subst, ◌∙◌, arith, inl, inr}
use Rattle.std.specs.Prelude.{◌⊎◌, ◌&&◌, ◌||◌, ◌==◌, if◌then◌else◌, slice_get, IsTrue}
use Rattle.std.specs.List.{flat_map, filter, list_all, AllByRecursion}
use Rattle.std.proofs.lemmas.Bool.{cases_Bool, cases_lt, and_parts, leb-true}
use Rattle.std.proofs.lemmas.List.Concat.{flat_map-cons}
use Rattle.std.proofs.lemmas.List.{length-take, length-drop, length-map}
use Rattle.std.proofs.lemmas.Option.{slice_get_past, same_Some}
use Rattle.byteorder.specs.Endian.{little_bytes}
use Rattle.byteorder.specs.Numbers.{little_from-lt}
use Rattle.omf_format.specs.Number.{IsBytes, number_at}
use Rattle.omf_format.specs.Name.{without_trailing, name_at}
use Rattle.omf_format.specs.Header.{HeaderFields, form_of, is_listed, version_of, kind_of, fields_of, names_end, header_fault}
use Rattle.omf_format.specs.laws.HeaderLaws.{sound_from_none}
use Rattle.omf_format.specs.laws.FieldLaws.{IsBytes-drop}
use Rattle.omf_format.specs.Field.{Layout, layout_of, written_layout, is_count, is_shift, IsName}
use Rattle.omf_format.specs.Record.{Record, End, Const, LongConst, Align, Org, Space, Reloc, InterSeg, ShortReloc, ShortInterSeg, Super, Using, Strong, Label, Equate, Formula, Entry, content_of, spelling, IsRecord}
use Rattle.omf_format.specs.File.{Segment, IsSegment, body_reader}
use Rattle.omf_format.specs.Body.{body_bytes}
use Rattle.omf_format.specs.laws.BodyLaws.{handed_out, body_fits}
use Rattle.load_meaning.specs.Cells.{Cell, Byte, Part, Patch, parts_from, segment_bytes, super_patch, patches_in, cells}
use Rattle.omf_format.specs.Super.{is_super, locations_left}
use Rattle.load_meaning.specs.Loadable.{patch_list, IsPatch, IsSoundSegment}
use Rattle.load_meaning.specs.laws.LayingLaws.{Has, last_over, get-laid}
use Rattle.load_meaning.specs.laws.StoredLaws.{parts, get-parts, patched-laid}
use Rattle.load_meaning.specs.laws.CellLaws.{length-segment_bytes, fit_in}
use Rattle.omf_compact.specs.Stretches.{IsWrittenCell}
use Rattle.omf_compact.specs.laws.CellsBack.{given, patches_given, AreEntries}
use Rattle.omf_compact.specs.Canonical.{is_entry}

-- ---- numbers and names of a header

number-fits : (w at : ℕ) (bytes : List ℕ) → IsBytes bytes → number_at w at bytes < 256 ^ w
unfolding number_at
number-fits w at bytes fits = little_from-lt 0 w (drop at bytes) (IsBytes-drop at bytes fits)

trailing-length : (b : ℕ) (xs : List ℕ) → length (without_trailing b xs) ≤ length xs
trailing-length b [] = omega arith
trailing-length b (x ∷ xs) = elim (cases_Bool (list_all (λ (y : ℕ). y == b) (x ∷ xs))) [
  | inl all ↦ rw all (omega arith)
  | inr some ↦ let rest = trailing-length b xs in rw some (omega (arith, rest))
]

name-length : (lab_len at : ℕ) (bytes : List ℕ) → lab_len < 256 → IsBytes bytes → length (name_at lab_len at bytes) ≤ 255
unfolding name_at
name-length lab_len at bytes small fits = elim (cases_Bool (lab_len == 0)) [
  | inl is ↦ rw is (omega (arith, length-take (number_at 1 at bytes) (drop (at + 1) bytes), number-fits 1 at bytes fits))
  | inr other ↦ rw other (omega (arith, trailing-length 32 (take lab_len (drop at bytes)), length-take lab_len (drop at bytes), small))
]

kind-fits : (bytes : List ℕ) → IsBytes bytes → kind_of bytes < 2 ^ 16
unfolding kind_of
kind-fits bytes fits = elim (cases_Bool (version_of bytes == 1)) [
  | inl one ↦ rw one (omega (arith, number-fits 1 0x0C bytes fits))
  | inr two ↦ rw two (omega (arith, number-fits 2 0x14 bytes fits))
]

-- the fields of a header are as wide as they are written
pub record FitsFields (f : HeaderFields) : Type 0 where
  pub length' : f.length < 2 ^ 32
  pub kind : f.kind < 2 ^ 16
  pub org : f.org < 2 ^ 32
  pub align : f.align < 2 ^ 32
  pub seg_num : f.seg_num < 2 ^ 16
  pub entry : f.entry < 2 ^ 32
  pub lab_len : f.lab_len < 256
  pub load_name : length f.load_name ≡ 10
  pub name : length f.name ≤ 255
  pub bank_size : f.bank_size ≤ 0x10000
  pub listed : is_listed (form_of f.kind) ≡ true

fields-fit : (bytes : List ℕ) → IsBytes bytes → header_fault bytes ≡ None → FitsFields (fields_of bytes)
unfolding fields_of names_end
fields-fit bytes fits none =
    let sound = sound_from_none bytes none in
    record {
      length' = omega (arith, number-fits 4 0x08 bytes fits);
      kind = kind-fits bytes fits;
      org = omega (arith, number-fits 4 0x18 bytes fits);
      align = omega (arith, number-fits 4 0x1C bytes fits);
      seg_num = omega (arith, number-fits 2 0x22 bytes fits);
      entry = omega (arith, number-fits 4 0x24 bytes fits);
      lab_len = omega (arith, number-fits 1 0x0D bytes fits);
      load_name = omega (arith, length-take 10 (drop (number_at 2 0x28 bytes) bytes), length-drop (number_at 2 0x28 bytes) bytes, sound.names, sound.data', sound.whole);
      name = name-length (number_at 1 0x0D bytes) (number_at 2 0x28 bytes + 10) bytes (omega (arith, number-fits 1 0x0D bytes fits)) fits;
      bank_size = sound.banks;
      listed = sound.listed;
    }

-- ---- bytes

abbrev AllBytes : List ℕ → Type 0
AllBytes bytes = AllByRecursion (λ b. b < 256) bytes

each-byte : (bytes : List ℕ) → IsBytes bytes → AllBytes bytes
each-byte [] fits = tt
each-byte (b ∷ bytes) fits = (fits 0, each-byte bytes (λ i. fits (suc i)))

are-bytes : (bytes : List ℕ) → AllBytes bytes → IsBytes bytes
are-bytes [] all i = omega arith
are-bytes (b ∷ bytes) all zero = all.0
are-bytes (b ∷ bytes) all (suc i) = are-bytes bytes all.1 i

bytes-append : (xs ys : List ℕ) → AllBytes xs → AllBytes ys → AllBytes (xs ++ ys)
bytes-append [] ys a b = b
bytes-append (x ∷ xs) ys a b = (a.0, bytes-append xs ys a.1 b)

bytes-parts : (xs ys : List ℕ) → AllBytes (xs ++ ys) → AllBytes xs × AllBytes ys
bytes-parts [] ys all = (tt, all)
bytes-parts (x ∷ xs) ys all = let rest = bytes-parts xs ys all.1 in ((all.0, rest.0), rest.1)

zero-bytes : (n : ℕ) → AllBytes (replicate n 0)
zero-bytes zero = tt
zero-bytes (suc n) = (omega arith, zero-bytes n)

-- the bytes that a record puts into its segment are some of its spelling, or zeros
content-bytes : (l : Layout) (r : Record) → AllBytes (spelling l r) → AllBytes (content_of r)
unfolding spelling
content-bytes l (Const bytes) all = all.1
content-bytes l (LongConst bytes) all = (bytes-parts (little_bytes 4 (length bytes)) bytes all.1).1
content-bytes l (Space n) all = zero-bytes n
content-bytes l End all = tt
content-bytes l (Align n) all = tt
content-bytes l (Org n) all = tt
content-bytes l (Reloc count shift location offset) all = tt
content-bytes l (InterSeg count shift location file segment offset) all = tt
content-bytes l (ShortReloc count shift location offset) all = tt
content-bytes l (ShortInterSeg count shift location segment offset) all = tt
content-bytes l (Super form bytes) all = tt
content-bytes l (Using name) all = tt
content-bytes l (Strong name) all = tt
content-bytes l (Label global name size form private) all = tt
content-bytes l (Equate global name size form private expr) all = tt
content-bytes l (Formula code count n expr) all = tt
content-bytes l (Entry number offset name) all = tt

contents-bytes : (l : Layout) (founds : List (ℕ × Record)) → AllBytes (flat_map (λ (found : ℕ × Record). spelling l found.1) founds) → AllBytes (flat_map (λ (found : ℕ × Record). content_of found.1) founds)
contents-bytes l [] all = tt
contents-bytes l (found ∷ founds) all =
    let parts = bytes-parts (spelling l found.1) (flat_map (λ (of : ℕ × Record). spelling l of.1) founds) (subst AllBytes (flat_map-cons (λ (of : ℕ × Record). spelling l of.1) found founds) all) in
    subst AllBytes (sym (flat_map-cons (λ (of : ℕ × Record). content_of of.1) found founds)) (bytes-append (content_of found.1) (flat_map (λ (of : ℕ × Record). content_of of.1) founds) (content-bytes l found.1 parts.0) (contents-bytes l founds parts.1))

-- ---- the records of a segment

-- its records keep the format's rules, and its data are bytes
pub record IsRead (s : Segment) : Type 0 where
  pub fields : FitsFields s.fields
  pub records' : AllByRecursion (λ found. IsRecord (layout_of s.fields.version s.fields.lab_len) found.1) s.records
  pub bytes : IsBytes (segment_bytes s)

pub segment-read : (s : Segment) (file : List ℕ) → IsBytes file → IsSegment s file → IsRead s
unfolding body_reader segment_bytes body_bytes
segment-read s file fits is =
    let left = body_fits s.start s.fields file fits in
    let out = handed_out (body_reader s.start s.fields file) is.last s.records left is.records in
    let l = layout_of s.fields.version s.fields.lab_len in
    let all = bytes-parts (flat_map (λ (found : ℕ × Record). spelling l found.1) s.records) is.last.left (subst AllBytes out.1 (each-byte (body_reader s.start s.fields file).left left)) in
    let data' = contents-bytes l s.records all.0 in
    record {
      fields = subst FitsFields (sym is.header.fields) (fields-fit (drop s.start file) (IsBytes-drop s.start file fits) is.header.passes);
      records' = out.0;
      bytes = are-bytes (body_bytes s ++ replicate (s.fields.length - length (body_bytes s)) 0) (bytes-append (body_bytes s) (replicate (s.fields.length - length (body_bytes s)) 0) data' (zero-bytes (s.fields.length - length (body_bytes s))));
    }

-- ---- patches

-- a patch whose fields fit their records
pub record PatchFits (q : Patch) : Type 0 where
  pub count' : IsTrue (is_count q.count)
  pub shift' : IsTrue (is_shift q.shift)
  pub segment' : q.segment < 2 ^ 16
  pub offset' : q.offset < 2 ^ 32

either-true : (a b : Bool) → (a || b) ≡ true → (a ≡ true) ⊎ (b ≡ true)
either-true true b e = inl refl
either-true false b e = inr e

super-high : (form : ℕ) → IsTrue (is_super form) → form ≤ 37
super-high form is = elim (either-true (leb form 2) (leb 14 form && leb form 37) is) [
  | inl low ↦ omega (arith, leb-true form 2 low)
  | inr high ↦ leb-true form 37 (and_parts (leb 14 form) (leb form 37) high).1
]

super-fits : (s : Segment) (form at : ℕ) → IsTrue (is_super form) → s.fields.seg_num < 2 ^ 16 → IsBytes (segment_bytes s) → PatchFits (super_patch s form at)
super-fits s form at is own fits =
    let offset = number-fits 2 at (segment_bytes s) fits in
    let third = number-fits 1 (at + 2) (segment_bytes s) fits in
    let high = super-high form is in
    elim (cases_Bool (eqb form 0)) [
      | inl zero' ↦ rw zero' (record { count' = refl; shift' = refl; segment' = own; offset' = omega (arith, offset) })
      | inr not0 ↦ elim (cases_Bool (eqb form 1)) [
        | inl one ↦ rw (not0, one) (record { count' = refl; shift' = refl; segment' = own; offset' = omega (arith, offset) })
        | inr not1 ↦ elim (cases_Bool (eqb form 2)) [
          | inl two ↦ rw (not0, not1, two) (record { count' = refl; shift' = refl; segment' = omega (arith, third); offset' = omega (arith, offset) })
          | inr not2 ↦ elim (cases_Bool (leb form 25)) [
            | inl low ↦ rw (not0, not1, not2, low) (record { count' = refl; shift' = refl; segment' = omega (arith, high); offset' = omega (arith, offset) })
            | inr above ↦ rw (not0, not1, not2, above) (record { count' = refl; shift' = refl; segment' = omega (arith, high); offset' = omega (arith, offset) })
          ]
        ]
      ]
    ]

supers-fit : (s : Segment) (form : ℕ) (locations : List ℕ) → IsTrue (is_super form) → s.fields.seg_num < 2 ^ 16 → IsBytes (segment_bytes s) → AllByRecursion PatchFits (map (super_patch s form) locations)
supers-fit s form [] is own fits = tt
supers-fit s form (at ∷ locations) is own fits = (super-fits s form at is own fits, supers-fit s form locations is own fits)

record-patches : (s : Segment) (l : Layout) (r : Record) → IsRecord l r → s.fields.seg_num < 2 ^ 16 → IsBytes (segment_bytes s) → AllByRecursion PatchFits (patches_in s r)
record-patches s l (Reloc count shift location offset) is own fits = (record { count' = is.0.0; shift' = is.0.1; segment' = own; offset' = is.2 }, tt)
record-patches s l (InterSeg count shift location file segment offset) is own fits = (record { count' = is.0.0; shift' = is.0.1; segment' = is.3; offset' = is.4 }, tt)
record-patches s l (ShortReloc count shift location offset) is own fits = (record { count' = is.0.0; shift' = is.0.1; segment' = own; offset' = omega (arith, is.2) }, tt)
record-patches s l (ShortInterSeg count shift location segment offset) is own fits = (record { count' = is.0.0; shift' = is.0.1; segment' = omega (arith, is.2); offset' = omega (arith, is.3) }, tt)
record-patches s l (Super form bytes) is own fits = supers-fit s form (locations_left 0 0 bytes) is.0 own fits
record-patches s l End is own fits = tt
record-patches s l (Const bytes) is own fits = tt
record-patches s l (LongConst bytes) is own fits = tt
record-patches s l (Align n) is own fits = tt
record-patches s l (Org n) is own fits = tt
record-patches s l (Space n) is own fits = tt
record-patches s l (Using name) is own fits = tt
record-patches s l (Strong name) is own fits = tt
record-patches s l (Label global name size form private) is own fits = tt
record-patches s l (Equate global name size form private expr) is own fits = tt
record-patches s l (Formula code count n expr) is own fits = tt
record-patches s l (Entry number offset name) is own fits = tt

fits-append : (xs ys : List Patch) → AllByRecursion PatchFits xs → AllByRecursion PatchFits ys → AllByRecursion PatchFits (xs ++ ys)
fits-append [] ys a b = b
fits-append (x ∷ xs) ys a b = (a.0, fits-append xs ys a.1 b)

given-fit : (s : Segment) (l : Layout) (founds : List (ℕ × Record)) → AllByRecursion (λ (found : ℕ × Record). IsRecord l found.1) founds → s.fields.seg_num < 2 ^ 16 → IsBytes (segment_bytes s) → AllByRecursion PatchFits (given s founds)
given-fit s l [] all own fits = tt
given-fit s l (found ∷ founds) all own fits =
    subst (AllByRecursion PatchFits) (sym (flat_map-cons (λ (of : ℕ × Record). patches_in s of.1) found founds)) (fits-append (patches_in s found.1) (given s founds) (record-patches s l found.1 all.0 own fits) (given-fit s l founds all.1 own fits))

patches-fit : (s : Segment) → IsRead s → AllByRecursion PatchFits (patch_list s)
patches-fit s read = subst (AllByRecursion PatchFits) (sym (patches_given s)) (given-fit s (layout_of s.fields.version s.fields.lab_len) s.records read.records' read.fields.seg_num read.bytes)

-- ---- cells

abbrev no_cell : Option Cell
no_cell = None

length-parts : (q : Patch) → length (parts q) ≡ q.count
length-parts q = from 0 q.count
  where
    from : (index n : ℕ) → length (parts_from q index n) ≡ n
    from index zero = refl
    from index (suc n) = ap (λ (m : ℕ). suc m) (from (index + 1) n)

-- a part of the cells is a byte of one of the patches
abbrev pub Byte-of : List Patch → Cell → Type 0
Byte-of patches c = (q : Patch) × Has patches q × (j : ℕ) × (slice_get (parts q) j ≡ Some c)

last-of : (patches : List Patch) (k : ℕ) (o : Option Cell) (c : Cell) → last_over parts patches k o ≡ Some c → Byte-of patches c ⊎ (o ≡ Some c)
last-of [] k o c is = inr is
last-of (q ∷ patches) k o c is =
    by_rest (last-of patches k (if leb q.location k && ltb k (q.location + q.count) then slice_get (parts q) (k - q.location) else o) c is) (cases_Bool (leb q.location k && ltb k (q.location + q.count)))
  where
    by_rest : Byte-of patches c ⊎ ((if leb q.location k && ltb k (q.location + q.count) then slice_get (parts q) (k - q.location) else o) ≡ Some c)
        → (leb q.location k && ltb k (q.location + q.count) ≡ true) ⊎ (leb q.location k && ltb k (q.location + q.count) ≡ false) → Byte-of (q ∷ patches) c ⊎ (o ≡ Some c)
    by_rest (inl later) covers = inl (later.0, inr later.1, later.2, later.3)
    by_rest (inr here) (inl covers) = inl (q, inl refl, k - q.location, rw covers at here)
    by_rest (inr here) (inr not_covers) = inr (rw not_covers at here)

pub cell-of : (segments : List Segment) (number : ℕ) (s : Segment) (k : ℕ) (c : Cell) → IsSoundSegment segments number s → slice_get (cells s) k ≡ Some c → Byte-of (patch_list s) c ⊎ (slice_get (map Byte (segment_bytes s)) k ≡ Some c)
unfolding cells
cell-of segments number s k c sound is =
    let xs = map Byte (segment_bytes s) in
    let size : length xs ≡ s.fields.length = length-map (segment_bytes s) Byte ∙ length-segment_bytes s sound.fits in
    last-of (patch_list s) k (slice_get xs k) c (sym (get-laid parts (patch_list s) xs k (fit_in segments s (length xs) (patch_list s) size sound.patches)) ∙ ap (λ (l : List Cell). slice_get l k) (sym (patched-laid xs (patch_list s))) ∙ is)

byte-cell : (bytes : List ℕ) (k : ℕ) (c : Cell) → slice_get (map Byte bytes) k ≡ Some c → IsWrittenCell c
byte-cell [] k c is = absurd cc
byte-cell (b ∷ bytes) zero c is = subst IsWrittenCell (same_Some (Byte b) c is) tt
byte-cell (b ∷ bytes) (suc k) c is = byte-cell bytes k c is

part-cell : (q : Patch) (j : ℕ) (c : Cell) → PatchFits q → q.file ≡ 1 → slice_get (parts q) j ≡ Some c → IsWrittenCell c
part-cell q j c fits file is = elim (cases_lt j q.count) [
  | inl lt ↦
      let there = get-parts q 0 q.count j lt in
      let count = leb-true q.count 4 (and_parts (leb 1 q.count) (leb q.count 4) fits.count').1 in
      subst IsWrittenCell (same_Some (Part q.file q.segment q.offset q.shift (0 + j)) c (sym there ∙ is)) (file, fits.segment', fits.offset', fits.shift', omega (arith, lt, count))
  | inr past ↦ absurd (none_some (sym (slice_get_past (parts q) j (omega (arith, past, length-parts q))) ∙ is))
]
  where
    none_some : no_cell ≡ Some c → ⊥
    none_some e = cc

has-fit : (P : Patch → Type 0) (l : List Patch) (q : Patch) → AllByRecursion P l → Has l q → P q
has-fit P [] q all h = absurd h
has-fit P (r ∷ l) q all h = elim h [
  | inl same ↦ subst P (sym same) all.0
  | inr more ↦ has-fit P l q all.1 more
]

pub cell-written : (segments : List Segment) (number : ℕ) (s : Segment) (k : ℕ) (c : Cell) → IsSoundSegment segments number s → IsRead s → slice_get (cells s) k ≡ Some c → IsWrittenCell c
cell-written segments number s k c sound read is = elim (cell-of segments number s k c sound is) [
  | inl of ↦ part-cell of.0 of.2 c (has-fit PatchFits (patch_list s) of.0 (patches-fit s read) of.1) (has-fit (IsPatch segments s) (patch_list s) of.0 sound.patches of.1).file' of.3
  | inr byte ↦ byte-cell (segment_bytes s) k c byte
]

pub all-cells : (P : Cell → Type 0) (of : List Cell) → ((k : ℕ) (c : Cell) → slice_get of k ≡ Some c → P c) → AllByRecursion P of
all-cells P [] each = tt
all-cells P (c ∷ of) each = (each 0 c refl, all-cells P of (λ k d e. each (suc k) d e))

-- ---- ENTRY records

entry-name : (n : ℕ) (name : List ℕ) → n < 256 → IsName n name → IsName 0 name
entry-name zero name small is = is
entry-name (suc n) name small is = (is.0, omega (arith, is.1, small))

entry-spelled : (l : Layout) (r : Record) → l.lab_len < 256 → is_entry r ≡ true → IsRecord l r → IsRecord written_layout r
entry-spelled l (Entry number offset name) small e is = (is.0, is.1, entry-name l.lab_len name small is.2)
entry-spelled l End small e is = absurd cc
entry-spelled l (Const bytes) small e is = absurd cc
entry-spelled l (LongConst bytes) small e is = absurd cc
entry-spelled l (Align n) small e is = absurd cc
entry-spelled l (Org n) small e is = absurd cc
entry-spelled l (Space n) small e is = absurd cc
entry-spelled l (Reloc count shift location offset) small e is = absurd cc
entry-spelled l (InterSeg count shift location file segment offset) small e is = absurd cc
entry-spelled l (ShortReloc count shift location offset) small e is = absurd cc
entry-spelled l (ShortInterSeg count shift location segment offset) small e is = absurd cc
entry-spelled l (Super form bytes) small e is = absurd cc
entry-spelled l (Using name) small e is = absurd cc
entry-spelled l (Strong name) small e is = absurd cc
entry-spelled l (Label global name size form private) small e is = absurd cc
entry-spelled l (Equate global name size form private expr) small e is = absurd cc
entry-spelled l (Formula code count n expr) small e is = absurd cc

pub entries-are : (l : Layout) (founds : List (ℕ × Record)) → l.lab_len < 256 → AllByRecursion (λ (found : ℕ × Record). IsRecord l found.1) founds
    → AreEntries (filter is_entry (map (λ (found : ℕ × Record). found.1) founds)) × AllByRecursion (IsRecord written_layout) (filter is_entry (map (λ (found : ℕ × Record). found.1) founds))
entries-are l [] small all = (tt, tt)
entries-are l (found ∷ founds) small all = by_kind (cases_Bool (is_entry found.1)) (entries-are l founds small all.1)
  where
    by_kind : (is_entry found.1 ≡ true) ⊎ (is_entry found.1 ≡ false)
        → AreEntries (filter is_entry (map (λ (of : ℕ × Record). of.1) founds)) × AllByRecursion (IsRecord written_layout) (filter is_entry (map (λ (of : ℕ × Record). of.1) founds))
        → AreEntries (filter is_entry (map (λ (of : ℕ × Record). of.1) (found ∷ founds))) × AllByRecursion (IsRecord written_layout) (filter is_entry (map (λ (of : ℕ × Record). of.1) (found ∷ founds)))
    by_kind (inl is) rest = rw is ((is, rest.0), (entry-spelled l found.1 small is all.0, rest.1))
    by_kind (inr other) rest = rw other rest
