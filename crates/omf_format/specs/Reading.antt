-- Reading a body from left to right, record by record, with the first fault that is met.
use Rattle.std.specs.Prelude.{◌≡◌, ℕ, zero, suc, ◌-◌, ◌^◌, ℤ, Bool, true, false, List, [], ◌∷◌, length, slice_index, Option, Some, None, Result, Ok, Err, nat_lt, ◌==◌, if◌then◌else◌}
use Rattle.omf_format.specs.declared.codes.TheConstants.{ALIGN, ORG, RELOC, INTERSEG, USING, STRONG, GLOBAL, GEQU, EXPR, ZEXPR, BEXPR, RELEXPR, LOCAL, EQU, DS, LCONST, LEXPR, ENTRY, SHORT_RELOC, SHORT_INTERSEG, SUPER}
use Rattle.omf_format.specs.declared.fault.Flaw.TheVariants.{Cut, Unread, Broken}
use Rattle.omf_format.specs.declared.fault.RecordFault.{RecordFault}
use Rattle.omf_format.specs.declared.fault.RecordFault.TheVariants.{Truncated, Unsupported, BadRecord}
use Rattle.omf_format.specs.Field.{Layout, ◌>>=◌, Reads, ◌⊗◌, field_that_passes, taken_as, byte_field, bytes_field, number_field, name_field, count_field, shift_field}
use Rattle.omf_format.specs.Expression.{expression_field}
use Rattle.omf_format.specs.Super.{is_super, end_pages}
use Rattle.omf_format.specs.Record.{Record, End, Const, LongConst, Align, Org, Space, Reloc, InterSeg, ShortReloc, ShortInterSeg, Super, Using, Strong, Label, Equate, Formula, Entry}

-- ---- what follows each code: the record and the bytes after it, or what is wrong first

-- a patch's count and shift
unfoldable pub patch_field : Reads (ℕ × ℤ)
patch_field = count_field ⊗ shift_field

-- the length counts the type and the subrecords; the subrecords are one field
unfoldable pub super_field : Reads Record
super_field rest = do
  size ← field_that_passes (nat_lt 0) Broken (number_field 4) rest
  form ← field_that_passes is_super Unread byte_field size.1
  bytes ← field_that_passes (end_pages 0) Broken (bytes_field (size.0 - 1)) form.1
  Ok (Super form.0 bytes.0, bytes.1)

-- a label's length, which takes `width` bytes, type and private flag
unfoldable pub attributes_field : ℕ → Reads (ℕ × (ℕ × ℕ))
attributes_field width = number_field width ⊗ byte_field ⊗ byte_field

unfoldable pub label_field : Layout → Bool → Reads Record
label_field l global = taken_as (λ x. Label global x.0 x.1.0 x.1.1.0 x.1.1.1) (name_field l.lab_len ⊗ attributes_field l.length_width)

unfoldable pub equate_field : Layout → Bool → Reads Record
equate_field l global = taken_as (λ x. Equate global x.0 x.1.0.0 x.1.0.1.0 x.1.0.1.1 x.1.1)
    (name_field l.lab_len ⊗ attributes_field l.length_width ⊗ expression_field l.lab_len)

unfoldable pub formula_field : ℕ → ℕ → Reads Record
formula_field lab_len code = taken_as (λ x. Formula code x.0 0 x.1) (count_field ⊗ expression_field lab_len)

-- the codes from $E0 on, each with what follows it: a negative ORG would move the location counter back
unfoldable pub rows : Layout → List (ℕ × Reads Record)
rows l =
    (ALIGN, taken_as Align (number_field 4))
    ∷ (ORG, taken_as Org (field_that_passes (λ n. nat_lt n (2 ^ 31)) Unread (number_field 4)))
    ∷ (RELOC, taken_as (λ x. Reloc x.0.0 x.0.1 x.1.0 x.1.1) (patch_field ⊗ number_field 4 ⊗ number_field 4))
    ∷ (
      INTERSEG,
      taken_as (λ x. InterSeg x.0.0 x.0.1 x.1.0 x.1.1.0 x.1.1.1.0 x.1.1.1.1)
          (patch_field ⊗ number_field 4 ⊗ number_field 2 ⊗ number_field 2 ⊗ number_field 4),
    )
    ∷ (USING, taken_as Using (name_field l.lab_len))
    ∷ (STRONG, taken_as Strong (name_field l.lab_len))
    ∷ (GLOBAL, label_field l true)
    ∷ (GEQU, equate_field l true)
    ∷ (EXPR, formula_field l.lab_len EXPR)
    ∷ (ZEXPR, formula_field l.lab_len ZEXPR)
    ∷ (BEXPR, formula_field l.lab_len BEXPR)
    ∷ (RELEXPR, taken_as (λ x. Formula RELEXPR x.0 x.1.0 x.1.1) (count_field ⊗ number_field 4 ⊗ expression_field l.lab_len))
    ∷ (LOCAL, label_field l false)
    ∷ (EQU, equate_field l false)
    ∷ (DS, taken_as Space (number_field 4))
    ∷ (LCONST, λ rest. number_field 4 rest >>= λ n. taken_as LongConst (bytes_field n.0) n.1)
    ∷ (LEXPR, formula_field l.lab_len LEXPR)
    ∷ (ENTRY, taken_as (λ x. Entry x.0 x.1.0 x.1.1) (number_field 2 ⊗ number_field 4 ⊗ name_field l.lab_len))
    ∷ (SHORT_RELOC, taken_as (λ x. ShortReloc x.0.0 x.0.1 x.1.0 x.1.1) (patch_field ⊗ number_field 2 ⊗ number_field 2))
    ∷ (SHORT_INTERSEG, taken_as (λ x. ShortInterSeg x.0.0 x.0.1 x.1.0 x.1.1.0 x.1.1.1) (patch_field ⊗ number_field 2 ⊗ byte_field ⊗ number_field 2))
    ∷ (SUPER, super_field)
    ∷ []

-- what a row of these with the code reads; other codes aren't read
abbrev pub by_code : List (ℕ × Reads Record) → ℕ → Reads Record
by_code [] code rest = Err Unread
by_code (row ∷ more) code rest = if code == row.0 then row.1 rest else by_code more code rest

-- the record at the start of the bytes, and the bytes after it
unfoldable pub first_record : Layout → Reads Record
first_record l [] = Err Cut
first_record l (code ∷ rest) =
    if code == 0x00 then Ok (End, rest)
    else if nat_lt code 0xE0 then taken_as Const (bytes_field code) rest
    else by_code (rows l) code rest

-- where the reader of a body is
pub record Reader : Type 0 where
  -- the displacement in the file at which the segment ends
  pub end : ℕ
  -- the segment's bytes that are left
  pub left : List ℕ
  -- END was handed out
  pub ended : Bool
  pub layout : Layout

abbrev pub is_end : Record → Bool
is_end End = true
is_end _ = false

-- what the reader answers next: a record with its displacement, after END nothing, or the first fault with its place
unfoldable pub next_answer : Reader → Result (Option (ℕ × Record)) RecordFault
next_answer r = let at = r.end - length r.left in if r.ended then Ok None else elim (first_record r.layout r.left) [
  | Ok found ↦ Ok (Some (at, found.0))
  | Err flaw ↦ Err (elim flaw [ Cut ↦ Truncated r.end | Unread ↦ Unsupported (slice_index r.left 0) at | Broken ↦ BadRecord at ])
]

-- where it is then: after the record, or, after END or a fault, where it was
unfoldable pub after_next : Reader → Reader
after_next r = if r.ended then r else elim (first_record r.layout r.left) [
  | Ok found ↦ record r { left = found.1; ended = is_end found.0 }
  | Err flaw ↦ r
]

-- The first reader hands out these records, each with its displacement, and then it is the second one.
abbrev pub HandsOut : Reader → List (ℕ × Record) → Reader → Type 0
HandsOut r [] after = r ≡ after
HandsOut r (found ∷ founds) after = (next_answer r ≡ Ok (Some found)) × HandsOut (after_next r) founds after

-- ---- all records of a body

-- the first records that a reader hands out, n at most
unfoldable pub first_records : ℕ → Reader → List (ℕ × Record)
first_records zero r = []
first_records (suc n) r = elim (next_answer r) [
  | Ok (Some found) ↦ found ∷ first_records n (after_next r)
  | Ok None ↦ []
  | Err fault ↦ []
]

-- the records that a reader hands out: no more than there are bytes, since each record has one at least
unfoldable pub records_of : Reader → List (ℕ × Record)
records_of r = first_records (length r.left) r

-- the records from there on end with END
pub record IsBody (reader : Reader) : Type 0 where
  pub last : Reader
  pub run : HandsOut reader (records_of reader) last
  pub ended : last.ended ≡ true
