-- A segment's header: its fields, and the checks that it has to pass (GS/OS Reference, appendix F, "Segment header").
use Rattle.std.specs.Prelude.{◌≡◌, ◌≤◌, ℕ, ◌+◌, ◌*◌, ◌/◌, ◌%◌, Bool, true, not, ◌||◌, bit_and, List, [], ◌∷◌, ◌++◌, length, take, drop, Option, Some, None, nat_lt, nat_le, ◌==◌, if◌then◌else◌}
use Rattle.std.specs.List.{list_any}
use Rattle.byteorder.specs.Endian.{little_bytes}
use Rattle.omf_format.specs.declared.fault.HeaderFault.{HeaderFault}
use Rattle.omf_format.specs.declared.fault.HeaderFault.TheVariants.{Truncated, Unsupported, BadField}
use Rattle.omf_format.specs.declared.fault.Field.{Field}
use Rattle.omf_format.specs.declared.fault.Field.TheVariants.{NumLen, Version, BankSize, Kind, NumSex, DispName, DispData, ResSpc}
use Rattle.omf_format.specs.Number.{number_at}
use Rattle.omf_format.specs.Name.{name_at, name_size}

-- the fields of a header
pub record HeaderFields : Type 0 where
  pub byte_count : ℕ
  pub res_spc : ℕ
  pub length : ℕ
  pub lab_len : ℕ
  pub version : ℕ
  pub bank_size : ℕ
  pub kind : ℕ
  pub org : ℕ
  pub align : ℕ
  pub seg_num : ℕ
  pub entry : ℕ
  pub disp_name : ℕ
  pub disp_data : ℕ
  pub load_name : List ℕ
  pub name : List ℕ

-- VERSION is at $0F
unfoldable pub version_of : List ℕ → ℕ
version_of bytes = number_at 1 0x0F bytes

-- KIND is the number at $14; in version 1 it is the byte at $0C, with the type in bits 0 to 4, and in bits 5 to 7 what later versions have
-- in bits 13 to 15
unfoldable pub kind_of : List ℕ → ℕ
kind_of bytes =
    if version_of bytes == 1 then number_at 1 0x0C bytes % 32 + 256 * (number_at 1 0x0C bytes / 32 * 32) else number_at 2 0x14 bytes

-- each field is at its displacement, where BYTECNT of version 1 counts blocks of 512 bytes, and at DISPNAME are the load name of ten bytes
-- and the segment's name
unfoldable pub fields_of : List ℕ → HeaderFields
fields_of bytes = record {
  byte_count = if version_of bytes == 1 then 512 * number_at 4 0x00 bytes else number_at 4 0x00 bytes;
  res_spc = number_at 4 0x04 bytes;
  length = number_at 4 0x08 bytes;
  lab_len = number_at 1 0x0D bytes;
  version = version_of bytes;
  bank_size = number_at 4 0x10 bytes;
  kind = kind_of bytes;
  org = number_at 4 0x18 bytes;
  align = number_at 4 0x1C bytes;
  seg_num = number_at 2 0x22 bytes;
  entry = number_at 4 0x24 bytes;
  disp_name = number_at 2 0x28 bytes;
  disp_data = number_at 2 0x2A bytes;
  load_name = take 10 (drop (number_at 2 0x28 bytes) bytes);
  name = name_at (number_at 1 0x0D bytes) (number_at 2 0x28 bytes + 10) bytes;
}

-- the displacement at which the names end
unfoldable pub names_end : List ℕ → ℕ
names_end bytes = number_at 2 0x28 bytes + 10 + name_size (number_at 1 0x0D bytes) (number_at 2 0x28 bytes + 10) bytes

-- ---- KIND, BANKSIZE and ALIGN

-- the type of a segment is in the low five bits of KIND
abbrev pub form_of : ℕ → ℕ
form_of kind = kind % 32

-- code, data, jump table, pathname, library dictionary, initialization, direct page and stack
abbrev pub is_listed : ℕ → Bool
is_listed form = list_any (λ t. t == form) (0x00 ∷ 0x01 ∷ 0x02 ∷ 0x04 ∷ 0x08 ∷ 0x10 ∷ 0x12 ∷ [])

-- an attribute is a bit of KIND
abbrev pub has_attribute : ℕ → ℕ → Bool
has_attribute bit kind = not (bit_and kind bit == 0)

-- the bank that it asks for is relative
abbrev pub is_bank_relative : ℕ → Bool
is_bank_relative kind = has_attribute 0x0100 kind

-- it is never loaded
abbrev pub is_skipped : ℕ → Bool
is_skipped kind = has_attribute 0x0200 kind

-- it is read again at each restart
abbrev pub is_reload : ℕ → Bool
is_reload kind = has_attribute 0x0400 kind

-- ORG asks for a bank
abbrev pub is_absolute_bank : ℕ → Bool
is_absolute_bank kind = has_attribute 0x0800 kind

-- it may not lie in special memory
abbrev pub avoids_special : ℕ → Bool
avoids_special kind = has_attribute 0x1000 kind

-- its names are seen in its own file alone
abbrev pub is_private : ℕ → Bool
is_private kind = has_attribute 0x4000 kind

-- it is loaded when it is first called
abbrev pub is_dynamic : ℕ → Bool
is_dynamic kind = has_attribute 0x8000 kind

-- BANKSIZE 0 lets a segment cross banks, and every other one forbids it
abbrev pub stays_in_bank : ℕ → Bool
stays_in_bank bank_size = not (bank_size == 0)

-- the alignment of ALIGN: none, a page, or a bank
abbrev pub alignment_of : ℕ → ℕ
alignment_of align = if align == 0 then 1 else if nat_le align 0x100 then 0x100 else 0x10000

-- ---- the checks

-- the checks of a header in their order: each says what must not be so, with the fault where it is so; the bytes are those from the segment's
-- start to the file's end
abbrev pub checks_of : HeaderFields → List ℕ → List (Bool × HeaderFault)
checks_of f bytes =
    (nat_lt (length bytes) 44, Truncated (length bytes))
    ∷ (not (number_at 1 0x0E bytes == 4), Unsupported NumLen)
    ∷ (not (f.version == 1 || f.version == 2), Unsupported Version)
    ∷ (nat_lt 0x10000 f.bank_size, BadField BankSize)
    ∷ (not (is_listed (form_of f.kind)), Unsupported Kind)
    ∷ (not (number_at 1 0x20 bytes == 0), Unsupported NumSex)
    ∷ (nat_lt f.disp_name 0x2C, BadField DispName)
    ∷ (nat_lt (length bytes) f.byte_count, Truncated (length bytes))
    ∷ (nat_lt f.disp_data (names_end bytes) || nat_lt f.byte_count f.disp_data, BadField DispData)
    ∷ (nat_lt f.length f.res_spc, BadField ResSpc)
    ∷ []

-- the fault of the first check of which what must not be so is so, if there is one
abbrev pub first_of : {F : Type 0} → List (Bool × F) → Option F
first_of [] = None
first_of (check ∷ checks) = if check.0 then Some check.1 else first_of checks

-- the first fault of a header
unfoldable pub header_fault : List ℕ → Option HeaderFault
header_fault bytes = first_of (checks_of (fields_of bytes) bytes)

-- where in a header of a version a field is
abbrev pub displacement_of : ℕ → Field → ℕ
displacement_of version NumLen = 0x0E
displacement_of version Version = 0x0F
displacement_of version BankSize = 0x10
displacement_of version Kind = if version == 1 then 0x0C else 0x14
displacement_of version NumSex = 0x20
displacement_of version DispName = 0x28
displacement_of version DispData = 0x2A
displacement_of version ResSpc = 0x04

-- ---- the header that is written

-- numbers one after another, each with its width in bytes
abbrev pub laid_out : List (ℕ × ℕ) → List ℕ
laid_out [] = []
laid_out (field ∷ fields) = little_bytes field.0 field.1 ++ laid_out fields

-- the fields of a written header: LABLEN 0, VERSION 2, DISPNAME $2C, and DISPDATA and BYTECNT by the name's and the body's length
abbrev pub written_fields : HeaderFields → ℕ → HeaderFields
written_fields f body_length = record f {
  byte_count = 0x37 + length f.name + body_length;
  lab_len = 0;
  version = 2;
  disp_name = 0x2C;
  disp_data = 0x37 + length f.name;
}

-- a written header: its numbers in order, each with its width, the load name, and the segment's name after its length
unfoldable pub header_bytes : HeaderFields → ℕ → List ℕ
header_bytes f body_length =
    let h = written_fields f body_length in
    laid_out (
    (4, h.byte_count) ∷ (4, h.res_spc) ∷ (4, h.length) ∷ (1, 0) ∷ (1, h.lab_len) ∷ (1, 4) ∷ (1, h.version)
    ∷ (4, h.bank_size) ∷ (2, h.kind) ∷ (2, 0) ∷ (4, h.org) ∷ (4, h.align) ∷ (1, 0) ∷ (1, 0)
    ∷ (2, h.seg_num) ∷ (4, h.entry) ∷ (2, h.disp_name) ∷ (2, h.disp_data) ∷ [])
    ++ f.load_name ++ length f.name ∷ f.name

-- which headers may be written: those of version 2 for which the checks of BANKSIZE, KIND and RESSPC don't hold
pub record IsWritable (f : HeaderFields) : Type 0 where
  pub version : f.version ≡ 2
  pub banks : f.bank_size ≤ 0x10000
  pub listed : is_listed (form_of f.kind) ≡ true
  pub spaced : f.res_spc ≤ f.length
