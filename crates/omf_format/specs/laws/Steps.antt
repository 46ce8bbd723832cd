-- Steps of definitions, as words of laws and of contracts between functions.
use Rattle.omf_format.specs.Record.{Const, Record, LongConst, Align, Org, Space, Reloc, InterSeg, ShortReloc, ShortInterSeg, Using, Strong, Formula, Entry}
use Rattle.omf_format.specs.Ascii as ascii
use Rattle.omf_format.specs.Field.{Reads, bytes_field, taken_as, number_field, ◌>>=◌, field_that_passes, ◌⊗◌, byte_field, name_field, count_field}
use Rattle.std.specs.Prelude.{ℕ, nat_lt, ◌^◌, slice_index, Err, List, Ok, Option, Result, Some, None, ◌∷◌, [], Bool, suc, zero, ◌+◌, if◌then◌else◌, ◌*◌, ◌/◌, ◌%◌, ◌||◌, ◌==◌, ℤ, int_div, int_rem, ◌-◌, not, ◌&&◌, int_le, int_lt, bit_and, bit_or, bit_xor, ok_or, nat_le, length}
use Rattle.omf_format.specs.declared.fault.Flaw.TheVariants.{Unread, Broken, Cut}
use Rattle.omf_format.specs.Reading.{patch_field, Reader, is_end}
use Rattle.omf_format.specs.declared.codes.TheConstants.{RELEXPR}
use Rattle.omf_format.specs.Expression.{expression_field}
use Rattle.omf_format.specs.declared.fault.RecordFault.TheVariants.{BadRecord, Truncated, Unsupported}
use Rattle.omf_format.specs.declared.fault.Flaw.{Flaw}
use Rattle.omf_format.specs.declared.fault.RecordFault.{RecordFault}
use Rattle.omf_format.specs.Super.{end_pages}
use Rattle.omf_format.specs.declared.fault.HeaderFault.{HeaderFault}
use Rattle.omf_format.specs.Header.{checks_of, fields_of, version_of, HeaderFields}
use Rattle.std.specs.Int.{cast_unsigned, w32}
use Rattle.omf_format.specs.Value.{shifted_bits, signed, wrapped_to_32_bits, is_true, truth, Environment}
use Rattle.omf_format.specs.declared.value.ValueFault.TheVariants.{Unknown}
use Rattle.omf_format.specs.declared.value.ValueFault.{ValueFault}
use Rattle.omf_format.specs.declared.value.Value.TheVariants.{Fixed}
use Rattle.omf_format.specs.declared.value.Value.{Value}
use Rattle.omf_format.specs.Number.{number_at}

abbrev pub constant_field : ℕ → Reads Record
constant_field n = taken_as Const (bytes_field n)

abbrev pub long_constant_field : Reads Record
long_constant_field rest = number_field 4 rest >>= λ n. taken_as LongConst (bytes_field n.0) n.1

abbrev pub align_field : Reads Record
align_field = taken_as Align (number_field 4)

-- a negative number would move the location counter back
abbrev pub org_field : Reads Record
org_field = taken_as Org (field_that_passes (λ n. nat_lt n (2 ^ 31)) Unread (number_field 4))

abbrev pub space_field : Reads Record
space_field = taken_as Space (number_field 4)

abbrev pub reloc_field : Reads Record
reloc_field = taken_as (λ x. Reloc x.0.0 x.0.1 x.1.0 x.1.1) (patch_field ⊗ number_field 4 ⊗ number_field 4)

abbrev pub interseg_field : Reads Record
interseg_field = taken_as (λ x. InterSeg x.0.0 x.0.1 x.1.0 x.1.1.0 x.1.1.1.0 x.1.1.1.1)
    (patch_field ⊗ number_field 4 ⊗ number_field 2 ⊗ number_field 2 ⊗ number_field 4)

abbrev pub short_reloc_field : Reads Record
short_reloc_field = taken_as (λ x. ShortReloc x.0.0 x.0.1 x.1.0 x.1.1) (patch_field ⊗ number_field 2 ⊗ number_field 2)

abbrev pub short_interseg_field : Reads Record
short_interseg_field = taken_as (λ x. ShortInterSeg x.0.0 x.0.1 x.1.0 x.1.1.0 x.1.1.1) (patch_field ⊗ number_field 2 ⊗ byte_field ⊗ number_field 2)

abbrev pub using_field : ℕ → Reads Record
using_field lab_len = taken_as Using (name_field lab_len)

abbrev pub strong_field : ℕ → Reads Record
strong_field lab_len = taken_as Strong (name_field lab_len)

abbrev pub distance_field : ℕ → Reads Record
distance_field lab_len = taken_as (λ x. Formula RELEXPR x.0 x.1.0 x.1.1) (count_field ⊗ number_field 4 ⊗ expression_field lab_len)

abbrev pub entry_field : ℕ → Reads Record
entry_field lab_len = taken_as (λ x. Entry x.0 x.1.0 x.1.1) (number_field 2 ⊗ number_field 4 ⊗ name_field lab_len)

abbrev pub reader_after : Reader → Result (Record × List ℕ) Flaw → Reader
reader_after r (Ok found) = record r { left = found.1; ended = is_end found.0 }
reader_after r (Err flaw) = r

-- an answer and then these, or none where the answer is no record
abbrev pub answer_then : Result (Option (ℕ × Record)) RecordFault → List (ℕ × Record) → List (ℕ × Record)
answer_then answer founds = elim answer [ Ok (Some found) ↦ found ∷ founds | Ok None ↦ [] | Err fault ↦ [] ]

abbrev pub are_pages : List ℕ → Bool
are_pages bytes = end_pages 0 bytes

-- how many low bytes of the current page are left after a byte, where this many were left before it
abbrev pub lows_after : ℕ → ℕ → ℕ
lows_after lows byte = elim lows [ zero ↦ if nat_lt byte 0x80 then byte + 1 else 0 | suc n ↦ n ]

-- KIND of version 1 is one byte: the type in bits 0 to 4, and in bits 5 to 7 what later versions have in bits 13 to 15
abbrev pub kind_of_byte : ℕ → ℕ
kind_of_byte byte = byte % 32 + 256 * (byte / 32 * 32)

-- the versions that are read
abbrev pub is_read_version : ℕ → Bool
is_read_version version = version == 1 || version == 2

abbrev pub header_checks : List ℕ → List (Bool × HeaderFault)
header_checks bytes = checks_of (fields_of bytes) bytes

abbrev pub bits_of : ℤ → ℕ
bits_of z = cast_unsigned w32 z

-- add, subtract, multiply, divide (towards zero), modulo (with the dividend's sign), shift; a divisor isn't 0
abbrev pub arithmetic : ℕ → ℕ → ℕ → ℕ
arithmetic code a b =
    if code == 0x01 then wrapped_to_32_bits (a + b)
    else if code == 0x02 then wrapped_to_32_bits (a + (2 ^ 32 - b))
    else if code == 0x03 then wrapped_to_32_bits (a * b)
    else if code == 0x04 then bits_of (int_div (signed a) (signed b))
    else if code == 0x05 then bits_of (int_rem (signed a) (signed b))
    else shifted_bits a (signed b)

-- logical AND, OR, EOR
abbrev pub logical : ℕ → ℕ → ℕ → ℕ
logical code a b =
    if code == 0x08 then truth (is_true a && is_true b)
    else if code == 0x09 then truth (is_true a || is_true b)
    else truth ((is_true a && not (is_true b)) || (is_true b && not (is_true a)))

-- <=, >=, <>, <, >, =, all of signed numbers
abbrev pub comparison : ℕ → ℕ → ℕ → ℕ
comparison code a b =
    if code == 0x0C then truth (int_le (signed a) (signed b))
    else if code == 0x0D then truth (int_le (signed b) (signed a))
    else if code == 0x0E then truth (not (a == b))
    else if code == 0x0F then truth (int_lt (signed a) (signed b))
    else if code == 0x10 then truth (int_lt (signed b) (signed a))
    else truth (a == b)

-- bit AND, OR, EOR
abbrev pub bitwise : ℕ → ℕ → ℕ → ℕ
bitwise code a b =
    if code == 0x12 then bit_and a b
    else if code == 0x13 then bit_or a b
    else bit_xor a b

-- an answer, or that there is none for the term at this place
abbrev pub known_or_fault : {A : Type 0} → ℕ → Option A → Result A ValueFault
known_or_fault at answer = ok_or answer (Unknown at)

-- $82 is a weak name and $83 a name; $84, $85 and $86 ask for its length, type and count
abbrev pub named_value : Environment → ℕ → ℕ → List ℕ → Result Value ValueFault
named_value env at code name =
    if nat_le code 0x83 then known_or_fault at (env.label name (code == 0x82))
    else known_or_fault at (env.attribute code name) >>= λ n. Ok (Fixed n)

abbrev pub is_end_byte : ℕ → Bool
is_end_byte byte = byte == ascii.line_feed || byte == ascii.carriage_return

-- BYTECNT is the number at $00; in version 1 that number counts blocks of 512 bytes
abbrev pub byte_count_of : List ℕ → ℕ
byte_count_of bytes = if version_of bytes == 1 then 512 * number_at 4 0x00 bytes else number_at 4 0x00 bytes

-- the displacement in the file of the next record's code
abbrev pub place_of : Reader → ℕ
place_of r = r.end - length r.left

-- a flaw of the next record, with its place
abbrev pub fault_at : Reader → Flaw → RecordFault
fault_at r flaw = elim flaw [ Cut ↦ Truncated r.end | Unread ↦ Unsupported (slice_index r.left 0) (place_of r) | Broken ↦ BadRecord (place_of r) ]

abbrev pub answer_of_reader : Reader → Result (Record × List ℕ) Flaw → Result (Option (ℕ × Record)) RecordFault
answer_of_reader r (Ok found) = Ok (Some (place_of r, found.0))
answer_of_reader r (Err flaw) = Err (fault_at r flaw)

-- the widths and values of the written header's numbers, in order
abbrev pub written_numbers : HeaderFields → List (ℕ × ℕ)
written_numbers f =
    (4, f.byte_count) ∷ (4, f.res_spc) ∷ (4, f.length) ∷ (1, 0) ∷ (1, f.lab_len) ∷ (1, 4) ∷ (1, f.version)
    ∷ (4, f.bank_size) ∷ (2, f.kind) ∷ (2, 0) ∷ (4, f.org) ∷ (4, f.align) ∷ (1, 0) ∷ (1, 0)
    ∷ (2, f.seg_num) ∷ (4, f.entry) ∷ (2, f.disp_name) ∷ (2, f.disp_data) ∷ []
