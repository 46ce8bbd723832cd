-- Steps of definitions, as words of laws and of contracts between functions.
use Rattle.load_meaning.specs.Cells.{Cell, Patch, cells, parts_from, Byte, Part, patches_in}
use Rattle.std.specs.Prelude.{List, drop, take, ◌+◌, ◌++◌, Bool, false, not, ℕ, ◌&&◌, length, nat_le, codes, ◌||◌, ◌∷◌, None, Option, Some, ◌==◌, [], if◌then◌else◌, is_none}
use Rattle.omf_format.specs.File.{Segment, segment_at}
use Rattle.omf_format.specs.Header.{is_dynamic, is_skipped}
use Rattle.std.specs.Option.{option_map_or, option_or}
use Rattle.load_meaning.specs.Pathnames.{paths_of}
use Rattle.load_meaning.specs.LoadTable.{Check, entries_checks, zero_checks, is_call, is_place}
use Rattle.load_meaning.specs.Table.{entry_start}
use Rattle.std.specs.Str.{bytes_eq}
use Rattle.load_meaning.specs.Loadable.{Fault, entry_refusal, first_refusal}
use Rattle.load_meaning.specs.declared.load.LoadFault.{LoadFault}
use Rattle.byteorder.specs.Endian.{little_bytes}
use Rattle.std.specs.List.{filter}
use Rattle.load_meaning.specs.WrittenBody.{super_form, body_records, data_records}
use Rattle.load_meaning.specs.WrittenFile.{Image}
use Rattle.omf_format.specs.Record.{Record}
use Rattle.omf_format.specs.Number.{number_at}
use Rattle.load_meaning.specs.declared.load.LoadCause.{LoadCause}

-- the cells with one patch over them
abbrev pub with_patch : List Cell → Patch → List Cell
with_patch cells p = take p.location cells ++ parts_from p 0 p.count ++ drop (p.location + p.count) cells

-- an entry can lead to this segment: it is there and dynamic, and isn't skipped
abbrev pub is_called : List Segment → ℕ → Bool
is_called segments number =
    option_map_or (λ s. is_dynamic s.fields.kind && not (is_skipped s.fields.kind)) (segment_at segments number) false

-- the number of a file to which an entry can lead: 1 is the file itself, and each row of the pathname segment has one more
abbrev pub is_file_number : List Segment → ℕ → Bool
is_file_number segments file = nat_le 1 file && nat_le file (length (paths_of segments) + 1)

-- all fields of a table of n entries, in the order of their displacements
abbrev pub table_checks : List Segment → List ℕ → ℕ → List Check
table_checks segments bytes n = zero_checks bytes 0 8 ++ (entries_checks segments bytes 0 n ++ zero_checks bytes (entry_start n) 4)

-- `ExpressLoad`, with or without `~` before it, is the name of segments for the Express Loader
abbrev pub express_name : List ℕ
express_name = codes "ExpressLoad"

abbrev pub is_express : List ℕ → Bool
is_express name = bytes_eq name express_name || bytes_eq name (126 ∷ express_name)

-- a segment that is there and isn't skipped
abbrev pub is_kept : List Segment → ℕ → Bool
is_kept segments number = option_map_or (λ s. not (is_skipped s.fields.kind)) (segment_at segments number) false

-- a segment that is there and dynamic
abbrev pub is_dynamic_at : List Segment → ℕ → Bool
is_dynamic_at segments number = option_map_or (λ s. is_dynamic s.fields.kind) (segment_at segments number) false

-- a fault as that of the segment with this number
abbrev pub in_segment : ℕ → Fault → LoadFault
in_segment number fault = record { cause = fault.0; segment = number; at = fault.1 }

-- the low bytes of the offset, and in a SUPER of type 2 the segment as the third byte
abbrev pub stored_as : Patch → Option ℕ → List ℕ
stored_as p None = little_bytes p.count p.offset
stored_as p (Some form) = if form == 2 then little_bytes 2 p.offset ++ p.segment ∷ [] else little_bytes p.count p.offset

abbrev pub is_form : ℕ → Option ℕ → Bool
is_form form None = false
is_form form (Some other) = other == form

abbrev pub is_zero : Cell → Bool
is_zero (Byte b) = b == 0
is_zero (Part file segment offset shift index) = false

abbrev pub has_none : Option ℕ → Bool
has_none form = is_none form

abbrev pub patches_stored_alone : ℕ → List Patch → List Patch
patches_stored_alone own patches = filter (λ p. is_none (super_form own p)) patches

-- its records without END
abbrev pub image_records : Image → List Record
image_records image = (if image.whole then data_records image.content else body_records image.fields.seg_num image.content image.patches) ++ image.exports

-- the low bytes of the offset, and in a SUPER of type 2 the segment as the third byte
abbrev pub stored_bytes : ℕ → Patch → List ℕ
stored_bytes own p = elim (super_form own p) [
  | None ↦ little_bytes p.count p.offset
  | Some form ↦ if form == 2 then little_bytes 2 p.offset ++ p.segment ∷ [] else little_bytes p.count p.offset
]

-- the fields of an entry that begins there: user ID 0; a file, of which 1 is the file itself and each row of the pathname segment has one
-- more; where it is the file itself, a segment that is there, is dynamic and isn't skipped, and an offset in it; and the JSL
abbrev pub entry_checks : List Segment → List ℕ → ℕ → List Check
entry_checks segments bytes at =
    let own = number_at 2 (at + 2) bytes == 1 in
    (not (number_at 2 at bytes == 0), at)
    ∷ (not (nat_le 1 (number_at 2 (at + 2) bytes) && nat_le (number_at 2 (at + 2) bytes) (length (paths_of segments) + 1)), at + 2)
    ∷ (
      own && not (option_map_or (λ s. is_dynamic s.fields.kind && not (is_skipped s.fields.kind)) (segment_at segments (number_at 2 (at + 4) bytes)) false),
      at + 4,
    )
    ∷ (own && not (is_place segments (number_at 2 (at + 4) bytes) (number_at 4 (at + 6) bytes)), at + 6)
    ∷ (not (is_call bytes (at + 10)), at + 10)
    ∷ []

-- phase 3 of a record of a segment: an ENTRY names a place, and each patch is allowed there
abbrev pub target_refusal : List Segment → Segment → Record → Option LoadCause
target_refusal segments s r = option_or (entry_refusal segments r) (first_refusal segments s (patches_in s r))
