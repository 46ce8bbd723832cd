-- How a value fits into an expression record, and the cells of records at their places.
use Rattle.std.specs.Prelude.{ℕ, ◌+◌, ◌-◌, ◌/◌, ◌%◌, ◌^◌, Bool, false, not, ◌&&◌, ◌||◌, ℤ, pos, List, [], ◌∷◌, length, map, Option, Some, None, Result, Ok, Err, nat_lt, nat_le, ◌==◌, if◌then◌else◌, slice_get, position, unwrap_or, ok_or, option_and_then, true}
use Rattle.std.specs.List.{list_any}
use Rattle.byteorder.specs.Endian.{little_bytes}
use Rattle.omf_format.specs.declared.codes.TheConstants.{EXPR, BEXPR, RELEXPR, LEXPR}
use Rattle.omf_format.specs.declared.value.Value.{Value}
use Rattle.omf_format.specs.declared.value.Value.TheVariants.{Fixed, At}
use Rattle.omf_format.specs.declared.value.ValueFault.{ValueFault}
use Rattle.omf_format.specs.declared.value.ValueFault.TheVariants as faults
use Rattle.omf_format.specs.Header.{HeaderFields, is_dynamic}
use Rattle.omf_format.specs.Value.{is_unshifted}
use Rattle.load_meaning.specs.Cells.{Cell, Byte, Part, parts_from}
use Rattle.load_meaning.specs.declared.table.Target.{Target}
use Rattle.load_meaning.specs.Table.{is_same, with_target, most_entries, entry_place}
use Rattle.omf_format.specs.File.{segment_at}
use Rattle.std.specs.Option.{option_map_or}
use Rattle.link_meaning.specs.declared.form.LinkForm.TheVariants.{Program, Runtime as LibraryForm}
use Rattle.link_meaning.specs.Member.{LinkSetting}
use Rattle.link_meaning.specs.declared.fault.LinkCause.{LinkCause}
use Rattle.link_meaning.specs.declared.fault.LinkCause.TheVariants.{DivideByZero, NotRelocatable, DynamicReference, OutOfSegment, TooManyEntries, DoesNotFit}

-- ---- the table of what fits

-- where an expression record is: its load segment's number and BANKSIZE, and its place in the load segment
pub record PatchPlace : Type 0 where
  pub own : ℕ
  pub bank_size : ℕ
  pub place : ℕ
  pub setting : LinkSetting

-- what a value becomes: the low bytes of a number, the bytes of a place, or those of the place of the table's entry for a target
pub data Fit : Type 0 where
  Number : (n : ℕ) → Fit
  Place : (segment offset : ℕ) (shift : ℤ) → Fit
  Entry : (target : Target) → Fit

-- a place fits EXPR and LEXPR, a place of the record's own load segment BEXPR where it lies in one bank, and RELEXPR takes the distance to it
-- from the record, in two's complement, where it fits signed
abbrev pub place_fit : PatchPlace → ℕ → ℕ → ℕ → ℕ → ℕ → ℤ → Option Fit
place_fit f code count n segment offset shift =
    let near = segment == f.own && is_unshifted shift in
    if code == EXPR || code == LEXPR then Some (Place segment offset shift)
    else if code == BEXPR then (if near && not (f.bank_size == 0) then Some (Place segment offset shift) else None)
    else if code == RELEXPR then (
    if near then (
    if nat_le (f.place + n) (offset + 256 ^ count / 2) && nat_lt offset (f.place + n + 256 ^ count / 2)
    then Some (Number ((offset + 256 ^ count - (f.place + n)) % 256 ^ count))
    else None)
    else None)
    else None

-- ---- dynamic segments

abbrev pub load_header : List HeaderFields → ℕ → Option HeaderFields
load_header headers number = slice_get headers (number - 1)

abbrev pub is_dynamic_load : List HeaderFields → ℕ → Bool
is_dynamic_load headers number = elim (load_header headers number) [ None ↦ false | Some f ↦ is_dynamic f.kind ]

abbrev pub length_of : List HeaderFields → ℕ → ℕ
length_of headers number = elim (load_header headers number) [ None ↦ 0 | Some f ↦ f.length ]

-- the last of the cells is the byte $22
abbrev pub ends_in_jsl : List Cell → Bool
ends_in_jsl [] = false
ends_in_jsl (c ∷ []) = elim c [ Byte b ↦ b == 0x22 | Part file segment offset shift index ↦ false ]
ends_in_jsl (c ∷ d ∷ cells) = ends_in_jsl (d ∷ cells)

-- LENGTH of a segment of a run-time library file, of which the first has the number 2
abbrev pub length_outside : LinkSetting → ℕ → ℕ → ℕ
length_outside setting file segment =
    option_map_or (λ s. s.fields.length) (option_and_then (λ r. segment_at r.segments segment) (slice_get setting.runtimes (file - 2))) 0

-- such a place is reached by a call alone, through the table, which only a program has: the place is below LENGTH of its segment, and its
-- target has an entry, or there is room for one more
abbrev pub call_fit : List HeaderFields → LinkSetting → List Target → Bool → Target → Result Fit LinkCause
call_fit headers setting targets call target =
    if not ((elim setting.form [ Program ↦ true | LibraryForm ↦ false ]) && call) then Err DynamicReference
    else if nat_le (if target.file == 1 then length_of headers target.segment else length_outside setting target.file target.segment) target.offset
    then Err OutOfSegment
    else if not (list_any (is_same target) targets || nat_lt (length targets) most_entries) then Err TooManyEntries
    else Ok (Entry target)

-- a number fits EXPR, and every other record but RELEXPR where its bytes hold it; a place in a run-time library file, or in another dynamic
-- load segment, is called by LEXPR of three bytes, without a shift, after a byte $22
abbrev pub fit_value : List HeaderFields → PatchPlace → List Target → List Cell → ℕ → ℕ → ℕ → Value → Result Fit LinkCause
fit_value headers f targets before code count n (Fixed k) = ok_or (
    if code == EXPR then Some (Number k)
    else if code == RELEXPR then None
    else if nat_lt k (256 ^ count) then Some (Number k)
    else None) DoesNotFit
fit_value headers f targets before code count n (At file segment offset shift) =
    if not (file == 1) || (not (segment == f.own) && is_dynamic_load headers segment)
    then call_fit headers f.setting targets (code == LEXPR && count == 3 && is_unshifted shift && ends_in_jsl before)
    (record { file = file; segment = segment; offset = offset })
    else ok_or (place_fit f code count n segment offset shift) DoesNotFit

-- ---- cells

-- the cells of a fit in a given number of bytes, with the targets up to it; the table is the load segment with this number
abbrev pub parts : ℕ → ℕ → ℕ → ℤ → List Cell
parts count segment offset shift =
    parts_from (record { location = 0; count = count; file = 1; segment = segment; offset = offset; shift = shift }) 0 count

abbrev pub fit_cells : ℕ → ℕ → List Target → Fit → List Cell
fit_cells table count targets (Number n) = map Byte (little_bytes count n)
fit_cells table count targets (Place segment offset shift) = parts count segment offset shift
fit_cells table count targets (Entry target) =
    parts count table (entry_place (unwrap_or (position (is_same target) targets) (length targets))) (pos 0)

abbrev pub targets_after : List Target → Fit → List Target
targets_after targets (Number n) = targets
targets_after targets (Place segment offset shift) = targets
targets_after targets (Entry target) = with_target targets target

-- the value, or its fault as one of the linker; the names are known here, so there is no `Unknown`
abbrev pub value_or_cause : Result Value ValueFault → Result Value LinkCause
value_or_cause (Ok v) = Ok v
value_or_cause (Err fault) = Err (elim fault [ faults.DivideByZero ↦ DivideByZero | faults.NotRelocatable ↦ NotRelocatable | faults.Unknown at ↦ NotRelocatable ])
