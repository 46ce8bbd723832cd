-- What is kept of a segment's header, and what the segment asks of its place (GS/OS Reference, appendix F, "Segment header";
-- the wants are this project's own).
use Rattle.std.specs.Prelude.{ℕ, zero, suc, Bool, ◌+◌, ◌/◌, ◌%◌, ◌==◌, ◌&&◌, max, false, not, List, [], ◌∷◌, Option, Some, None, slice_get, if◌then◌else◌}
use Rattle.omf_format.specs.Header.{form_of, is_dynamic, is_skipped, is_absolute_bank, is_bank_relative, avoids_special, stays_in_bank, alignment_of}
use Rattle.omf_format.specs.File.{Segment}
use Rattle.iigs_meaning.specs.declared.wants.Want.{Want}
pub use Rattle.loader_machine.specs.declared.seen.SegmentHead.{SegmentHead}
pub use Rattle.loader_machine.specs.declared.seen.Facts.{Facts}

abbrev pub head_of : Segment → SegmentHead
head_of s = record {
  length = s.fields.length;
  kind = s.fields.kind;
  bank_size = s.fields.bank_size;
  align = s.fields.align;
  org = s.fields.org;
  entry = s.fields.entry;
}

-- the element with a number, from 1
abbrev pub at_number : {X : Type 0} → List X → ℕ → Option X
at_number xs zero = None
at_number xs (suc k) = slice_get xs k

-- loaded with its file: neither dynamic nor skipped
abbrev pub is_static : SegmentHead → Bool
is_static head = not (is_dynamic head.kind) && not (is_skipped head.kind)

-- a jump table
abbrev pub is_table : SegmentHead → Bool
is_table head = form_of head.kind == 0x02

-- ---- ORG

abbrev pub some_if : Bool → ℕ → Option ℕ
some_if asked n = if asked then Some n else None

-- ---- wants

-- What is asked of a segment's place, which is room for LENGTH bytes and one at least: direct page and stack are in bank 0, on a page at
-- least. Every other segment asks for what its header says; an ORG other than 0 fixes the bank where it is an absolute bank alone, the place in
-- a bank where it is bank relative alone, and else the address.
unfoldable pub want_of : SegmentHead → Want
want_of head = if form_of head.kind == 0x12 then record {
  size = max 1 head.length;
  align = max 0x100 (alignment_of head.align);
  no_cross = stays_in_bank head.bank_size;
  no_special = false;
  at = None;
  bank = Some 0;
  low = None;
} else (
    let asks = not (head.org == 0) in
    let fixes_bank = asks && (is_absolute_bank head.kind && not (is_bank_relative head.kind)) in
    let fixes_low = asks && (is_bank_relative head.kind && not (is_absolute_bank head.kind)) in
    record {
      size = max 1 head.length;
      align = alignment_of head.align;
      no_cross = stays_in_bank head.bank_size;
      no_special = avoids_special head.kind;
      at = some_if (asks && (not fixes_bank && not fixes_low)) head.org;
      bank = some_if fixes_bank (head.org / 0x10000);
      low = some_if fixes_low (head.org % 0x10000);
    })

-- the wants of the static segments, in order
abbrev pub wants_of : List SegmentHead → List Want
wants_of [] = []
wants_of (head ∷ heads) = if is_static head then want_of head ∷ wants_of heads else wants_of heads

-- the number of the static segment at a place among the static ones, from 0, where the list begins with this number
abbrev pub number_of : ℕ → List SegmentHead → ℕ → ℕ
number_of number [] place = number
number_of number (head ∷ heads) zero = if is_static head then number else number_of (number + 1) heads zero
number_of number (head ∷ heads) (suc place) =
    if is_static head then number_of (number + 1) heads place else number_of (number + 1) heads (suc place)

-- where a program begins: the place of its first static segment of code plus that one's ENTRY, modulo 2^24. The list begins with
-- this number.
abbrev pub entry_in : List SegmentHead → (ℕ → ℕ) → ℕ → Option ℕ
entry_in [] place number = None
entry_in (head ∷ heads) place number =
    if is_static head && form_of head.kind == 0x00 then Some ((place number + head.entry) % 0x1000000) else entry_in heads place (number + 1)
