-- The records that lines give, and where they are (GS/OS Reference, appendix F).
use Rattle.std.specs.Prelude.{ℕ, ◌+◌, List, [], ◌∷◌, ◌++◌, length, drop, map, replicate, Option, Some, None}
use Rattle.std.specs.List.{flat_map}
use Rattle.omf_format.specs.Record.{Record, Const, LongConst, Formula}
use Rattle.object_meaning.specs.Sizes.{size_at}
use Rattle.asm_meaning.specs.Object.{records_text, object_text}
use Rattle.asm_meaning.specs.Pieces.{place_after}
use Rattle.asm_meaning.specs.State.{StartedSegment, FinishedSegment, State}

-- the records of the open segment
abbrev pub open_records : Option StartedSegment → List Record
open_records None = []
open_records (Some s) = s.body

-- the records of segments that have ended, one after another
abbrev pub records_of_ended : List FinishedSegment → List Record
records_of_ended ended = flat_map (λ s. s.body) ended

-- all records that lines have given so far
abbrev pub records_in : State → List Record
records_in state = records_of_ended state.ended ++ open_records state.segment

-- those that lines give which leave `next` where `state` was left
abbrev pub given_records : State → State → List Record
given_records state next = drop (length (records_in state)) (records_in next)

-- ---- places

-- the bytes of the open segment's header, or of that of the last segment that has ended
abbrev pub header_size : State → ℕ
header_size state = 0x37 + elim state.segment [ Some s ↦ length s.header.name | None ↦ last_name_size state.ended ]
  where
    -- the length of the last segment's name
    last_name_size : List FinishedSegment → ℕ
    last_name_size [] = 0
    last_name_size (s ∷ []) = length s.header.name
    last_name_size (s ∷ t ∷ more) = last_name_size (t ∷ more)

-- where records are: the segment's number from 1, the offset in it, and the displacement in the object
pub record RecordPlace : Type 0 where
  pub segment : ℕ
  pub offset : ℕ
  pub displacement : ℕ

-- the place of the records that lines give which leave `next` where `state` was left
abbrev pub place_of : State → State → RecordPlace
place_of state next = record {
  segment = length state.ended + 1;
  offset = place_after 0 (open_records state.segment);
  displacement = length (object_text state.ended) + header_size next + length (records_text (open_records state.segment));
}

-- ---- cells

-- the cells of a record at this place of its segment: constant bytes, bytes of an expression, which have no value yet, and zeros
abbrev pub record_cells : ℕ → Record → List (Option ℕ)
record_cells at (Const bytes) = map (λ byte. Some byte) bytes
record_cells at (LongConst bytes) = map (λ byte. Some byte) bytes
record_cells at (Formula code count n expr) = replicate count None
record_cells at content = replicate (size_at at content) (Some 0)

-- those of records, of which the first is at this place
abbrev pub cells_from : ℕ → List Record → List (Option ℕ)
cells_from at [] = []
cells_from at (content ∷ contents) = record_cells at content ++ cells_from (at + size_at at content) contents
