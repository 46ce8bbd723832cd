-- How segments of an object are read again: they have the headers and the records that the lines leave, and LENGTH is the number of
-- cells, so the linker takes the place of a label from where its LOCAL or GLOBAL is.
use Rattle.std.specs.Prelude.{◌≡◌, List, [], ◌∷◌, length, map}
use Rattle.omf_format.specs.Header.{written_fields}
use Rattle.omf_format.specs.File as format
use Rattle.object_meaning.specs.Sizes.{body_size}
use Rattle.asm_meaning.specs.Object.{records_text}
use Rattle.asm_meaning.specs.State.{FinishedSegment}

-- the segment has the header that was written and these records
pub record IsReadAs (e : FinishedSegment) (s : format.Segment) : Type 0 where
  pub fields : s.fields ≡ written_fields e.header (length (records_text e.body))
  pub records : map (λ found. found.1) s.records ≡ e.body
  -- LENGTH is the number of cells that the linker counts
  pub cells : s.fields.length ≡ body_size s

-- as many segments are read, each with what was written
abbrev pub AreReadAs : List FinishedSegment → List format.Segment → Type 0
AreReadAs [] [] = Unit {0}
AreReadAs [] (s ∷ segments) = ⊥
AreReadAs (e ∷ ended) [] = ⊥
AreReadAs (e ∷ ended) (s ∷ segments) = IsReadAs e s × AreReadAs ended segments
