-- How the records of a segment are kept.
use Rattle.std.specs.Prelude.{◌≡◌, ℕ, List, ◌++◌, replicate}
use Rattle.omf_format.specs.Record.{Record}
use Rattle.asm_meaning.specs.Object.{records_text}
use Rattle.asm_meaning.specs.Pieces.{place_after}
use Rattle.orca_object.specs.declared.state.SegmentBody.{SegmentBody}
use Rattle.orca_operands.specs.TextView.{text_within_limit, kept_text}

-- room for a header and then their bytes, as far as a file may have them all, and the number of their cells
pub record ShowsBody (room : ℕ) (records : List Record) (body : SegmentBody) : Type 0 where
  pub text : kept_text body.writer.text ≡ text_within_limit (replicate room 0 ++ records_text records)
  pub cells : body.cells ≡ place_after 0 records
