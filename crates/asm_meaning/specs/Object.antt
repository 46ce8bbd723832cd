-- What expanded lines leave, as bytes (GS/OS Reference, appendix F).
use Rattle.std.specs.Prelude.{◌≡◌, ℕ, List, [], ◌∷◌, ◌++◌, length, Ok}
use Rattle.std.specs.List.{flat_map}
use Rattle.omf_format.specs.Field.{written_layout}
use Rattle.omf_format.specs.Header.{header_bytes}
use Rattle.omf_format.specs.Record.{Record, spelling}
use Rattle.orca_meaning.specs.Line.{Line}
use Rattle.asm_meaning.specs.State.{FinishedSegment, State}
use Rattle.asm_meaning.specs.Statement.{IsStep}

-- ---- what is written

-- the bytes of records one after another
unfoldable pub records_text : List Record → List ℕ
records_text contents = flat_map (spelling written_layout) contents

-- a segment in the file: its header, and its records
unfoldable pub segment_text : FinishedSegment → List ℕ
segment_text s = header_bytes s.header (length (records_text s.body)) ++ records_text s.body

-- the segments one after another
unfoldable pub object_text : List FinishedSegment → List ℕ
object_text segments = flat_map segment_text segments

-- the most bytes of a file
abbrev pub most_bytes : ℕ
most_bytes = 16777216

-- ---- lines one after another

-- these lines have no fault, and leave this
abbrev pub AreSteps : State → List Line → State → Type 0
AreSteps state [] last = state ≡ last
AreSteps state (line ∷ lines) last = (next : State) × IsStep state line (Ok next) × AreSteps next lines last
