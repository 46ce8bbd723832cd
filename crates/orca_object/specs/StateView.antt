-- How what lines leave is kept: the bytes of records in place of records, and maps in place of the names and constants.
use Rattle.std.specs.Prelude.{◌≡◌, ℕ, ◌+◌, ◌%◌, ◌<◌, List, ◌++◌, length, Option, Some, None, Result, Ok, Err}
use Rattle.omf_format.specs.Header.{HeaderFields}
use Rattle.omf_format.specs.Record.{Record}
use Rattle.asm_meaning.specs.Answer.{Answer}
use Rattle.asm_meaning.specs.declared.faults.AsmCause.{AsmCause}
use Rattle.asm_meaning.specs.declared.faults.AsmCause.TheVariants.{SegmentTooLong}
use Rattle.asm_meaning.specs.Object.{records_text, object_text}
use Rattle.asm_meaning.specs.Pieces.{place_after}
use Rattle.omf_format.specs.Field.{◌>>=◌}
use Rattle.orca_meaning.specs.Line.{Line}
use Rattle.asm_meaning.specs.declared.directives.Operation.{Operation}
use Rattle.asm_meaning.specs.State.{StartedSegment, State, bank_size_of, cells_of, with_label, local_of, within_length}
use Rattle.asm_meaning.specs.Statement.{IsDone}
use Rattle.orca_object.specs.declared.state.OpenSegment.{OpenSegment}
use Rattle.orca_object.specs.declared.state.AsmState.{AsmState}
use Rattle.orca_operands.specs.ModeView.{widths}
use Rattle.orca_operands.specs.NamesView.{names_of, outside_of}
use Rattle.orca_operands.specs.TextView.{text_within_limit, kept_text}
use Rattle.orca_object.specs.BodyView.{ShowsBody}

-- the header that a segment has so far
abbrev pub header_view : OpenSegment → HeaderFields
header_view o = record {
  byte_count = 0;
  res_spc = 0;
  length = 0;
  lab_len = 0;
  version = 2;
  bank_size = bank_size_of o.class;
  kind = o.kind;
  org = o.org;
  align = o.align;
  seg_num = o.number;
  entry = 0;
  disp_name = 0;
  disp_data = 0;
  load_name = o.load_name;
  name = o.name;
}

-- a segment that hasn't ended is kept so
pub record ShowsSegment (s : StartedSegment) (o : OpenSegment) : Type 0 where
  pub file : o.file ≡ s.start_line.file
  pub line : o.line ≡ s.start_line.number
  pub class : o.class ≡ s.class
  pub header : s.header ≡ header_view o
  pub names : names_of o.names ≡ s.names
  pub body : ShowsBody (0x37 + length s.header.name) s.body o.body

-- both segments are there, and the one shows the other; or none is
abbrev pub ShowsOption : Option StartedSegment → Option OpenSegment → Type 0
ShowsOption None None = Unit {0}
ShowsOption None (Some o) = ⊥
ShowsOption (Some s) None = ⊥
ShowsOption (Some s) (Some o) = ShowsSegment s o

-- what lines leave is kept so
pub record ShowsState (state : State) (k : AsmState) : Type 0 where
  pub widths : widths k.widths ≡ state.widths
  pub msb : k.msb ≡ state.msb
  pub outside : outside_of k.outside ≡ state.outside
  pub org : k.org ≡ state.org
  pub align : k.align ≡ state.align
  pub front : kept_text k.front ≡ text_within_limit (records_text state.front)
  pub waiting : place_after 0 state.front ≡ 0
  pub segment : ShowsOption state.segment k.segment
  pub number : k.number ≡ (length state.ended + 1) % 0x10000
  pub object : kept_text k.object ≡ text_within_limit (object_text state.ended)

-- ---- changes of a segment

-- one more name
abbrev pub with_defined_name : List ℕ → Option ℕ → StartedSegment → StartedSegment
with_defined_name label value s = record s { names = with_label label value s.names }

-- more records
abbrev pub with_records : List Record → StartedSegment → StartedSegment
with_records contents s = record s { body = s.body ++ contents }

-- a label, with its LOCAL
abbrev pub with_local_label : List ℕ → ℕ → ℕ → StartedSegment → StartedSegment
with_local_label label form size s = with_records (local_of label form size) (with_defined_name label None s)

-- ---- answers

-- a segment is kept so, or is longer than a segment of any class may be
abbrev pub ShowsGrown : {U : Type 0} → Result U AsmCause → StartedSegment → OpenSegment → Type 0
ShowsGrown (Ok done) s o = ShowsSegment s o
ShowsGrown (Err cause) s o = (cause ≡ SegmentTooLong) × (0xFFFFFF < cells_of s)

-- a statement leaves this, or has this fault, which may be that its segment is then too long
abbrev pub Leaves : {U : Type 0} → Result U AsmCause → AsmState → Answer State → Type 0
Leaves (Ok done) k answer = (next : State) × (answer ≡ Ok next) × ShowsState next k
Leaves (Err cause) k answer = (answer >>= within_length) ≡ Err cause

-- what an operation leaves
pub record IsLeft {U : Type 0} (state : State) (line : Line) (operation : Operation) (label : Answer (List ℕ)) (text : List ℕ) (done : Result U AsmCause) (k : AsmState) : Type 0 where
  pub left : Answer State
  pub is : IsDone state line operation label text left
  pub leaves : Leaves done k left
