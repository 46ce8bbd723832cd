-- What lines leave for the lines after them (ORCA/M reference manual, "Assembler directives"; GS/OS Reference, appendix F,
-- segment header).
use Rattle.std.specs.Prelude.{ℕ, ◌+◌, ◌%◌, Bool, true, false, nat_lt, min, List, [], ◌∷◌, ◌++◌, length, Option, Some, None, Ok, Err, if◌then◌else◌}
use Rattle.std.specs.Option.{option_map}
use Rattle.omf_format.specs.Header.{HeaderFields}
use Rattle.omf_format.specs.Record.{Record, Label}
use Rattle.orca_meaning.specs.Line.{Line}
use Rattle.orca_meaning.specs.Names.{with_name}
use Rattle.asm_meaning.specs.declared.directives.Class.{Class}
use Rattle.asm_meaning.specs.declared.directives.Class.TheVariants.{Code, PrivateCode, Data, PrivateData}
use Rattle.asm_meaning.specs.declared.directives.Switch.{Switch}
use Rattle.asm_meaning.specs.declared.directives.Switch.TheVariants.{LongA, LongI, Msb}
use Rattle.asm_meaning.specs.declared.faults.AsmCause.TheVariants.{SegmentTooLong}
use Rattle.asm_meaning.specs.Answer.{Answer}
use Rattle.asm_meaning.specs.Constant.{Constants}
use Rattle.asm_meaning.specs.Instruction.{Widths}
use Rattle.asm_meaning.specs.Pieces.{place_after, length_at}

-- the names that a segment defines, each with its value where it is a constant
abbrev pub Names : Type 0
Names = List ℕ → Option (Option ℕ)

-- a segment that hasn't ended: the line that begins it, its class, its header so far, the names that it defines, and its
-- records
pub record StartedSegment : Type 0 where
  pub start_line : Line
  pub class : Class
  pub header : HeaderFields
  pub names : Names
  pub body : List Record

-- a segment that has ended: its header, and its records up to END
pub record FinishedSegment : Type 0 where
  pub header : HeaderFields
  pub body : List Record

-- The widths, whether MSB is on, the constants of GEQU outside segments, what waits for the next segment (ORG, ALIGN, and the
-- records at its start), the segment that is open, and those that have ended.
pub record State : Type 0 where
  pub widths : Widths
  pub msb : Bool
  pub outside : Constants
  pub org : ℕ
  pub align : ℕ
  pub front : List Record
  pub segment : Option StartedSegment
  pub ended : List FinishedSegment

-- no name is a constant
abbrev pub no_constants : Constants
no_constants name = None

-- no name is defined
abbrev pub no_names : Names
no_names name = None

-- before the first line: the registers have 16 bits, and MSB is off
abbrev pub start : State
start = record {
  widths = record { long_a = true; long_i = true };
  msb = false;
  outside = no_constants;
  org = 0;
  align = 0;
  front = [];
  segment = None;
  ended = [];
}

-- ---- segments

-- how many cells a segment has so far
abbrev pub cells_of : StartedSegment → ℕ
cells_of s = place_after 0 s.body

-- KIND and BANKSIZE of a class, and the greatest LENGTH
abbrev pub kind_of : Class → ℕ
kind_of Code = 0x0000
kind_of PrivateCode = 0x4000
kind_of Data = 0x0001
kind_of PrivateData = 0x4001

-- BANKSIZE of a class: code stays in one bank, and data may cross banks
abbrev pub bank_size_of : Class → ℕ
bank_size_of Code = 0x10000
bank_size_of PrivateCode = 0x10000
bank_size_of Data = 0
bank_size_of PrivateData = 0

-- the greatest LENGTH of a class
abbrev pub greatest_length : Class → ℕ
greatest_length Code = 0x10000
greatest_length PrivateCode = 0x10000
greatest_length Data = 0xFFFFFF
greatest_length PrivateData = 0xFFFFFF

-- The header of the next segment, whose number is the place from 1. The fields that the writing of a header works out are 0.
abbrev pub header_of : State → Class → List ℕ → List ℕ → HeaderFields
header_of state class name load_name = record {
  byte_count = 0;
  res_spc = 0;
  length = 0;
  lab_len = 0;
  version = 2;
  bank_size = bank_size_of class;
  kind = kind_of class;
  org = state.org;
  align = state.align;
  seg_num = (length state.ended + 1) % 0x10000;
  entry = 0;
  disp_name = 0;
  disp_data = 0;
  load_name = load_name;
  name = name;
}

-- a segment begins, with what waits for it; its name is the first that it defines
abbrev pub state_after_start : State → Line → Class → List ℕ → List ℕ → State
state_after_start state line class name load_name = record state {
  org = 0;
  align = 0;
  front = [];
  segment = Some (record {
    start_line = line;
    class = class;
    header = header_of state class name load_name;
    names = with_name name None no_names;
    body = state.front;
  });
}

-- the segment ends, and LENGTH is the number of its cells
abbrev pub state_after_end : State → State
state_after_end state = record state {
  segment = None;
  ended = state.ended ++ elim state.segment [ None ↦ [] | Some s ↦ record { header = record s.header { length = cells_of s }; body = s.body } ∷ [] ];
}

-- ---- statements in a segment

-- one more name, where the statement has a label
abbrev pub with_label : List ℕ → Option ℕ → Names → Names
with_label [] value names = names
with_label (byte ∷ label) value names = with_name (byte ∷ label) value names

-- LOCAL for a label: its length is that of the statement, as far as two bytes hold it, its type distinguishes instructions ($4D)
-- from other statements ($4E), and it isn't private
abbrev pub local_of : List ℕ → ℕ → ℕ → List Record
local_of [] form size = []
local_of (byte ∷ label) form size = Label false (byte ∷ label) (min size 0xFFFF) form 0 ∷ []

-- a statement's records are at the end of the segment, after these for its label, which becomes one of its names
abbrev pub with_records : List ℕ → Option ℕ → List Record → List Record → StartedSegment → StartedSegment
with_records label value front contents s = record s { names = with_label label value s.names; body = s.body ++ (front ++ contents) }

-- a statement's records are at the end of the segment, after LOCAL for its label
abbrev pub with_local_record : List ℕ → ℕ → List Record → StartedSegment → StartedSegment
with_local_record label form contents s = with_records label None (local_of label form (length_at (cells_of s) contents)) contents s

-- the state with a change of its open segment
abbrev pub in_segment : (StartedSegment → StartedSegment) → State → State
in_segment change state = record state { segment = option_map change state.segment }

-- ---- the greatest length

-- what a statement leaves, unless the segment is too long then
abbrev pub within_length : State → Answer State
within_length state =
    if elim state.segment [ None ↦ false | Some s ↦ nat_lt (greatest_length s.class) (cells_of s) ] then Err SegmentTooLong else Ok state

-- ---- what is turned on and off

-- the state with a switch turned on or off
abbrev pub with_switch_set : Switch → Bool → State → State
with_switch_set LongA on state = record state { widths = record state.widths { long_a = on } }
with_switch_set LongI on state = record state { widths = record state.widths { long_i = on } }
with_switch_set Msb on state = record state { msb = on }
