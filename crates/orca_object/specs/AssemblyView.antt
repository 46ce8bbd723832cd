-- An assembly between two lines, as its callers see it.
use Rattle.std.specs.Prelude.{ℕ, ◌+◌, List, [], ◌++◌, length, replicate, Option, Some, None, Result, Ok, Err}
use Rattle.orca_meaning.specs.Line.{Line}
use Rattle.asm_meaning.specs.declared.faults.AsmCause.{AsmCause}
use Rattle.asm_meaning.specs.Object.{records_text}
use Rattle.asm_meaning.specs.State.{State, StartedSegment, cells_of}
use Rattle.asm_meaning.specs.Statement.{IsStep}
use Rattle.orca_object.specs.declared.assembly.Assembly.{Assembly}
use Rattle.orca_object.specs.StateView.{ShowsState}

-- the lines so far leave this
abbrev pub Leaves : State → Assembly → Type 0
Leaves state a = ShowsState state a.state

-- the line after them leaves what the assembly shows then, or the answer is its fault
abbrev pub StepsTo : {U : Type 0} → State → Line → Result U AsmCause → Assembly → Type 0
StepsTo state line (Ok done) a = (next : State) × IsStep state line (Ok next) × Leaves next a
StepsTo state line (Err cause) a = IsStep state line (Err cause)

-- the cells of the open segment so far
abbrev pub cells_of_open : Option StartedSegment → ℕ
cells_of_open None = 0
cells_of_open (Some s) = cells_of s

-- its name
abbrev pub open_name : Option StartedSegment → List ℕ
open_name None = []
open_name (Some s) = s.header.name

-- the size of its header
abbrev pub open_header_size : Option StartedSegment → ℕ
open_header_size None = 0
open_header_size (Some s) = 0x37 + length s.header.name

-- its bytes so far, with zeros in the place of its header
abbrev pub open_text : Option StartedSegment → List ℕ
open_text None = []
open_text (Some s) = replicate (0x37 + length s.header.name) 0 ++ records_text s.body
