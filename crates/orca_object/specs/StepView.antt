-- What a line leaves, as it is kept, or its first fault.
use Rattle.std.specs.Prelude.{◌≡◌, Result, Ok, Err, List, ℕ}
use Rattle.orca_meaning.specs.Line.{Line}
use Rattle.asm_meaning.specs.declared.faults.AsmCause.{AsmCause}
use Rattle.asm_meaning.specs.State.{State, within_length}
use Rattle.omf_format.specs.Field.{◌>>=◌}
use Rattle.asm_meaning.specs.Answer.{Answer}
use Rattle.asm_meaning.specs.declared.directives.Operation.{Operation}
use Rattle.asm_meaning.specs.Statement.{IsStep, IsDone}
use Rattle.orca_object.specs.declared.state.AsmState.{AsmState}
use Rattle.orca_object.specs.StateView.{ShowsState}

-- what an operation leaves, or its first fault
abbrev pub IsJudged : State → Line → Operation → Answer (List ℕ) → List ℕ → Answer State → Type 0
IsJudged state line operation label text answer = (left : Answer State) × IsDone state line operation label text left × (answer ≡ (left >>= within_length))

-- the state is what the line leaves, or the answer is its fault
abbrev pub Steps : {U : Type 0} → State → Line → Result U AsmCause → AsmState → Type 0
Steps state line (Ok done) k = (next : State) × IsStep state line (Ok next) × ShowsState next k
Steps state line (Err cause) k = IsStep state line (Err cause)

-- a statement that is inside or outside a segment as it has to be
abbrev pub IsPlacedAs : {U : Type 0} → State → Line → Operation → Answer (List ℕ) → List ℕ → Result U AsmCause → AsmState → Type 0
IsPlacedAs state line operation label text (Ok done) k = (next : State) × IsJudged state line operation label text (Ok next) × ShowsState next k
IsPlacedAs state line operation label text (Err cause) k = IsJudged state line operation label text (Err cause)
