-- A statement that gives pieces, with its label.
use Rattle.std.specs.Prelude.{ℕ, List, Result, Ok, Err}
use Rattle.omf_format.specs.Field.{◌>>=◌}
use Rattle.asm_meaning.specs.declared.faults.AsmCause.{AsmCause}
use Rattle.asm_meaning.specs.Answer.{Answer}
use Rattle.asm_meaning.specs.Pieces.{records_of, ArePlainPieces}
use Rattle.asm_meaning.specs.State.{State}
use Rattle.asm_meaning.specs.Statement.{marking}
use Rattle.orca_operands.specs.declared.encoding.Encoding.{Encoding}
use Rattle.orca_operands.specs.GivenView.{given_pieces, given_answer}

-- what a statement leaves by its label and its encoding
abbrev pub giving : State → ℕ → Answer (List ℕ) → Result Encoding AsmCause → Answer State
giving state form label given = marking state form label (given_answer given >>= λ pieces. Ok (records_of pieces))

-- the pieces of an encoding can be written
abbrev pub IsPlainAnswer : Result Encoding AsmCause → Type 0
IsPlainAnswer (Ok given) = ArePlainPieces (given_pieces given)
IsPlainAnswer (Err cause) = Unit {0}
