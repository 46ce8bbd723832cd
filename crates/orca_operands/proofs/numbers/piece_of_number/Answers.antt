use Rattle.orca_operands.specs.AmountView.{kept_view}
use Rattle.orca_operands.specs.NamesView.{constants}
use Rattle.orca_operands.specs.PieceView.{piece}
use Rattle.orca_operands.proofs.Judging.{numbered_good, numbered_fault}
use Rattle.orca_operands.proofs.numbers.piece_of_number.Goals as goal

pub returns-in_ok-piece-in-Ok : goal.returns-in_ok-piece-in-Ok
returns-in_ok-piece-in-Ok c = λ tree k.
    numbered_good (constants c.args.known) c.args.width (kept_view c.in-Ok.amount) (piece c.in_ok-piece-in-Ok.piece) tree (rw c.in-Ok.is at (c.in_ok-answer.ensures tree k)) c.in_ok-piece-in-Ok.ensures

pub returns-in-Err : goal.returns-in-Err
returns-in-Err c = λ tree k. numbered_fault (constants c.args.known) c.args.width c.in-Err.cause tree (rw c.in-Err.is at (c.in_ok-answer.ensures tree k))
