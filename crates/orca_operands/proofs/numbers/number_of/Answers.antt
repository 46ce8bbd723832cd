use Rattle.orca_operands.specs.AmountView.{kept_view}
use Rattle.orca_operands.specs.NamesView.{constants}
use Rattle.orca_operands.proofs.Judging.{kept_number, refused_number}
use Rattle.orca_operands.proofs.numbers.number_of.Goals as goal

pub returns-in-Ok : goal.returns-in-Ok
returns-in-Ok c = λ tree k. kept_number (constants c.args.known) (kept_view c.in-Ok.amount) c.require_number.result tree (rw c.in-Ok.is at (c.in_ok-answer.ensures tree k)) c.require_number.ensures

pub returns-in-Err : goal.returns-in-Err
returns-in-Err c = λ tree k. refused_number (constants c.args.known) c.in-Err.cause tree (rw c.in-Err.is at (c.in_ok-answer.ensures tree k))
