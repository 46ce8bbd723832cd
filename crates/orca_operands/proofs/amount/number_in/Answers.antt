use Rattle.orca_operands.specs.NamesView.{constants}
use Rattle.orca_operands.proofs.Formulated.{number_known, number_open, number_bad}
use Rattle.orca_operands.proofs.amount.number_in.Goals as goal

pub returns-in-Ok-Known : goal.returns-in-Ok-Known
returns-in-Ok-Known c = number_known (constants c.args.known) c.args.text.bytes.now c.in-Ok-Known.n (rw c.in-Ok-Known.field-0-is at (rw c.in-Ok-Known.is at c.in_ok-n.ensures.amount))

pub returns-in-Ok-Written : goal.returns-in-Ok-Written
returns-in-Ok-Written c = number_open (constants c.args.known) c.args.text.bytes.now c.in-Ok-Written._text (rw c.in-Ok-Written.field-0-is at (rw c.in-Ok-Written.is at c.in_ok-n.ensures.amount))

pub returns-in-Err : goal.returns-in-Err
returns-in-Err c = number_bad (constants c.args.known) c.args.text.bytes.now c.in-Err.cause (rw c.in-Err.is at c.in_ok-n.ensures.amount)
