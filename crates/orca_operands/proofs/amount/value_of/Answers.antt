use Rattle.orca_operands.proofs.Values.{evaluated, not_refused}
use Rattle.orca_operands.proofs.amount.value_of.Goals as goal

pub returns-in-Ok : goal.returns-in-Ok
returns-in-Ok c = evaluated c.args.bytes.now c.in-Ok.expr c.of.result c.evaluate.result _ c.in-Ok.is c.of.ensures.only c.evaluate.ensures.value c.number_of.ensures

pub returns-in-Err : goal.returns-in-Err
returns-in-Err c = λ tree spells. absurd (not_refused c.args.bytes.now c.in-Err.field-0 c.of.result c.in-Err.is c.of.ensures.only tree spells)
