use Rattle.orca_operands.proofs.Counting.{counted}
use Rattle.orca_operands.proofs.count.digits_count.Goals as goal

pub returns-in-Some : goal.returns-in-Some
returns-in-Some c = counted c.args.text.now c.in-Some.found c.count_by.result c.in-Some.rest.now (rw c.in-Some.is at c.digits_at.ensures) c.count_by.ensures
