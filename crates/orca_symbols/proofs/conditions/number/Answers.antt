use Rattle.orca_symbols.specs.View.{values}
use Rattle.orca_symbols.proofs.conditions.number.Goals as goal

pub returns-in-Some : goal.returns-in-Some
returns-in-Some c = (rw c.in-Some.is at c.short_value.ensures).is (values c.args.of)
