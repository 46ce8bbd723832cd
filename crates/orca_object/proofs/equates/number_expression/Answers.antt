use Rattle.omf_format.specs.Expression.{Leaf, Constant}
use Rattle.orca_object.proofs.EquateLaws.{number_fine}
use Rattle.orca_operands.proofs.After.{then_if}
use Rattle.orca_object.proofs.equates.number_expression.Goals as goal

pub returns-clause-fine : goal.returns-clause-fine
returns-clause-fine c = then_if c.shift_and_end.result (λ v k. number_fine c.args.n v.items c.ranges.n.fits (k (Leaf (Constant c.args.n)) c.in_ok-text.ensures)) c.shift_and_end.ensures
