use Rattle.orca_operands.proofs.Packed.{GroupLeft}
use Rattle.orca_operands.proofs.digits.group.Given as goal

abbrev pub invariant-digits : goal.invariant-digits
invariant-digits l = GroupLeft l.base l.each l.digits l.left l.value l.count

abbrev pub decreases-digits : goal.decreases-digits
decreases-digits l = l.count
