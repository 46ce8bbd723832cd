use Rattle.std.proofs.Common.{length}
use Rattle.orca_operands.proofs.Packed.{PackedLeft}
use Rattle.orca_operands.proofs.digits.pack_digits.Given as goal

abbrev pub invariant-groups : goal.invariant-groups
invariant-groups l = PackedLeft l.base l.each l.digits l.out.items l.left

abbrev pub decreases-groups : goal.decreases-groups
decreases-groups l = length l.left
