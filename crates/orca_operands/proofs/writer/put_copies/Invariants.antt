use Rattle.std.proofs.Common.{◌≡◌, ◌++◌}
use Rattle.std.specs.List.{repeat}
use Rattle.orca_operands.proofs.writer.put_copies.Given as goal

abbrev pub invariant-copies : goal.invariant-copies
invariant-copies l = l.out.items ++ repeat l.left l.bytes ≡ l.initial.out.items ++ repeat l.count l.bytes

abbrev pub decreases-copies : goal.decreases-copies
decreases-copies l = l.left
