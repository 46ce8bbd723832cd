use Rattle.std.proofs.Common.{length}
use Rattle.orca_operands.proofs.NamesListed.{Reads}
use Rattle.orca_operands.proofs.lists.names_in.Given as goal

abbrev pub invariant-names : goal.invariant-names
invariant-names l = Reads l.text.bytes.now l.out.items l.left

abbrev pub decreases-names : goal.decreases-names
decreases-names l = length l.left
