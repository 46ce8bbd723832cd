use Rattle.std.proofs.Common.{◌-◌, length}
use Rattle.link_values.specs.Circulars.{CountsTo}
use Rattle.link_values.proofs.circular.cycle_fault.Given as goal

abbrev pub invariant-members : goal.invariant-members
invariant-members l = CountsTo l.program l.number l.place l.left

abbrev pub decreases-members : goal.decreases-members
decreases-members l = length l.program - l.place
