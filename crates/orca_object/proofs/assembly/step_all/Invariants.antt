use Rattle.std.proofs.Common.{◌-◌}
use Rattle.orca_object.proofs.Assembling.{UnderWay}
use Rattle.orca_object.proofs.assembly.step_all.Given as goal

abbrev pub invariant-lines : goal.invariant-lines
invariant-lines l = UnderWay l.lines l.place l.assembly

abbrev pub decreases-lines : goal.decreases-lines
decreases-lines l = l.count - l.place
