use Rattle.std.proofs.Common.{◌-◌}
use Rattle.orca_macro.proofs.Runs.{UnderWay}
use Rattle.orca_macro.proofs.expansion.visits.Given as goal

abbrev pub invariant-visits : goal.invariant-visits
invariant-visits l = UnderWay l.program l.state l.count l.out

abbrev pub decreases-visits : goal.decreases-visits
decreases-visits l = 1000000 - l.count
