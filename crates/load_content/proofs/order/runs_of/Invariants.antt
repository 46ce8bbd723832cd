use Rattle.std.proofs.Common.{length}
use Rattle.load_content.proofs.RunLists.{RunsSoFar}
use Rattle.load_content.proofs.order.runs_of.Given as goal

-- the runs so far, with any of the spots that are left, are runs of all
abbrev pub invariant-runs : goal.invariant-runs
invariant-runs l = RunsSoFar l.initial.spots l.runs.items l.left

abbrev pub decreases-runs : goal.decreases-runs
decreases-runs l = length l.left
