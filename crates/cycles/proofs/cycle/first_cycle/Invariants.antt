use Rattle.std.proofs.Common.{◌<◌, ◌-◌, length, ℕ}
use Rattle.cycles.specs.Graphs.{IsOnCycle}
use Rattle.cycles.proofs.cycle.first_cycle.Given as goal

-- no vertex so far leads back to itself
abbrev pub invariant-vertices : goal.invariant-vertices
invariant-vertices l = (k : ℕ) → k < l.vertex → IsOnCycle l.edges k → ⊥

abbrev pub decreases-vertices : goal.decreases-vertices
decreases-vertices l = length l.edges - l.vertex
