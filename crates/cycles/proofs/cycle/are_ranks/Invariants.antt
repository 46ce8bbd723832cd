use Rattle.std.proofs.Common.{◌<◌, ◌-◌, length, ℕ}
use Rattle.cycles.specs.Ranks.{Falls}
use Rattle.cycles.proofs.cycle.are_ranks.Given as goal

-- no edge of the vertices so far goes to a higher rank
abbrev pub invariant-vertices : goal.invariant-vertices
invariant-vertices l = (from : ℕ) → from < l.vertex → Falls l.edges l.ranks from

abbrev pub decreases-vertices : goal.decreases-vertices
decreases-vertices l = length l.edges - l.vertex
