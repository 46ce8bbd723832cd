use Rattle.std.proofs.Common.{ℕ, ◌<◌, ◌≤◌, ◌^◌, ◌-◌}
use Rattle.iigs_places.specs.Open.{IsOpen}
use Rattle.iigs_places.proofs.open.next_open.Given as goal

-- up to here the want is nowhere open
abbrev pub invariant-loop-place : goal.invariant-loop-place
invariant-loop-place l = (l.from ≤ l.at) × (l.at ≤ 2 ^ 24)
    × ((other : ℕ) → l.from ≤ other → other < l.at → ¬ IsOpen l.map l.want other)

abbrev pub decreases-loop-place : goal.decreases-loop-place
decreases-loop-place l = 2 ^ 24 - l.at
