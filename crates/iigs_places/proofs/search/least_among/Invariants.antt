use Rattle.std.proofs.Common.{ℕ, ◌<◌, ◌≤◌, ◌-◌, ◌^◌, length, get_or}
use Rattle.iigs_places.specs.declared.spots.BlockSpot.{BlockSpot}
use Rattle.iigs_places.specs.Spots.{FitsAmong, IsPast}
use Rattle.iigs_places.proofs.search.least_among.Given as goal

-- the want fits nowhere up to here, and the blocks passed over are past
abbrev pub invariant-loop-place : goal.invariant-loop-place
invariant-loop-place l = (l.from ≤ 2 ^ 24) × (l.index ≤ length l.spots)
    × ((other : ℕ) → other < l.from → ¬ FitsAmong l.map l.want l.spots l.limit other)
    × ((k : ℕ) (d : BlockSpot) → k < l.index → IsPast l.limit l.from (get_or l.spots k d))

abbrev pub decreases-loop-place : goal.decreases-loop-place
decreases-loop-place l = 2 ^ 24 - l.from
