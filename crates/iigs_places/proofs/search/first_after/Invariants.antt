use Rattle.std.proofs.Common.{ℕ, ◌<◌, ◌≤◌, get_or}
use Rattle.iigs_places.specs.declared.spots.BlockSpot.{BlockSpot}
use Rattle.iigs_places.specs.Spots.{IsPast}
use Rattle.iigs_places.proofs.search.first_after.Given as goal

-- the blocks so far are past
abbrev pub invariant-loop-place : goal.invariant-loop-place
invariant-loop-place l = (k : ℕ) (d : BlockSpot) → l.from ≤ k → k < l.place → IsPast l.limit l.address (get_or l.spots k d)
