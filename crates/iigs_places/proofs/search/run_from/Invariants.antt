use Rattle.std.proofs.Common.{ℕ, ◌<◌, ◌≤◌, ◌^◌, get_or}
use Rattle.iigs_places.specs.declared.spots.BlockSpot.{BlockSpot}
use Rattle.iigs_places.specs.Spots.{IsPast, HasNoPlace}
use Rattle.iigs_places.proofs.search.run_from.Given as goal

-- the blocks so far leave no room up to here, and are past
abbrev pub invariant-loop-place : goal.invariant-loop-place
invariant-loop-place l = ((d : BlockSpot) → (get_or l.spots l.first d).end ≤ l.end) × (l.end ≤ 2 ^ 24)
    × ((d : BlockSpot) (address : ℕ) → (get_or l.spots l.first d).end ≤ address → address < l.end → HasNoPlace l.spots l.limit l.size address)
    × ((k : ℕ) (d : BlockSpot) → l.first ≤ k → k < l.place → IsPast l.limit l.end (get_or l.spots k d))
