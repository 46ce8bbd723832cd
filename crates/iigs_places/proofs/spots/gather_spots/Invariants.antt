use Rattle.std.proofs.Common.{◌≡◌, ◌≤◌, take, vec_len, vec_capacity}
use Rattle.iigs_places.specs.Spots.{spots_of}
use Rattle.iigs_places.proofs.spots.gather_spots.Given as goal

-- the spots of the slots so far
abbrev pub invariant-loop-slot : goal.invariant-loop-slot
invariant-loop-slot l = (l.spots.items ≡ spots_of (take l.slot-index l.slots)) × (vec_len l.spots ≤ l.slot-index)
    × (vec_capacity l.fn.spots ≤ vec_capacity l.spots)
