use Rattle.std.proofs.Common.{◌≡◌, ◌≤◌, take, vec_len, vec_capacity}
use Rattle.iigs_places.specs.Spots.{turns_of}
use Rattle.iigs_places.proofs.spots.gather_turns.Given as goal

-- the turns of the blocks so far
abbrev pub invariant-loop-spot : goal.invariant-loop-spot
invariant-loop-spot l = (l.turns.items ≡ turns_of (take l.spot-index l.spots)) × (vec_len l.turns ≤ l.spot-index)
    × (vec_capacity l.fn.turns ≤ vec_capacity l.turns)
