use Rattle.std.proofs.Common.{◌≡◌, ◌≤◌, take, count_by, false}
use Rattle.std.specs.Option.{option_map_or}
use Rattle.iigs_meaning.specs.Fits.{block_in}
use Rattle.iigs_meaning.specs.Placement.{can_purge}
use Rattle.iigs_places.proofs.moves.count_purgeable.Given as goal

-- the purgeable blocks so far are counted
abbrev pub invariant-loop-slot : goal.invariant-loop-slot
invariant-loop-slot l = (l.count ≡ count_by (λ slot. option_map_or can_purge (block_in slot) false) (take l.slot-index l.slots)) × (l.count ≤ l.slot-index)
