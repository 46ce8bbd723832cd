use Rattle.std.proofs.Common.{◌≡◌, take, count_by, false}
use Rattle.std.specs.Option.{option_map_or}
use Rattle.iigs_meaning.specs.Fits.{block_in}
use Rattle.iigs_meaning.specs.Placement.{emptied_where}
use Rattle.iigs_meaning.specs.Blocks.{can_purge_of}
use Rattle.iigs_places.proofs.InPlace.{SoFar}
use Rattle.iigs_places.proofs.table.purge_user.Given as goal

-- the slots so far are emptied where their block is a purgeable one of the user's, and those are counted
abbrev pub invariant-loop-place : goal.invariant-loop-place
invariant-loop-place l = SoFar (emptied_where (can_purge_of l.user)) l.initial.table l.table l.place
    × (l.count ≡ count_by (λ slot. option_map_or (can_purge_of l.user) (block_in slot) false) (take l.place l.initial.table))
