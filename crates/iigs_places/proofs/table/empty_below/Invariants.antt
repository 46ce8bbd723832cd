use Rattle.std.proofs.Common.{nat_lt}
use Rattle.iigs_meaning.specs.Placement.{emptied_where}
use Rattle.iigs_places.specs.Spots.{turn_of}
use Rattle.iigs_places.proofs.InPlace.{SoFar}
use Rattle.iigs_places.proofs.table.empty_below.Given as goal

-- the slots so far are emptied where their block's turn is below the limit
abbrev pub invariant-loop-place : goal.invariant-loop-place
invariant-loop-place l = SoFar (emptied_where (λ block. nat_lt (turn_of block) l.limit)) l.initial.table l.table l.place
