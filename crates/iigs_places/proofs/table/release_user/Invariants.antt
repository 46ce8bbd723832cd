use Rattle.iigs_meaning.specs.Puts.{without_user_in}
use Rattle.iigs_places.proofs.InPlace.{SoFar}
use Rattle.iigs_places.proofs.table.release_user.Given as goal

-- the slots so far are released where their block is the user's
abbrev pub invariant-loop-place : goal.invariant-loop-place
invariant-loop-place l = SoFar (without_user_in l.user) l.initial.table l.table l.place
