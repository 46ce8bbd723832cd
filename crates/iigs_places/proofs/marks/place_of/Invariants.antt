use Rattle.std.proofs.Common.{◌≢◌, ◌≤◌, ℕ, ◌<◌, get_or}
use Rattle.iigs_places.specs.declared.marks.BlockMark.{BlockMark}
use Rattle.iigs_places.proofs.marks.place_of.Given as goal

-- the marks so far are of other slots
abbrev pub invariant-loop-place : goal.invariant-loop-place
invariant-loop-place l = (l.count ≤ l.place) × ((k : ℕ) (d : BlockMark) → k < l.place → (get_or l.marks k d).slot ≢ l.slot)
