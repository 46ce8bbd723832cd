use Rattle.iigs_meaning.specs.Banks.{AreDistinctTo}
use Rattle.iigs_places.proofs.bank_map.first_twice.Given as goal

-- none so far is named twice
abbrev pub invariant-loop-place : goal.invariant-loop-place
invariant-loop-place l = AreDistinctTo l.place l.banks
