use Rattle.std.proofs.Common.{◌≢◌, ◌<◌, ℕ, slice_index}
use Rattle.iigs_places.proofs.bank_map.stands_before.Given as goal

-- none so far is that bank
abbrev pub invariant-loop-k : goal.invariant-loop-k
invariant-loop-k l = (j : ℕ) → j < l.k → slice_index l.banks j ≢ slice_index l.banks l.place
