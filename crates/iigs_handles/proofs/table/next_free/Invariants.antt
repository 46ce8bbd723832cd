use Rattle.std.proofs.Common.{◌≡◌, ◌<◌, ℕ, false}
use Rattle.iigs_meaning.specs.Slots.{is_free, slot_at}
use Rattle.iigs_handles.proofs.table.next_free.Given as goal

-- no slot so far is free
abbrev pub invariant-loop-place : goal.invariant-loop-place
invariant-loop-place g l = (k : ℕ) → k < l.place → is_free (slot_at l.slots k) ≡ false
