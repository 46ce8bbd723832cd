use Rattle.std.proofs.Common.{◌≡◌, replicate}
use Rattle.iigs_meaning.specs.Slots.{new_slot}
use Rattle.iigs_handles.proofs.table.free_slots.Given as goal

-- as many slots as the counter says were pushed, all free
abbrev pub invariant-loop : goal.invariant-loop
invariant-loop g l = l.slots.items ≡ replicate l.counter new_slot
