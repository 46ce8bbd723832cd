use Rattle.std.proofs.Common.{◌≡◌, take}
use Rattle.iigs_handles.proofs.table.copy_slots.Given as goal

-- the slots so far are those of the other table
abbrev pub invariant-loop-place : goal.invariant-loop-place
invariant-loop-place g l = take l.place l.to ≡ take l.place l.from
