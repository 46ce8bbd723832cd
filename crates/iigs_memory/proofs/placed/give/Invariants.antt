use Rattle.std.proofs.Common.{◌≡◌, take, map}
use Rattle.iigs_places.specs.Alls.{handle_of}
use Rattle.iigs_memory.proofs.placed.give.Given as goal

-- the handles so far are those of what was put
abbrev pub invariant-loop-place : goal.invariant-loop-place
invariant-loop-place l = take l.place l.handles ≡ take l.place (map handle_of l.made)
