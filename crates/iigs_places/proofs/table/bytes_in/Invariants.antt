use Rattle.std.proofs.Common.{◌≡◌, ◌≤◌, ◌*◌, ◌^◌, take, sum_by}
use Rattle.iigs_places.specs.Sizes.{size_in}
use Rattle.iigs_places.proofs.table.bytes_in.Given as goal

-- the bytes of the blocks so far
abbrev pub invariant-loop-slot : goal.invariant-loop-slot
invariant-loop-slot l = (l.total ≡ sum_by size_in (take l.slot-index l.slots)) × (l.total ≤ 2 ^ 24 * l.slot-index)
