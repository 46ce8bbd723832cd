use Rattle.std.proofs.Common.{◌≡◌, ◌≤◌, ◌*◌, ◌^◌, take, sum_by}
use Rattle.iigs_places.specs.Sizes.{lasting_in}
use Rattle.iigs_places.proofs.table.lasting_among.Given as goal

-- the bytes of the blocks so far
abbrev pub invariant-loop-slot : goal.invariant-loop-slot
invariant-loop-slot l = (l.total ≡ sum_by lasting_in (take l.slot-index l.slots)) × (l.total ≤ 2 ^ 24 * l.slot-index)
