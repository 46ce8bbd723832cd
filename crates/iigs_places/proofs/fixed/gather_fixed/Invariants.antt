use Rattle.std.proofs.Common.{◌≤◌, ◌-◌, ◌^◌, count_by, vec_len, vec_capacity}
use Rattle.iigs_meaning.specs.Moves.{lies_below}
use Rattle.iigs_places.specs.Fixed.{AreFixed}
use Rattle.iigs_places.proofs.fixed.gather_fixed.Given as goal

-- the runs are those of blocks that begin before the limit and that no slide moves
abbrev pub invariant-loop-mark : goal.invariant-loop-mark
invariant-loop-mark l = record {
  fixed : AreFixed l.map l.table l.limit l.fixed.items;
  few : vec_len l.fixed ≤ count_by (lies_below l.limit) l.table;
  room : vec_capacity l.fn.fixed ≤ vec_capacity l.fixed;
  within : l.limit ≤ 2 ^ 24;
}

abbrev pub decreases-loop-mark : goal.decreases-loop-mark
decreases-loop-mark l = 2 ^ 24 - l.limit
