use Rattle.std.proofs.Common.{◌≤◌, ◌-◌, ◌^◌, count_by, vec_len, vec_capacity}
use Rattle.iigs_meaning.specs.Moves.{lies_below}
use Rattle.iigs_places.specs.Tried.{AreSlid}
use Rattle.iigs_places.proofs.tried.gather_slid.Given as goal

-- the runs are those of blocks that begin before the limit, slid down
abbrev pub invariant-loop-mark : goal.invariant-loop-mark
invariant-loop-mark l = record {
  slid : AreSlid l.map l.table l.limit l.passed.items;
  few : vec_len l.passed ≤ count_by (lies_below l.limit) l.table;
  room : vec_capacity l.fn.passed ≤ vec_capacity l.passed;
  within : l.limit ≤ 2 ^ 24;
}

abbrev pub decreases-loop-mark : goal.decreases-loop-mark
decreases-loop-mark l = 2 ^ 24 - l.limit
