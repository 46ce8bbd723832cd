use Rattle.std.proofs.Common.{◌≤◌, ◌-◌, ◌^◌, count_by, vec_len, vec_capacity}
use Rattle.iigs_meaning.specs.Moves.{lies_below}
use Rattle.iigs_meaning.specs.laws.SlideLaws.{AreSlidTo}
use Rattle.iigs_places.specs.Arranged.{IsArranged}
use Rattle.iigs_places.specs.Runs.{IsLayout}
use Rattle.iigs_places.specs.Sliding.{ArePassed}
use Rattle.iigs_places.proofs.slide.slide_all.Given as goal

-- the movable blocks below the limit are slid down, and those that begin before it were passed
abbrev pub invariant-loop-mark : goal.invariant-loop-mark
invariant-loop-mark l = record {
  slid : AreSlidTo l.map l.fn.table l.table l.limit;
  arranged : IsArranged l.map l.table;
  laid : IsLayout l.table l.layout;
  passed : ArePassed l.table l.limit l.passed.items;
  few : vec_len l.passed ≤ count_by (lies_below l.limit) l.table;
  room : vec_capacity l.fn.passed ≤ vec_capacity l.passed;
  within : l.limit ≤ 2 ^ 24;
}

abbrev pub decreases-loop-mark : goal.decreases-loop-mark
decreases-loop-mark l = 2 ^ 24 - l.limit
