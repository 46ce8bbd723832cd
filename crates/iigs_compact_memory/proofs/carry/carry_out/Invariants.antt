use Rattle.std.proofs.Common.{◌≡◌, ◌≤◌, ◌-◌, ◌^◌, []}
use Rattle.iigs_meaning.specs.Memory.{KeepsBut}
use Rattle.iigs_meaning.specs.Slide.{count_moved}
use Rattle.iigs_compact_memory.specs.Carried.{AreCarried}
use Rattle.iigs_compact_memory.proofs.carry.carry_out.Given as goal

-- the blocks below the limit are where the plan has them
abbrev pub invariant-loop-first : goal.invariant-loop-first
invariant-loop-first l = record {
  carried : AreCarried l.fn.banks.slots l.plan.slots l.banks.slots l.limit;
  kept : KeepsBut l.fn.banks l.banks [];
  count : l.moved ≡ count_moved l.fn.banks.slots l.banks.slots;
  small : l.moved ≤ l.limit;
  within : l.limit ≤ 2 ^ 24;
}

abbrev pub decreases-loop-first : goal.decreases-loop-first
decreases-loop-first l = 2 ^ 24 - l.limit
