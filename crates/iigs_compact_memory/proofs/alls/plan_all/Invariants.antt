use Rattle.std.proofs.Common.{◌≡◌, ◌≤◌, ◌+◌, List, take, length, count_by}
use Rattle.iigs_meaning.specs.declared.handles.Handle.{Handle}
use Rattle.iigs_meaning.specs.Slots.{is_free}
use Rattle.iigs_meaning.specs.Puts.{PutsAll}
use Rattle.iigs_meaning.specs.Slide.{AreSettled, PurgesOrSlides}
use Rattle.iigs_compact_memory.proofs.alls.plan_all.Given as goal

-- the wants so far are placed on the plan, and enough slots are free for the others
abbrev pub invariant-loop-place : goal.invariant-loop-place
invariant-loop-place l = record {
  done : (hs : List Handle) × PutsAll PurgesOrSlides l.fn.plan.banks l.user l.fn.plan.slots (take l.place l.wants) hs l.plan.slots;
  settled : AreSettled l.plan.banks l.plan.slots;
  free : length l.wants ≤ l.place + count_by is_free l.plan.slots;
  banks : l.plan.banks ≡ l.fn.plan.banks;
  trial : l.trial.banks ≡ l.fn.plan.banks;
}
