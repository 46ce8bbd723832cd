use Rattle.std.proofs.Common.{arith, rules}
use Rattle.iigs_handles.proofs.SlotLemmas.{unused_slots}
use Rattle.iigs_handles.proofs.table.Handles.new.Goals as goal

pub invariant_of-result : goal.invariant_of-result
invariant_of-result g c = record {
  size = search rules;
  lowest = search rules;
  counted = search rules;
  within = omega arith;
  unused = λ place le. rw c.in_ok-slots.ensures (unused_slots 4096 place);
}
