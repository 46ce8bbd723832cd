use Rattle.std.proofs.Common.{arith}
use Rattle.iigs_places.proofs.Marked.{gather_more}
use Rattle.iigs_places.proofs.marks.gather_marks.Goals as goal

pub loop-place-preserved : goal.loop-place-preserved
loop-place-preserved c = record {
  gathered = rw (c.push_some.ensures.items, c.mark_of.ensures) (gather_more c.args.slots.now c.loop-place.place c.loop-place.marks.items c.loop-place.invariant.gathered);
  few = omega (arith, c.push_some.ensures.len, c.loop-place.invariant.few);
  room = omega (arith, c.push_some.ensures.capacity, c.loop-place.invariant.room);
}
