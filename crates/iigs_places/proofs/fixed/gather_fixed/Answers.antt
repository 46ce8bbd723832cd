use Rattle.std.proofs.Common.{◌^◌, add-one, arith}
use Rattle.iigs_places.proofs.Sliding.{mark_sized}
use Rattle.iigs_places.proofs.NoSlide.{fixed_none, fixed_later, counted_more, room_more}
use Rattle.iigs_places.proofs.fixed.gather_fixed.Goals as goal

pub loop-mark-init : goal.loop-mark-init
loop-mark-init c = record {
  fixed = rw c.clear.ensures.items (fixed_none c.args.map.now c.args.table.now);
  few = omega (arith, c.clear.ensures.len);
  room = omega (arith, c.clear.ensures.capacity);
  within = omega arith;
}

pub add_fixed-requires-clause-marked : goal.add_fixed-requires-clause-marked
add_fixed-requires-clause-marked c = (rw c.deref.ensures.value at c.in-Some.ensures).is

pub add_fixed-requires-clause-fixed : goal.add_fixed-requires-clause-fixed
add_fixed-requires-clause-fixed c =
    let first = rw c.deref.ensures.value at c.in-Some.ensures in
    fixed_later c.args.map.now c.args.table.now c.loop-mark.limit c.in-Some.mark.at (omega (arith, first.from)) c.loop-mark.fixed.items c.loop-mark.invariant.fixed

pub add_fixed-requires-clause-room : goal.add_fixed-requires-clause-room
add_fixed-requires-clause-room c =
    let less = room_more c.args.table.now c.args.layout.now.marks.items c.requires.laid.have c.loop-mark.limit c.in-Some.mark (rw c.deref.ensures.value at c.in-Some.ensures) c.requires.arranged.count in
    omega (arith, less, c.loop-mark.invariant.few, c.loop-mark.invariant.room, c.requires.room)

pub loop-mark-preserved : goal.loop-mark-preserved
loop-mark-preserved c =
    let first = rw c.deref.ensures.value at c.in-Some.ensures in
    let sized = mark_sized c.args.table.now c.args.layout.now.marks.items c.requires.arranged.bounded c.requires.laid.have c.in-Some.mark first.is in
    let more = counted_more c.args.table.now c.args.layout.now.marks.items c.requires.laid.have c.loop-mark.limit c.in-Some.mark first in
    record {
      fixed = c.add_fixed.ensures.fixed;
      few = rw add-one (omega (arith, more, c.add_fixed.ensures.len, c.loop-mark.invariant.few));
      room = omega (arith, c.loop-mark.invariant.room, c.add_fixed.ensures.capacity);
      within = omega (arith, sized.0, sized.1);
    }

pub loop-mark-smaller : goal.loop-mark-smaller
loop-mark-smaller c =
    let first = rw c.deref.ensures.value at c.in-Some.ensures in
    let sized = mark_sized c.args.table.now c.args.layout.now.marks.items c.requires.arranged.bounded c.requires.laid.have c.in-Some.mark first.is in
    omega (arith, first.from, sized.0, sized.1)

pub overflow_add-limit : goal.overflow_add-limit
overflow_add-limit c =
    let first = rw c.deref.ensures.value at c.in-Some.ensures in
    let sized = mark_sized c.args.table.now c.args.layout.now.marks.items c.requires.arranged.bounded c.requires.laid.have c.in-Some.mark first.is in
    omega (arith, sized.0, sized.1)

pub returns-clause-fixed : goal.returns-clause-fixed
returns-clause-fixed c = fixed_later c.args.map.now c.args.table.now c.loop-mark.limit (2 ^ 24) (omega (arith, c.loop-mark.invariant.within)) c.loop-mark.fixed.items c.loop-mark.invariant.fixed
