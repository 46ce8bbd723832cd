use Rattle.std.proofs.Common.{◌^◌, add-one, arith}
use Rattle.iigs_places.proofs.Sliding.{mark_sized}
use Rattle.iigs_places.proofs.NoSlide.{counted_more, room_more}
use Rattle.iigs_places.proofs.TriedSlide.{slid_none, slid_to, slid_past, slid_more}
use Rattle.iigs_places.proofs.tried.gather_slid.Goals as goal

pub loop-mark-init : goal.loop-mark-init
loop-mark-init c = record {
  slid = rw c.clear.ensures.items (slid_none c.args.map.now c.args.table.now);
  few = omega (arith, c.clear.ensures.len);
  room = omega (arith, c.clear.ensures.capacity);
  within = omega arith;
}

pub slid_address-at-requires-clause-marked : goal.slid_address-at-requires-clause-marked
slid_address-at-requires-clause-marked c = (rw c.deref.ensures.value at c.in-Some.ensures).is

pub slid_address-at-requires-clause-passed : goal.slid_address-at-requires-clause-passed
slid_address-at-requires-clause-passed c = rw c.deref-in-Some.ensures.value (slid_to c.args.map.now c.args.table.now c.args.layout.now.marks.items c.requires.laid.have c.loop-mark.limit c.in-Some.mark
    (rw c.deref.ensures.value at c.in-Some.ensures) c.loop-mark.passed.items c.loop-mark.invariant.slid)

pub add_run-requires-clause-runs : goal.add_run-requires-clause-runs
add_run-requires-clause-runs c = c.loop-mark.invariant.slid.are

pub add_run-requires-clause-some : goal.add_run-requires-clause-some
add_run-requires-clause-some c =
    let sized = mark_sized c.args.table.now c.args.layout.now.marks.items c.requires.arranged.bounded c.requires.laid.have c.in-Some.mark (rw c.deref.ensures.value at c.in-Some.ensures).is in
    omega (arith, sized.0)

pub add_run-requires-clause-ends : goal.add_run-requires-clause-ends
add_run-requires-clause-ends c =
    let sized = mark_sized c.args.table.now c.args.layout.now.marks.items c.requires.arranged.bounded c.requires.laid.have c.in-Some.mark (rw c.deref.ensures.value at c.in-Some.ensures).is in
    omega (arith, sized.0, sized.1, c.slid_address-at.ensures.low)

pub add_run-requires-clause-room : goal.add_run-requires-clause-room
add_run-requires-clause-room c =
    let less = room_more c.args.table.now c.args.layout.now.marks.items c.requires.laid.have c.loop-mark.limit c.in-Some.mark (rw c.deref.ensures.value at c.in-Some.ensures) c.requires.arranged.count in
    omega (arith, less, c.loop-mark.invariant.few, c.loop-mark.invariant.room, c.requires.room)

pub overflow_sub-mark : goal.overflow_sub-mark
overflow_sub-mark c =
    let sized = mark_sized c.args.table.now c.args.layout.now.marks.items c.requires.arranged.bounded c.requires.laid.have c.in-Some.mark (rw c.deref.ensures.value at c.in-Some.ensures).is in
    omega (arith, sized.0)

pub overflow_add-limit : goal.overflow_add-limit
overflow_add-limit c =
    let sized = mark_sized c.args.table.now c.args.layout.now.marks.items c.requires.arranged.bounded c.requires.laid.have c.in-Some.mark (rw c.deref.ensures.value at c.in-Some.ensures).is in
    omega (arith, sized.0, sized.1, c.slid_address-at.ensures.low)

pub loop-mark-preserved : goal.loop-mark-preserved
loop-mark-preserved c =
    let first = rw c.deref.ensures.value at c.in-Some.ensures in
    let sized = mark_sized c.args.table.now c.args.layout.now.marks.items c.requires.arranged.bounded c.requires.laid.have c.in-Some.mark first.is in
    let more = counted_more c.args.table.now c.args.layout.now.marks.items c.requires.laid.have c.loop-mark.limit c.in-Some.mark first in
    record {
      slid = rw add-one (slid_more c.args.map.now c.args.table.now c.args.layout.now.marks.items c.requires.laid.have c.requires.arranged c.in-Some.mark first.is c.slid_address-at.result c.slid_address-at.ensures.slid
          _ (omega arith) c.loop-mark.passed.items c.add_run.new.runs.items (slid_to c.args.map.now c.args.table.now c.args.layout.now.marks.items c.requires.laid.have c.loop-mark.limit c.in-Some.mark first
          c.loop-mark.passed.items c.loop-mark.invariant.slid) c.add_run.ensures.runs c.add_run.ensures.added);
      few = rw add-one (omega (arith, more, c.add_run.ensures.len, c.loop-mark.invariant.few));
      room = omega (arith, c.loop-mark.invariant.room, c.add_run.ensures.capacity);
      within = omega (arith, sized.0, sized.1);
    }

pub loop-mark-smaller : goal.loop-mark-smaller
loop-mark-smaller c =
    let first = rw c.deref.ensures.value at c.in-Some.ensures in
    let sized = mark_sized c.args.table.now c.args.layout.now.marks.items c.requires.arranged.bounded c.requires.laid.have c.in-Some.mark first.is in
    omega (arith, first.from, sized.0, sized.1)

pub returns-clause-slid : goal.returns-clause-slid
returns-clause-slid c = slid_past c.args.map.now c.args.table.now c.args.layout.now.marks.items c.requires.laid.have c.loop-mark.limit (2 ^ 24) c.loop-mark.invariant.within (rw c.deref.ensures.value at c.in_default.ensures)
    c.loop-mark.passed.items c.loop-mark.invariant.slid
