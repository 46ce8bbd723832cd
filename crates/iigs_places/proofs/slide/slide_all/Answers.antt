use Rattle.std.proofs.Common.{add-one, arith}
use Rattle.iigs_meaning.specs.laws.SlideLaws.{slid_none}
use Rattle.iigs_places.proofs.Sliding.{passed_none, passed_to, slid_settled, slid_step, slid_whole, step_count, step_room, step_passed, mark_sized}
use Rattle.iigs_places.proofs.slide.slide_all.Goals as goal

pub loop-mark-init : goal.loop-mark-init
loop-mark-init c = record {
  slid = slid_none c.args.map.now c.args.table.now;
  arranged = c.requires.arranged;
  laid = c.requires.laid;
  passed = rw c.clear.ensures.items (passed_none c.args.table.now);
  few = omega (arith, c.clear.ensures.len);
  room = omega (arith, c.clear.ensures.capacity);
  within = omega arith;
}

pub slide_block-at-requires-clause-settled : goal.slide_block-at-requires-clause-settled
slide_block-at-requires-clause-settled c = slid_settled c.args.map.now c.args.table.now c.loop-mark.table c.requires.arranged.sound c.requires.settled c.loop-mark.limit c.loop-mark.invariant.slid

pub slide_block-at-requires-clause-marked : goal.slide_block-at-requires-clause-marked
slide_block-at-requires-clause-marked c = (rw c.deref.ensures.value at c.in-Some.ensures).is

pub slide_block-at-requires-clause-passed : goal.slide_block-at-requires-clause-passed
slide_block-at-requires-clause-passed c = rw c.deref-in-Some.ensures.value (passed_to c.loop-mark.table c.loop-mark.layout.marks.items c.loop-mark.invariant.laid.have c.loop-mark.limit c.in-Some.mark
    (rw c.deref.ensures.value at c.in-Some.ensures) c.loop-mark.passed.items c.loop-mark.invariant.passed)

pub add_run-requires-clause-runs : goal.add_run-requires-clause-runs
add_run-requires-clause-runs c = c.loop-mark.invariant.passed.are

pub add_run-requires-clause-some : goal.add_run-requires-clause-some
add_run-requires-clause-some c =
    let sized = mark_sized c.loop-mark.table c.loop-mark.layout.marks.items c.loop-mark.invariant.arranged.bounded c.loop-mark.invariant.laid.have c.in-Some.mark (rw c.deref.ensures.value at c.in-Some.ensures).is in
    omega (arith, sized.0)

pub add_run-requires-clause-ends : goal.add_run-requires-clause-ends
add_run-requires-clause-ends c =
    let sized = mark_sized c.loop-mark.table c.loop-mark.layout.marks.items c.loop-mark.invariant.arranged.bounded c.loop-mark.invariant.laid.have c.in-Some.mark (rw c.deref.ensures.value at c.in-Some.ensures).is in
    omega (arith, sized.0, sized.1, c.slide_block-at.ensures.low)

pub add_run-requires-clause-room : goal.add_run-requires-clause-room
add_run-requires-clause-room c =
    let less = step_room c.args.map.now c.loop-mark.table c.loop-mark.invariant.arranged c.loop-mark.layout.marks.items c.loop-mark.invariant.laid.have c.loop-mark.limit c.in-Some.mark
    (rw c.deref.ensures.value at c.in-Some.ensures) c.slide_block-at.result c.slide_block-at.ensures.low c.slide_block-at.new.table c.slide_block-at.ensures.arranged c.slide_block-at.ensures.sinks in
    omega (arith, less, c.loop-mark.invariant.few, c.loop-mark.invariant.room, c.requires.room)

pub overflow_sub-mark : goal.overflow_sub-mark
overflow_sub-mark c =
    let sized = mark_sized c.loop-mark.table c.loop-mark.layout.marks.items c.loop-mark.invariant.arranged.bounded c.loop-mark.invariant.laid.have c.in-Some.mark (rw c.deref.ensures.value at c.in-Some.ensures).is in
    omega (arith, sized.0)

pub overflow_add-limit : goal.overflow_add-limit
overflow_add-limit c =
    let sized = mark_sized c.loop-mark.table c.loop-mark.layout.marks.items c.loop-mark.invariant.arranged.bounded c.loop-mark.invariant.laid.have c.in-Some.mark (rw c.deref.ensures.value at c.in-Some.ensures).is in
    omega (arith, sized.0, sized.1, c.slide_block-at.ensures.low)

pub loop-mark-preserved : goal.loop-mark-preserved
loop-mark-preserved c =
    let first = rw c.deref.ensures.value at c.in-Some.ensures in
    let sized = mark_sized c.loop-mark.table c.loop-mark.layout.marks.items c.loop-mark.invariant.arranged.bounded c.loop-mark.invariant.laid.have c.in-Some.mark first.is in
    let more = step_count c.args.map.now c.loop-mark.table c.loop-mark.invariant.arranged c.loop-mark.layout.marks.items c.loop-mark.invariant.laid.have c.loop-mark.limit c.in-Some.mark
    first c.slide_block-at.result c.slide_block-at.ensures.low c.slide_block-at.new.table c.slide_block-at.ensures.arranged c.slide_block-at.ensures.sinks in
    record {
      slid = rw add-one (slid_step c.args.map.now c.args.table.now c.loop-mark.table c.requires.arranged.sound c.requires.settled c.loop-mark.limit c.loop-mark.invariant.slid
          c.loop-mark.layout.marks.items c.loop-mark.invariant.laid.have c.loop-mark.invariant.arranged c.in-Some.mark first c.slide_block-at.result c.slide_block-at.new.table c.slide_block-at.ensures.sinks);
      arranged = c.slide_block-at.ensures.arranged;
      laid = c.slide_block-at.ensures.laid;
      passed = rw add-one (step_passed c.args.map.now c.loop-mark.table c.loop-mark.invariant.arranged c.loop-mark.layout.marks.items c.loop-mark.invariant.laid.have c.loop-mark.limit c.in-Some.mark
          first c.slide_block-at.result c.slide_block-at.ensures.low c.slide_block-at.new.table c.slide_block-at.ensures.arranged c.slide_block-at.ensures.sinks
          _ (omega arith) c.loop-mark.passed.items c.add_run.new.runs.items c.loop-mark.invariant.passed c.add_run.ensures.runs c.add_run.ensures.added);
      few = rw add-one (omega (arith, more, c.add_run.ensures.len, c.loop-mark.invariant.few));
      room = omega (arith, c.loop-mark.invariant.room, c.add_run.ensures.capacity);
      within = omega (arith, sized.0, sized.1);
    }

pub loop-mark-smaller : goal.loop-mark-smaller
loop-mark-smaller c =
    let first = rw c.deref.ensures.value at c.in-Some.ensures in
    let sized = mark_sized c.loop-mark.table c.loop-mark.layout.marks.items c.loop-mark.invariant.arranged.bounded c.loop-mark.invariant.laid.have c.in-Some.mark first.is in
    omega (arith, first.from, sized.0, sized.1)

pub returns-clause-slides : goal.returns-clause-slides
returns-clause-slides c = slid_whole c.args.map.now c.args.table.now c.loop-mark.table c.requires.arranged.sound c.requires.settled c.loop-mark.limit c.loop-mark.invariant.slid
    c.loop-mark.layout.marks.items c.loop-mark.invariant.laid.have (rw c.deref.ensures.value at c.in_default.ensures)
