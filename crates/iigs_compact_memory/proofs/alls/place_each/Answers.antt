use Rattle.std.proofs.Common.{◌<◌, length, arith}
use Rattle.iigs_compact_memory.proofs.Several.{each_room, each_handle, each_puts, each_can, each_zeros, each_kept, each_there}
use Rattle.iigs_compact_memory.proofs.alls.place_each.Goals as goal

pub loop-number-preserved : goal.loop-number-preserved
loop-number-preserved c =
    let kept = c.loop-number.invariant.kept in
    let inside : c.loop-number.number < length c.args.wants.now = c.loop-number-test.true in
    record {
      puts = rw c.push_reserved.ensures.items (each_puts c.args.banks.now c.loop-number.banks c.place.new.banks c.args.user c.args.wants.now c.loop-number.number _ inside c.in-Ok.h c.loop-number.handles.items kept.banks c.in-Ok.ensures.placed
          c.loop-number.invariant.puts);
      can = each_can c.args.banks.now c.loop-number.banks c.place.new.banks c.args.user c.args.wants.now c.loop-number.number _ inside c.in-Ok.h c.loop-number.handles.items kept.banks c.in-Ok.ensures.placed
          c.loop-number.invariant.can;
      zeros = rw c.push_reserved.ensures.items (each_zeros c.args.banks.now c.loop-number.banks c.place.new.banks c.args.user c.args.wants.now c.loop-number.number _ inside c.in-Ok.h c.loop-number.handles.items kept.banks c.in-Ok.ensures.placed
          c.loop-number.invariant.zeros);
      kept = rw c.push_reserved.ensures.items (each_kept c.args.banks.now c.loop-number.banks c.place.new.banks c.args.user c.args.wants.now c.loop-number.number _ inside c.in-Ok.h c.loop-number.handles.items kept.banks c.in-Ok.ensures.placed
          kept);
      there = rw c.push_reserved.ensures.items (each_there c.args.banks.now c.loop-number.banks c.place.new.banks c.args.user c.args.wants.now c.loop-number.number _ inside c.in-Ok.h c.loop-number.handles.items kept.banks c.in-Ok.ensures.placed
          c.loop-number.invariant.there);
      settled = c.in-Ok.ensures.settled;
      banks = c.in-Ok.ensures.banks;
      count = omega (arith, c.push_reserved.ensures.len, c.loop-number.invariant.count);
      room = omega (arith, c.push_reserved.ensures.capacity, c.loop-number.invariant.room);
    }

pub unreachable-requires-in-Err-NoHandle : goal.unreachable-requires-in-Err-NoHandle
unreachable-requires-in-Err-NoHandle c =
    let none = rw c.in-Err-NoHandle.field-0-is at c.in-Err-NoHandle.ensures.refused in
    each_handle c.args.banks.now.banks c.args.user c.loop-number.banks.slots c.args.wants.now c.loop-number.number c.loop-number-test.true c.loop-number.invariant.can none

pub unreachable-requires-in-Err-NoRoom : goal.unreachable-requires-in-Err-NoRoom
unreachable-requires-in-Err-NoRoom c =
    let refused = rw c.in-Err-NoRoom.field-0-is at c.in-Err-NoRoom.ensures.refused in
    each_room c.args.banks.now.banks c.args.user c.loop-number.banks.slots c.args.wants.now c.loop-number.number _ c.loop-number-test.true c.loop-number.invariant.can
    (rw c.loop-number.invariant.kept.banks at refused.2)
