use Rattle.std.proofs.Common.{◌≡◌, ◌≢◌, ◌<◌, ◌+◌, arith, length, count_by, None, IsSome}
use Rattle.iigs_meaning.specs.declared.handles.Handle.{Handle}
use Rattle.iigs_meaning.specs.Slots.{new_handle, is_free}
use Rattle.iigs_places.proofs.Takes.{some_handle}
use Rattle.iigs_places.proofs.Alls.{all_next, free_less}
use Rattle.iigs_places.proofs.table.put_all.Goals as goal

pub unreachable-requires : goal.unreachable-requires
unreachable-requires c =
    let none : new_handle c.loop-place.table ≡ None = rw c.in-Err-NoHandle.field-0-is at c.in-Err-NoHandle.ensures.refused in
    let enough : count_by is_free c.loop-place.table ≢ 0 = λ zero. omega (arith, c.loop-place.invariant.1, c.loop-place-test.true) in
    let some : IsSome (new_handle c.loop-place.table) = some_handle c.loop-place.table enough in
    let no : IsSome {T = Handle} None = rw none at some in
    cc

pub loop-place-preserved : goal.loop-place-preserved
loop-place-preserved c =
    let inside : c.loop-place.place < length c.args.wants.now = c.loop-place-test.true in
    let less : count_by is_free c.put_block.new.table + 1 ≡ count_by is_free c.loop-place.table = free_less c.args.map.now c.loop-place.table c.put_block.new.table _ c.args.user c.in-Ok.put c.in-Ok.ensures.put in (
      rw c.push_reserved.ensures.items
          (all_next c.args.map.now c.args.user c.args.table.now c.loop-place.table c.put_block.new.table c.args.wants.now c.loop-place.made.items c.loop-place.place _ c.in-Ok.put
          c.requires.arranged.small (c.requires.wants c.loop-place.place _ inside) inside c.loop-place.invariant.0 c.in-Ok.ensures.put),
      omega (arith, c.loop-place.invariant.1),
      omega (arith, c.loop-place.invariant.2, c.push_reserved.ensures.len),
      c.in-Ok.ensures.arranged,
      c.in-Ok.ensures.laid,
      omega (arith, c.loop-place.invariant.5, c.in-Ok.ensures.spots_capacity),
      omega (arith, c.loop-place.invariant.6, c.in-Ok.ensures.turns_capacity),
      omega (arith, c.loop-place.invariant.7, c.push_reserved.ensures.capacity),
      omega (arith, c.loop-place.invariant.8, c.in-Ok.ensures.spots_capacity),
      omega (arith, c.loop-place.invariant.9, c.in-Ok.ensures.turns_capacity),
      omega (arith, c.loop-place.invariant.10, c.push_reserved.ensures.capacity),
    )
