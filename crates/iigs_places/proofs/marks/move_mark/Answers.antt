use Rattle.std.proofs.Common.{◌<◌, arith, not, ◌==◌, length}
use Rattle.std.proofs.lemmas.List.Kept.{IsNonDecreasingBy-filter}
use Rattle.iigs_places.specs.declared.marks.BlockMark.{BlockMark}
use Rattle.iigs_places.proofs.Once.{dropped_less}
use Rattle.iigs_places.proofs.Replaced.{replaced_moved, replaced_order}
use Rattle.iigs_places.proofs.marks.move_mark.Goals as goal

pub add_mark-requires-clause-order : goal.add_mark-requires-clause-order
add_mark-requires-clause-order c = rw c.drop_mark.ensures.items (IsNonDecreasingBy-filter (λ (m : BlockMark). m.at) (λ m. not (m.slot == c.args.mark.slot)) c.args.marks.now.items c.requires.order)

pub add_mark-requires-clause-room : goal.add_mark-requires-clause-room
add_mark-requires-clause-room c =
    let less = dropped_less c.args.marks.now.items c.args.mark.slot c.requires.marked in
    let shorter : length c.drop_mark.new.marks.items < length c.args.marks.now.items = rw c.drop_mark.ensures.items less in
    omega (arith, shorter, c.drop_mark.new.marks.ok, c.args.marks.now.ok, c.drop_mark.ensures.capacity)

pub returns-clause-moved : goal.returns-clause-moved
returns-clause-moved c = rw c.drop_mark.ensures.items at c.add_mark.ensures.added

pub returns-then-keeps_order-clause-order : goal.returns-then-keeps_order-clause-order
returns-then-keeps_order-clause-order c =
    let found = rw c.deref.ensures.value at c.in-Some.ensures in
    replaced_order c.args.marks.now.items c.in-Some.place c.args.mark found.0 c.requires.order (rw c.deref-in-Some.ensures.value at (c.keeps_order.ensures.below c.if-keeps_order.true))
    (rw c.deref-in-Some.ensures.value at (c.keeps_order.ensures.above c.if-keeps_order.true))

pub returns-then-keeps_order-clause-moved : goal.returns-then-keeps_order-clause-moved
returns-then-keeps_order-clause-moved c =
    let found = rw c.deref.ensures.value at c.in-Some.ensures in
    replaced_moved c.args.marks.now.items c.in-Some.place c.args.mark found.0 c.requires.once found.1
