use Rattle.std.proofs.Common.{arith, not, ◌==◌}
use Rattle.std.proofs.lemmas.List.Elements.{All-filter}
use Rattle.std.proofs.lemmas.List.Kept.{IsNonDecreasingBy-filter}
use Rattle.iigs_places.specs.declared.marks.BlockMark.{BlockMark}
use Rattle.iigs_places.specs.Marks.{IsSized}
use Rattle.iigs_places.proofs.layout.lay_less.Goals as goal

pub join_marks-requires-clause-order : goal.join_marks-requires-clause-order
join_marks-requires-clause-order c = rw (c.deref.ensures.value, c.drop_mark.ensures.items) (IsNonDecreasingBy-filter (λ (m : BlockMark). m.at) (λ m. not (m.slot == c.args.slot)) c.args.layout.now.marks.items c.requires.laid.order)

pub join_marks-requires-clause-sized : goal.join_marks-requires-clause-sized
join_marks-requires-clause-sized c = rw (c.deref.ensures.value, c.drop_mark.ensures.items) (All-filter (λ m. not (m.slot == c.args.slot)) IsSized c.args.layout.now.marks.items c.requires.sized)

pub join_marks-requires-clause-room : goal.join_marks-requires-clause-room
join_marks-requires-clause-room c = rw c.deref.ensures.value (omega (arith, c.drop_mark.new.marks.ok, c.drop_mark.ensures.few, c.args.layout.now.marks.ok, c.requires.laid.few, c.requires.laid.room.1))

pub returns-clause-laid : goal.returns-clause-laid
returns-clause-laid c = record {
  order = rw c.drop_mark.ensures.items (IsNonDecreasingBy-filter (λ (m : BlockMark). m.at) (λ m. not (m.slot == c.args.slot)) c.args.layout.now.marks.items c.requires.laid.order);
  few = omega (arith, c.drop_mark.new.marks.ok, c.drop_mark.ensures.few, c.args.layout.now.marks.ok, c.requires.laid.few);
  cover = λ joined. rw c.deref.ensures.value at c.join_marks.ensures.cover;
  room = (omega (arith, c.requires.laid.room.0, c.drop_mark.ensures.capacity), omega (arith, c.requires.laid.room.1, c.join_marks.ensures.capacity));
}
