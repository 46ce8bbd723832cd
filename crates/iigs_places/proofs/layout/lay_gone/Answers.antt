use Rattle.std.proofs.Common.{arith, not, ◌==◌}
use Rattle.std.proofs.lemmas.List.Kept.{IsNonDecreasingBy-filter}
use Rattle.iigs_places.specs.declared.marks.BlockMark.{BlockMark}
use Rattle.iigs_places.proofs.layout.lay_gone.Goals as goal

pub returns-clause-laid : goal.returns-clause-laid
returns-clause-laid c = record {
  order = rw c.drop_mark.ensures.items (IsNonDecreasingBy-filter (λ (m : BlockMark). m.at) (λ m. not (m.slot == c.args.slot)) c.args.layout.now.marks.items c.requires.laid.order);
  few = omega (arith, c.drop_mark.new.marks.ok, c.drop_mark.ensures.few, c.args.layout.now.marks.ok, c.requires.laid.few);
  cover = λ joined. absurd cc;
  room = (omega (arith, c.requires.laid.room.0, c.drop_mark.ensures.capacity), c.requires.laid.room.1);
}
