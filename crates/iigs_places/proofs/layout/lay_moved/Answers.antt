use Rattle.std.proofs.Common.{arith}
use Rattle.std.proofs.lemmas.List.Sorted.{length_permutation}
use Rattle.iigs_places.proofs.Once.{dropped_less}
use Rattle.iigs_places.proofs.layout.lay_moved.Goals as goal

pub returns-clause-laid : goal.returns-clause-laid
returns-clause-laid c =
    let less = dropped_less c.args.layout.now.marks.items c.args.mark.slot c.requires.marked in
    record {
      order = c.move_mark.ensures.order;
      few = omega (arith, length_permutation _ _ c.move_mark.ensures.moved, less, c.requires.laid.few);
      cover = λ joined. absurd cc;
      room = (omega (arith, c.requires.laid.room.0, c.move_mark.ensures.capacity), c.requires.laid.room.1);
    }
