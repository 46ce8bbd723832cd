use Rattle.std.proofs.Common.{arith}
use Rattle.std.proofs.lemmas.List.Sorted.{length_permutation}
use Rattle.iigs_places.proofs.Covered.{cover_added}
use Rattle.iigs_places.proofs.layout.lay_more.Goals as goal

pub returns-clause-laid : goal.returns-clause-laid
returns-clause-laid c = record {
  order = c.add_mark.ensures.order;
  few = omega (arith, length_permutation _ _ c.add_mark.ensures.added, c.requires.marks_more, c.args.layout.now.marks.ok);
  cover = λ joined. cover_added c.args.layout.now.marks.items c.add_mark.new.marks.items c.args.mark c.args.layout.now.runs.items c.add_run.new.runs.items
      (c.requires.laid.cover c.requires.joined) c.add_mark.ensures.added c.add_run.ensures.runs c.add_run.ensures.added;
  room = (omega (arith, c.requires.laid.room.0, c.add_mark.ensures.capacity), omega (arith, c.requires.laid.room.1, c.add_run.ensures.capacity));
}
