use Rattle.std.proofs.Common.{sym}
use Rattle.iigs_places.proofs.Marked.{marks_at}
use Rattle.iigs_places.proofs.Moved.{have_emptied}
use Rattle.iigs_places.proofs.moves.empty_block.Goals as goal

pub lay_gone-requires-clause-same : goal.lay_gone-requires-clause-same
lay_gone-requires-clause-same c = rw c.in-Some.is at (marks_at c.args.table.now c.args.h c.in-Ok.block.now c.args.layout.now.marks.items (sym c.in-Ok.ensures) c.requires.laid.have)

pub returns-clause-laid : goal.returns-clause-laid
returns-clause-laid c = record {
  laid = c.lay_gone.ensures.laid;
  have = rw (c.set.ensures, c.lay_gone.ensures.marks) (have_emptied c.args.table.now c.args.h c.in-Ok.block.now (sym c.in-Ok.ensures) c.args.layout.now.marks.items c.requires.laid.have);
}
