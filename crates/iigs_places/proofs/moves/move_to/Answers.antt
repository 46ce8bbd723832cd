use Rattle.std.proofs.Common.{refl, ◌≡◌, Some}
use Rattle.iigs_places.specs.Extent.{extent}
use Rattle.iigs_meaning.specs.Slots.{slot_at}
use Rattle.iigs_places.specs.Marks.{mark}
use Rattle.iigs_places.proofs.Changed.{live_block}
use Rattle.iigs_places.proofs.Marked.{marks_at}
use Rattle.iigs_places.proofs.Moved.{have_shifted}
use Rattle.iigs_places.proofs.moves.move_to.Goals as goal

pub lay_moved-requires-clause-same : goal.lay_moved-requires-clause-same
lay_moved-requires-clause-same c = rw c.requires.there at (marks_at c.args.table.now c.args.h c.args.block.now c.args.layout.now.marks.items c.requires.live c.requires.laid.have)

pub lay_moved-requires-clause-marked : goal.lay_moved-requires-clause-marked
lay_moved-requires-clause-marked c =
    let there : extent (slot_at c.args.table.now c.args.h.slot) ≡ Some (c.args.at, c.args.block.now.want.size) = rw (live_block c.args.table.now c.args.h c.args.block.now c.requires.live, c.requires.there) refl in
    (mark c.args.h.slot (c.args.at, c.args.block.now.want.size), c.requires.laid.have.each c.args.h.slot (c.args.at, c.args.block.now.want.size) there, refl)

pub returns-clause-laid : goal.returns-clause-laid
returns-clause-laid c = record {
  laid = c.lay_moved.ensures.laid;
  have = rw c.set.ensures (have_shifted c.args.table.now c.args.h c.args.block.now c.requires.live c.args.to c.args.layout.now.marks.items c.lay_moved.new.layout.marks.items c.requires.laid.have c.lay_moved.ensures.marks);
}
