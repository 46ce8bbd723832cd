use Rattle.iigs_places.proofs.Holds.{arranged_changed, blocks_same}
use Rattle.iigs_places.proofs.Marked.{have_same}
use Rattle.iigs_places.proofs.places.BlockPlaces.set.Goals as goal

pub invariant_of-self : goal.invariant_of-self
invariant_of-self c = rw c.set.ensures (
  arranged_changed c.self.inside.map c.self.inside.table c.args.h c.args.block c.self.invariant.0 c.requires.level (rw (← c.self.view_is) at c.requires.same),
  record {
    laid = c.self.invariant.1.laid;
    have = have_same c.self.inside.table _ c.self.inside.layout.marks.items (blocks_same c.self.inside.table c.args.h c.args.block (rw (← c.self.view_is) at c.requires.same)) c.self.invariant.1.have;
  },
  c.self.invariant.2,
  c.self.invariant.3,
)
