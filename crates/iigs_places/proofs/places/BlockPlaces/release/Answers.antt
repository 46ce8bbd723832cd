use Rattle.std.proofs.Common.{ap, is_some, sym}
use Rattle.iigs_places.proofs.Holds.{arranged_release}
use Rattle.iigs_places.proofs.Marked.{marks_sized, marks_at, have_released}
use Rattle.iigs_places.proofs.places.BlockPlaces.release.Goals as goal

pub lay_less-requires-clause-sized : goal.lay_less-requires-clause-sized
lay_less-requires-clause-sized c = marks_sized c.self.inside.table c.self.inside.layout.marks.items c.self.invariant.0.bounded c.self.invariant.1.have

pub lay_less-requires-clause-same : goal.lay_less-requires-clause-same
lay_less-requires-clause-same c = rw c.unwrap_or.ensures (marks_at c.self.inside.table c.args.h c.in-Ok.block c.self.inside.layout.marks.items (sym c.in-Ok.ensures.value) c.self.invariant.1.have)

pub invariant_of-self-2 : goal.invariant_of-self-2
invariant_of-self-2 c = rw c.release.ensures.after (
  arranged_release c.self.inside.map c.self.inside.table c.args.h c.self.invariant.0,
  record {
    laid = c.lay_less.ensures.laid;
    have = rw c.lay_less.ensures.marks (have_released c.self.inside.table c.args.h c.self.inside.layout.marks.items (ap is_some (sym c.in-Ok.ensures.value)) c.self.invariant.1.have);
  },
  c.self.invariant.2,
  c.self.invariant.3,
)

pub returns-clause-live : goal.returns-clause-live
returns-clause-live c = rw (← c.self.view_is) (ap is_some (sym c.in-Ok.ensures.value))
