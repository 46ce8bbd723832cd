use Rattle.iigs_places.proofs.Marked.{is_marked, no_holder, held_is}
use Rattle.iigs_places.proofs.places.BlockPlaces.holder.Goals as goal

pub returns-in-None : goal.returns-in-None
returns-in-None c = rw (← c.self.view_is) (no_holder c.self.inside.table c.self.inside.layout.marks.items (is_marked c.self.inside.map c.self.inside.table c.self.inside.layout c.self.invariant.0 c.self.invariant.1)
    c.args.address (rw c.deref.ensures.value at c.in-None.ensures))

pub held_at-requires : goal.held_at-requires
held_at-requires c = (is_marked c.self.inside.map c.self.inside.table c.self.inside.layout c.self.invariant.0 c.self.invariant.1).small c.in-Some.mark (rw c.deref.ensures.value at c.in-Some.ensures.is)

pub returns-in-Some : goal.returns-in-Some
returns-in-Some c = rw (← c.self.view_is) (held_is c.self.inside.table c.self.inside.layout.marks.items (is_marked c.self.inside.map c.self.inside.table c.self.inside.layout c.self.invariant.0 c.self.invariant.1)
    c.args.address c.in-Some.mark (rw c.deref.ensures.value at c.in-Some.ensures) c.held_at.result (rw (← c.self.view_is) at c.held_at.ensures))
