use Rattle.std.proofs.Common.{arith}
use Rattle.iigs_places.proofs.Marked.{is_marked}
use Rattle.iigs_places.proofs.Sliding.{mark_sized}
use Rattle.iigs_places.proofs.Orders.{first_none, first_put}
use Rattle.iigs_places.proofs.places.BlockPlaces.first_from.Goals as goal

pub handle_in-requires : goal.handle_in-requires
handle_in-requires c = (is_marked c.self.inside.map c.self.inside.table c.self.inside.layout c.self.invariant.0 c.self.invariant.1).small c.in-Some.mark
    (rw c.deref.ensures.value at c.in-Some.ensures).is

pub returns-in-Some-clause-found : goal.returns-in-Some-clause-found
returns-in-Some-clause-found c = rw (← c.self.view_is) (first_put c.self.inside.table c.self.inside.layout.marks.items c.self.invariant.1.have c.args.address c.in-Some.mark
    (rw c.deref.ensures.value at c.in-Some.ensures) c.handle_in.result (rw (← c.self.view_is) at c.handle_in.ensures))

pub returns-in-Some-clause-small : goal.returns-in-Some-clause-small
returns-in-Some-clause-small c =
    let sized = mark_sized c.self.inside.table c.self.inside.layout.marks.items c.self.invariant.0.bounded c.self.invariant.1.have c.in-Some.mark (rw c.deref.ensures.value at c.in-Some.ensures).is in
    omega (arith, sized.0, sized.1)

pub returns-in-None-clause-found : goal.returns-in-None-clause-found
returns-in-None-clause-found c = rw (← c.self.view_is) (first_none c.self.inside.table c.self.inside.layout.marks.items c.self.invariant.1.have c.args.address
    (rw c.deref.ensures.value at c.in-None.ensures))
