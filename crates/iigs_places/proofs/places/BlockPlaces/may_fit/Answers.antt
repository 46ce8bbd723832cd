use Rattle.std.proofs.Common.{◌^◌, arith}
use Rattle.iigs_places.proofs.NoSlide.{never_fits}
use Rattle.iigs_places.proofs.places.BlockPlaces.may_fit.Goals as goal

pub invariant_of-self : goal.invariant_of-self
invariant_of-self c = (c.self.invariant.0, c.self.invariant.1, omega (arith, c.self.invariant.2, c.gather_fixed.ensures.capacity), c.self.invariant.3)

pub returns-clause-no : goal.returns-clause-no
returns-clause-no c = rw (← c.self.view_is) (never_fits c.self.inside.map c.self.inside.table (2 ^ 24) c.args.want.now c.requires c.gather_fixed.new.fixed.items c.gather_fixed.ensures.fixed
    c.least_among.result c.is_some.result c.is_some.ensures (rw c.deref.ensures.value at c.least_among.ensures))
