use Rattle.std.proofs.Common.{◌^◌, arith}
use Rattle.iigs_places.proofs.TriedSlide.{nowhere_slid}
use Rattle.iigs_places.proofs.places.BlockPlaces.fits_slid.Goals as goal

pub gather_slid-requires-clause-settled : goal.gather_slid-requires-clause-settled
gather_slid-requires-clause-settled c = rw (← c.self.view_is) at c.requires.settled

pub invariant_of-self : goal.invariant_of-self
invariant_of-self c = (c.self.invariant.0, c.self.invariant.1, omega (arith, c.self.invariant.2, c.gather_slid.ensures.capacity), c.self.invariant.3)

pub returns-clause-no : goal.returns-clause-no
returns-clause-no c = rw (← c.self.view_is) (nowhere_slid c.self.inside.map c.self.inside.table (2 ^ 24) c.args.want.now c.requires.want c.gather_slid.new.passed.items c.gather_slid.ensures.slid
    c.least_among.result c.is_some.result c.is_some.ensures (rw c.deref.ensures.value at c.least_among.ensures))
