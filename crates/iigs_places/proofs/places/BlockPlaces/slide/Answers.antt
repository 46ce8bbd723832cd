use Rattle.std.proofs.Common.{arith}
use Rattle.iigs_places.proofs.places.BlockPlaces.slide.Goals as goal

pub slide_all-requires-clause-settled : goal.slide_all-requires-clause-settled
slide_all-requires-clause-settled c = rw (← c.self.view_is) at c.requires

pub invariant_of-self : goal.invariant_of-self
invariant_of-self c = (c.slide_all.ensures.arranged, c.slide_all.ensures.laid, omega (arith, c.self.invariant.2, c.slide_all.ensures.capacity), c.self.invariant.3)

pub returns-clause-slides : goal.returns-clause-slides
returns-clause-slides c = rw (← c.self.view_is) c.slide_all.ensures.slides
