use Rattle.std.proofs.Common.{arith}
use Rattle.iigs_places.proofs.places.BlockPlaces.place.Goals as goal

pub invariant_of-self : goal.invariant_of-self
invariant_of-self c = (
  c.put_block.ensures.arranged,
  c.put_block.ensures.laid,
  omega (arith, c.self.invariant.2, c.put_block.ensures.spots_capacity),
  omega (arith, c.self.invariant.3, c.put_block.ensures.turns_capacity),
)

pub returns-clause-put : goal.returns-clause-put
returns-clause-put c = rw (← c.self.view_is) c.put_block.ensures.put

pub returns-clause-refused : goal.returns-clause-refused
returns-clause-refused c = rw (← c.self.view_is) c.put_block.ensures.refused
