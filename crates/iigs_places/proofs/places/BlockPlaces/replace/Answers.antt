use Rattle.std.proofs.Common.{arith}
use Rattle.iigs_places.proofs.places.BlockPlaces.replace.Goals as goal

pub invariant_of-self : goal.invariant_of-self
invariant_of-self c = (
  c.replace_block.ensures.arranged,
  c.replace_block.ensures.laid,
  omega (arith, c.self.invariant.2, c.replace_block.ensures.spots_capacity),
  omega (arith, c.self.invariant.3, c.replace_block.ensures.turns_capacity),
)

pub returns-clause-put : goal.returns-clause-put
returns-clause-put c = rw (← c.self.view_is) c.replace_block.ensures.put

pub returns-clause-refused : goal.returns-clause-refused
returns-clause-refused c = rw (← c.self.view_is) c.replace_block.ensures.refused
