use Rattle.iigs_places.proofs.Moved.{arranged_either}
use Rattle.iigs_places.proofs.places.BlockPlaces.empty.Goals as goal

pub invariant_of-self : goal.invariant_of-self
invariant_of-self c = (
  arranged_either c.self.inside.map c.self.inside.table c.empty_block.new.table c.args.h c.empty_block.result c.empty_block.ensures.emptied c.empty_block.ensures.err c.self.invariant.0,
  c.empty_block.ensures.laid,
  c.self.invariant.2,
  c.self.invariant.3,
)

pub returns-clause-emptied : goal.returns-clause-emptied
returns-clause-emptied c = rw (← c.self.view_is) c.empty_block.ensures.emptied

pub returns-clause-refused : goal.returns-clause-refused
returns-clause-refused c = rw (← c.self.view_is) c.empty_block.ensures.refused
