use Rattle.std.proofs.Common.{arith}
use Rattle.iigs_places.proofs.Moved.{arranged_gone}
use Rattle.iigs_places.proofs.places.BlockPlaces.purge_first.Goals as goal

pub invariant_of-self : goal.invariant_of-self
invariant_of-self c = (
  rw c.purge_first.ensures.after (arranged_gone c.self.inside.map c.self.inside.table c.args.count c.self.invariant.0),
  c.purge_first.ensures.laid,
  omega (arith, c.self.invariant.2, c.purge_first.ensures.spots_capacity),
  omega (arith, c.self.invariant.3, c.purge_first.ensures.turns_capacity),
)
