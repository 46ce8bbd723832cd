use Rattle.iigs_meaning.specs.Blocks.{can_purge_of}
use Rattle.iigs_places.proofs.Holds.{arranged_map}
use Rattle.iigs_places.proofs.Changed.{map_bounded}
use Rattle.iigs_places.proofs.places.BlockPlaces.purge_user.Goals as goal

pub invariant_of-self : goal.invariant_of-self
invariant_of-self c = rw c.purge_user-count.ensures.after (
  arranged_map (can_purge_of c.args.user) c.self.inside.map c.self.inside.table c.self.invariant.0,
  rw c.purge_user-count.ensures.after at c.lay_all.ensures.laid,
  c.self.invariant.2,
  c.self.invariant.3,
)

pub lay_all-requires-clause-bounded : goal.lay_all-requires-clause-bounded
lay_all-requires-clause-bounded c = rw c.purge_user-count.ensures.after (map_bounded (can_purge_of c.args.user) c.self.inside.table c.self.invariant.0.bounded)
