use Rattle.std.proofs.Common.{arith}
use Rattle.std.proofs.lemmas.List.Sums.{count_by-le-length}
use Rattle.iigs_meaning.specs.Slots.{is_free}
use Rattle.iigs_places.proofs.places.BlockPlaces.place_all.Goals as goal

pub put_all-requires-clause-free : goal.put_all-requires-clause-free
put_all-requires-clause-free c = rw (← c.self.view_is) at c.requires.free

pub put_all-requires-clause-few : goal.put_all-requires-clause-few
put_all-requires-clause-few c = omega (arith, rw (← c.self.view_is) at c.requires.free, count_by-le-length is_free c.self.inside.table, c.self.invariant.0.count)

pub invariant_of-self : goal.invariant_of-self
invariant_of-self c = (
  c.put_all.ensures.arranged,
  c.put_all.ensures.laid,
  omega (arith, c.self.invariant.2, c.put_all.ensures.spots_capacity),
  omega (arith, c.self.invariant.3, c.put_all.ensures.turns_capacity),
)

pub returns-clause-put : goal.returns-clause-put
returns-clause-put c = rw (← c.self.view_is) c.put_all.ensures.put

pub returns-clause-refused : goal.returns-clause-refused
returns-clause-refused c = rw (← c.self.view_is) c.put_all.ensures.refused
