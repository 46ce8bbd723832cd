use Rattle.std.proofs.Common.{arith}
use Rattle.iigs_places.proofs.Counting.{count_is}
use Rattle.iigs_places.proofs.places.BlockPlaces.count.Goals as goal

pub returns : goal.returns
returns c = rw (← c.self.view_is) (omega (arith, count_is c.self.inside.table c.self.inside.layout.marks.items c.self.invariant.1.have, c.self.inside.layout.marks.ok, c.self.invariant.1.laid.few))
