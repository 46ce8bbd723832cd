use Rattle.std.proofs.Common.{arith, vec_capacity}
use Rattle.iigs_memory.proofs.Keeps.{store_within, store_order}
use Rattle.iigs_memory.proofs.banks.Banks.block_mut.Goals as goal

pub slice_mut-requires-clause-start_le_end : goal.slice_mut-requires-clause-start_le_end
slice_mut-requires-clause-start_le_end c = store_order c.self.inside.places.banks c.self.inside.bytes.items c.self.inside.places.slots c.know_arranged.ensures (vec_capacity c.self.inside.made) c.self.invariant.0 c.args.self.now c.self.view_is c.args.h c.in_ok-part.part (rw (← c.self.view_is) c.in_ok-part.ensures.part)

pub slice_mut-requires-clause-in_bounds : goal.slice_mut-requires-clause-in_bounds
slice_mut-requires-clause-in_bounds c = omega (arith, c.self.inside.bytes.ok, store_within c.self.inside.places.banks c.self.inside.bytes.items c.self.inside.places.slots c.know_arranged.ensures (vec_capacity c.self.inside.made) c.self.invariant.0 c.args.self.now c.self.view_is c.args.h c.in_ok-part.part (rw (← c.self.view_is) c.in_ok-part.ensures.part))
