use Rattle.std.proofs.Common.{arith, ◌∙◌, refl, vec_capacity}
use Rattle.iigs_memory.proofs.Keeps.{store_within, store_order, store_bytes, store_refilled, store_alone}
use Rattle.iigs_memory.proofs.banks.Banks.lend.Goals as goal

pub slice_mut-requires-clause-start_le_end : goal.slice_mut-requires-clause-start_le_end
slice_mut-requires-clause-start_le_end c = store_order c.self.inside.places.banks c.self.inside.bytes.items c.self.inside.places.slots c.know_arranged.ensures (vec_capacity c.self.inside.made) c.self.invariant.0 c.args.self.now c.self.view_is c.args.h c.in-Ok.part (rw (← c.self.view_is) c.in-Ok.ensures.part)

pub slice_mut-requires-clause-in_bounds : goal.slice_mut-requires-clause-in_bounds
slice_mut-requires-clause-in_bounds c = omega (arith, c.self.inside.bytes.ok, store_within c.self.inside.places.banks c.self.inside.bytes.items c.self.inside.places.slots c.know_arranged.ensures (vec_capacity c.self.inside.made) c.self.invariant.0 c.args.self.now c.self.view_is c.args.h c.in-Ok.part (rw (← c.self.view_is) c.in-Ok.ensures.part))

pub returns : goal.returns
returns c = (
  (refl, store_refilled c.self.inside.places.banks c.self.inside.bytes.items c.self.inside.places.slots c.know_arranged.ensures (vec_capacity c.self.inside.made) c.self.invariant.0 c.args.self.now c.self.view_is c.args.h c.in-Ok.part (rw (← c.self.view_is) c.in-Ok.ensures.part) c.self.inside.bytes.len c.self.inside.bytes.ok.0),
  record {
    writes_back = tt;
    value = c.slice_mut.ensures.value ∙ store_bytes c.self.inside.places.banks c.self.inside.bytes.items c.self.inside.places.slots c.know_arranged.ensures (vec_capacity c.self.inside.made) c.self.invariant.0 c.args.self.now c.self.view_is c.args.h c.in-Ok.part (rw (← c.self.view_is) c.in-Ok.ensures.part);
    alone = store_alone c.self.inside.places.banks c.self.inside.bytes.items c.self.inside.places.slots c.know_arranged.ensures (vec_capacity c.self.inside.made) c.self.invariant.0 c.args.self.now c.self.view_is c.args.h c.in-Ok.part (rw (← c.self.view_is) c.in-Ok.ensures.part);
  },
)
