use Rattle.std.proofs.Common.{◌∙◌, vec_capacity}
use Rattle.iigs_memory.proofs.Keeps.{store_within, store_order, store_bytes}
use Rattle.iigs_memory.proofs.banks.Banks.block.Goals as goal

pub slice-requires : goal.slice-requires
slice-requires c = record {
  order = store_order c.self.inside.places.banks c.self.inside.bytes.items c.self.inside.places.slots c.know_arranged.ensures (vec_capacity c.self.inside.made) c.self.invariant.0 c.args.self.now c.self.view_is c.args.h c.in_ok-part.part c.in_ok-part.ensures.part;
  within = rw c.deref.ensures.value (store_within c.self.inside.places.banks c.self.inside.bytes.items c.self.inside.places.slots c.know_arranged.ensures (vec_capacity c.self.inside.made) c.self.invariant.0 c.args.self.now c.self.view_is c.args.h c.in_ok-part.part c.in_ok-part.ensures.part);
}

pub returns-clause-borrowed : goal.returns-clause-borrowed
returns-clause-borrowed c = record {
  live = c.in_ok-part.ensures.part.live;
  is = c.slice.ensures ∙ rw c.deref.ensures.value (store_bytes c.self.inside.places.banks c.self.inside.bytes.items c.self.inside.places.slots c.know_arranged.ensures (vec_capacity c.self.inside.made) c.self.invariant.0 c.args.self.now c.self.view_is c.args.h c.in_ok-part.part c.in_ok-part.ensures.part);
}
