use Rattle.std.proofs.Common.{◌∙◌, refl, arith, vec_capacity}
use Rattle.std.proofs.lemmas.Result.{err_from_is_err_and}
use Rattle.iigs_memory.proofs.AllPlaced.{all_lengths, all_inside, all_store, all_placed}
use Rattle.iigs_memory.proofs.banks.Banks.place_all.Goals as goal

pub returns-in_err-place_all-clause-refused : goal.returns-in_err-place_all-clause-refused
returns-in_err-place_all-clause-refused c =
    let p = err_from_is_err_and c.from_residual.result c.from_residual.ensures.1 in
    rw (p.1, p.2, ← c.self.view_is) (rw (c.start_from.ensures, c.self.invariant.1) at c.in_err-place_all.ensures.refused)

pub clear_all-requires-clause-lengths : goal.clear_all-requires-clause-lengths
clear_all-requires-clause-lengths c = rw c.deref.ensures.value (all_lengths c.self.inside.places.banks c.self.inside.bytes.items c.self.inside.places.slots c.place_all.new.self.slots (vec_capacity c.self.inside.made) c.self.invariant.0
    c.args.user c.args.fresh c.args.wants.now c.place_all.new.made.items (rw (c.start_from.ensures, c.self.invariant.1) at c.in_ok-place_all.ensures.put))

pub clear_all-requires-clause-inside : goal.clear_all-requires-clause-inside
clear_all-requires-clause-inside c = rw (c.swap.ensures.x_after, c.in_ok-place_all.ensures.banks, c.start_from.ensures, c.self.invariant.1, c.deref.ensures.value) (all_inside c.self.inside.places.banks c.self.inside.bytes.items c.self.inside.places.slots c.place_all.new.self.slots (vec_capacity c.self.inside.made) c.self.invariant.0
    c.args.user c.args.fresh c.args.wants.now c.place_all.new.made.items (rw (c.start_from.ensures, c.self.invariant.1) at c.in_ok-place_all.ensures.put))

pub give-requires : goal.give-requires
give-requires c = c.requires.lengths ∙ rw c.deref-2.ensures.value (all_lengths c.self.inside.places.banks c.self.inside.bytes.items c.self.inside.places.slots c.place_all.new.self.slots (vec_capacity c.self.inside.made) c.self.invariant.0
    c.args.user c.args.fresh c.args.wants.now c.place_all.new.made.items (rw (c.start_from.ensures, c.self.invariant.1) at c.in_ok-place_all.ensures.put))

pub invariant_of-self-2 : goal.invariant_of-self-2
invariant_of-self-2 c = rw (c.clear_all.ensures.value, c.swap.ensures.x_after, c.swap.ensures.y_after, c.in_ok-place_all.ensures.banks, c.start_from.ensures, c.self.invariant.1, c.deref.ensures.value) (
  all_store c.self.inside.places.banks c.self.inside.bytes.items c.self.inside.places.slots c.place_all.new.self.slots (vec_capacity c.self.inside.made) c.self.invariant.0
      c.args.user c.args.fresh c.args.wants.now c.place_all.new.made.items (rw (c.start_from.ensures, c.self.invariant.1) at c.in_ok-place_all.ensures.put) (vec_capacity c.place_all.new.made) (omega (arith, c.self.invariant.0.made_room, c.in_ok-place_all.ensures.capacity)),
  refl,
  rw (c.clear_all.ensures.value, c.swap.ensures.x_after, c.in_ok-place_all.ensures.banks, c.start_from.ensures, c.self.invariant.1, c.deref.ensures.value) at c.clear_all.ensures.blank,
)

pub returns-clause-placed : goal.returns-clause-placed
returns-clause-placed c = rw (← c.self.view_is, c.clear_all.ensures.value, c.swap.ensures.x_after, c.in_ok-place_all.ensures.banks, c.start_from.ensures, c.self.invariant.1, c.give.ensures, c.deref.ensures.value, c.deref-2.ensures.value)
    (all_placed c.self.inside.places.banks c.self.inside.bytes.items c.self.inside.places.slots c.place_all.new.self.slots (vec_capacity c.self.inside.made) c.self.invariant.0
    c.args.user c.args.fresh c.args.wants.now c.place_all.new.made.items (rw (c.start_from.ensures, c.self.invariant.1) at c.in_ok-place_all.ensures.put)
    (omega (arith, rw c.start_from.ensures at c.left.ensures, c.if-left-wants.false)))
