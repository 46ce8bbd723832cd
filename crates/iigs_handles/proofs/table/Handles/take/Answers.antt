use Rattle.std.proofs.Common.{arith, refl, ◌<◌, length}
use Rattle.iigs_meaning.specs.declared.slots.SlotContent.TheVariants.{Used}
use Rattle.iigs_handles.proofs.SlotLemmas.{none_below, counts_one, IsSound-take}
use Rattle.iigs_handles.proofs.table.Handles.take.Goals as goal

pub next_free-self-inside-requires-clause-below : goal.next_free-self-inside-requires-clause-below
next_free-self-inside-requires-clause-below g c =
    let h : c.self.inside.first < length c.self.inside.slots.items = omega arith in
    rw c.deref.ensures.value (none_below c.self.inside.slots.items c.self.inside.first c.self.inside.free c.self.inside.end _ c.self.invariant h refl)

pub overflow_sub-self : goal.overflow_sub-self
overflow_sub-self g c =
    let h : c.self.inside.first < length c.self.inside.slots.items = omega arith in
    counts_one c.self.inside.slots.items c.self.inside.first c.self.inside.free c.self.inside.end (record { generation = 0; content = Used c.args.value }) c.self.invariant h refl

pub invariant_of-self : goal.invariant_of-self
invariant_of-self g c =
    let h : c.self.inside.first < length c.self.inside.slots.items = omega arith in
    rw c.max-self-inside.ensures (IsSound-take c.self.inside.slots.items c.self.inside.first c.self.inside.free c.self.inside.end _ _ c.self.invariant h refl (rw c.next_free-self-inside.ensures (rw c.deref.ensures.value refl)))
