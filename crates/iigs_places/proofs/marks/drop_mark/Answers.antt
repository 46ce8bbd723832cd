use Rattle.std.proofs.Common.{◌≡◌, arith, sym, ◌∙◌}
use Rattle.iigs_places.specs.declared.marks.BlockMark.{BlockMark}
use Rattle.iigs_places.proofs.Marked.{drop_one, drop_none, order_remove, All-remove}
use Rattle.iigs_places.proofs.marks.drop_mark.Goals as goal

any : BlockMark
any = record { at = 0; end = 0; slot = 0 }

pub loop-place-preserved : goal.loop-place-preserved
loop-place-preserved c =
    let found = rw c.deref.ensures.value at c.in-Some.ensures in (
      rw c.remove.ensures.items (drop_one c.args.slot c.loop-place.marks.items c.in-Some.place any found.0 (found.1 any)) ∙ c.loop-place.invariant.0,
      omega (arith, c.remove.ensures.len, c.loop-place.invariant.1),
      omega (arith, c.remove.ensures.capacity, c.loop-place.invariant.2),
      rw c.remove.ensures.items (order_remove (λ (m : BlockMark). m.at) c.loop-place.marks.items c.in-Some.place found.0 c.loop-place.invariant.3),
      rw c.remove.ensures.items (All-remove (λ (m : BlockMark). m.slot ≡ c.args.slot → m.at ≡ c.args.at) c.loop-place.marks.items c.in-Some.place c.loop-place.invariant.4),
    )

pub returns-clause-items : goal.returns-clause-items
returns-clause-items c = sym (drop_none c.args.slot c.loop-place.marks.items (rw c.deref.ensures.value at c.in_default.ensures)) ∙ c.loop-place.invariant.0
