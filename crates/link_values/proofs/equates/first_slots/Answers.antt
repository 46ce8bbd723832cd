use Rattle.std.proofs.Common.{take, length, List, sym, ap, subst, ◌∙◌}
use Rattle.std.specs.Prelude.{slice_get}
use Rattle.link_program.specs.Outside.{all_found}
use Rattle.link_program.specs.Programs.{symbol_of}
use Rattle.link_values.specs.declared.slots.ValueSlot.{ValueSlot}
use Rattle.link_values.specs.Equates.{AreFirstSlots}
use Rattle.link_values.proofs.EquateLaws.{reported_there, firsts_more}
use Rattle.link_values.proofs.equates.first_slots.Goals as goal

pub definitions-preserved : goal.definitions-preserved
definitions-preserved c =
    let list = c.args.program.now in
    let slots = c.definitions.slots.items in
    let t = reported_there list (length c.as_slice-number.result.now) (symbol_of c.in-Some.definition) c.in-Some.ensures in
    let at = ap (slice_get (all_found list)) (sym (ap length c.as_slice-number.ensures.value)) ∙ t.1 in
    subst (λ (l : List ValueSlot). AreFirstSlots list (take (length l) (all_found list)) l) (sym c.in_ok-push-in-Some.ensures.items)
    (firsts_more list (all_found list) slots t.0 c.first_slot.result c.definitions.invariant at (c.first_slot.ensures (length c.as_slice-number.result.now) t.0 t.1 t.2))
