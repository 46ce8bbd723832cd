use Rattle.std.proofs.Common.{◌≡◌, ◌<◌, ℕ, List, Option, Some, refl, sym, ap, subst, ◌∙◌}
use Rattle.std.specs.Prelude.{Result}
use Rattle.omf_format.specs.declared.value.Value.{Value}
use Rattle.omf_format.specs.declared.value.ValueFault.{ValueFault}
use Rattle.link_program.specs.Outside.{all_found}
use Rattle.link_meaning.specs.LinkValues.{equate_value}
use Rattle.cycles.specs.Graphs as cycle_order
use Rattle.link_values.specs.declared.slots.ValueSlot.{ValueSlot}
use Rattle.link_values.specs.Slots.{rows_of, answer_of}
use Rattle.link_values.specs.Equates.{IsOpen, AreTrue, open_count}
use Rattle.link_values.proofs.EquateLaws.{true_set, fewer_set, value_by, open_equate}
use Rattle.link_values.proofs.equates.find_value.Goals as goal

abbrev some : Result Value ValueFault → Option (Result Value ValueFault)
some r = Some r

pub returns-in-None-clause-are : goal.returns-in-None-clause-are
returns-in-None-clause-are c =
    let list = c.args.program.now in
    let slots = c.args.slots.now.items in
    let n = c.args.number in
    let unset : IsOpen slots n = subst (λ (l : List ValueSlot). IsOpen l n) c.as_slice.ensures.value c.if-not-is_open.ensures.holds in
    let e = open_equate list (all_found list) slots n c.requires.are.known.are unset in
    let answer = equate_value list (rows_of (all_found list) slots) e.0 in
    let says : answer_of c.slot_of-slot.result ≡ Some answer = c.slot_of-slot.ensures e.0 e.1 e.2 ∙ ap (λ (l : List ValueSlot). some (equate_value list (rows_of (all_found list) l) e.0)) c.as_slice-in-None.ensures.value in
    subst (AreTrue list) (sym c.set_slot.ensures) (true_set list slots n e.0 c.slot_of-slot.result answer c.requires.are e.1 e.2 says
    (value_by list c.args.edges.now slots n e.0 c.requires.are c.requires.rows e.1
    (λ k is unset'. c.in-None.ensures.none refl k (subst (λ (l : List ℕ). cycle_order.IsIn l k) (sym c.row.ensures) is) (subst (λ (l : List ValueSlot). IsOpen l k) (sym c.as_slice-2.ensures.value) unset'))))

pub returns-in-None-clause-fewer : goal.returns-in-None-clause-fewer
returns-in-None-clause-fewer c =
    let list = c.args.program.now in
    let slots = c.args.slots.now.items in
    let n = c.args.number in
    let unset : IsOpen slots n = subst (λ (l : List ValueSlot). IsOpen l n) c.as_slice.ensures.value c.if-not-is_open.ensures.holds in
    let e = open_equate list (all_found list) slots n c.requires.are.known.are unset in
    let answer = equate_value list (rows_of (all_found list) slots) e.0 in
    let says : answer_of c.slot_of-slot.result ≡ Some answer = c.slot_of-slot.ensures e.0 e.1 e.2 ∙ ap (λ (l : List ValueSlot). some (equate_value list (rows_of (all_found list) l) e.0)) c.as_slice-in-None.ensures.value in
    subst (λ (l : List ValueSlot). open_count l < open_count slots) (sym c.set_slot.ensures) (fewer_set slots n c.slot_of-slot.result answer unset says)
