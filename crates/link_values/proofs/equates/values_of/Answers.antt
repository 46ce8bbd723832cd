use Rattle.std.proofs.Common.{List, refl, sym, subst}
use Rattle.cycles.specs.Ranks.{IsFirstCycle}
use Rattle.link_values.specs.declared.slots.ValueSlot.{ValueSlot}
use Rattle.link_values.specs.Equates.{IsOpen}
use Rattle.link_values.proofs.EquateLaws.{firsts_true, all_valued, inside, cycle_inside, first_circular, none_open}
use Rattle.link_values.proofs.equates.values_of.Goals as goal

pub returns-then-not-has_open-clause-valued : goal.returns-then-not-has_open-clause-valued
returns-then-not-has_open-clause-valued c =
    all_valued c.args.program.now c.in-Ok.slots.items c.requires (firsts_true c.args.program.now c.in-Ok.slots.items c.requires c.in-Ok.ensures)
    (λ k unset. c.if-not-has_open.ensures.none refl k (subst (λ (l : List ValueSlot). IsOpen l k) (sym c.as_slice.ensures.value) unset))

pub find_values_in_order-requires-clause-are : goal.find_values_in_order-requires-clause-are
find_values_in_order-requires-clause-are c = firsts_true c.args.program.now c.in-Ok.slots.items c.requires c.in-Ok.ensures

pub returns-then-not-has_open-2-clause-valued : goal.returns-then-not-has_open-2-clause-valued
returns-then-not-has_open-2-clause-valued c =
    all_valued c.args.program.now c.find_all_values.new.slots.items c.requires c.find_all_values.ensures.are
    (λ k unset. c.if-not-has_open-2.ensures.none refl k (subst (λ (l : List ValueSlot). IsOpen l k) (sym c.as_slice-4.ensures.value) unset))

pub first_cycle-requires : goal.first_cycle-requires
first_cycle-requires c = inside c.args.program.now c.in-Ok-leads_of.edges c.in-Ok-leads_of.ensures

pub cycle_fault-requires : goal.cycle_fault-requires
cycle_fault-requires c =
    let first = subst (IsFirstCycle c.in-Ok-leads_of.edges) c.in-Ok-Some.field-0-is c.in-Ok-Some.ensures in
    cycle_inside c.args.program.now c.in-Ok-leads_of.edges c.in-Ok-leads_of.ensures c.in-Ok-Some.number first.1

pub returns-in-Ok-Some-clause-refused : goal.returns-in-Ok-Some-clause-refused
returns-in-Ok-Some-clause-refused c =
    let first = subst (IsFirstCycle c.in-Ok-leads_of.edges) c.in-Ok-Some.field-0-is c.in-Ok-Some.ensures in
    first_circular c.args.program.now c.in-Ok-leads_of.edges c.in-Ok-leads_of.ensures c.in-Ok-Some.number c.cycle_fault.result c.find_all_values.ensures.are.known.once first.1 first.2 c.cycle_fault.ensures

pub unreachable-requires : goal.unreachable-requires
unreachable-requires c =
    let none = subst (IsFirstCycle c.in-Ok-leads_of.edges) c.in-Ok-None.field-0-is c.in-Ok-None.ensures in
    let unset = c.if-not-has_open-2.ensures.some in
    none_open c.args.program.now c.in-Ok-leads_of.edges c.in-Ok-leads_of.ensures c.find_all_values.new.slots.items c.requires c.find_all_values.ensures.are c.find_all_values.ensures.settled none unset.0
    (subst (λ (l : List ValueSlot). IsOpen l unset.0) c.as_slice-4.ensures.value unset.1)
