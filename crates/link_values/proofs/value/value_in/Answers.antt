use Rattle.std.proofs.Common.{ℕ, Result, Ok, Err, sym, ap, subst, ◌∙◌}
use Rattle.omf_format.specs.declared.value.Value.{Value}
use Rattle.omf_format.specs.declared.value.ValueFault.{ValueFault}
use Rattle.omf_format.specs.declared.value.ValueFault.TheVariants.{DivideByZero, NotRelocatable, Unknown}
use Rattle.omf_format.specs.Expression.{Expression, Spells}
use Rattle.link_program.specs.Outside.{all_found}
use Rattle.object_meaning.specs.Terms.{term_at}
use Rattle.link_meaning.specs.LinkValues.{fault_named}
use Rattle.link_values.specs.Slots.{rows_of}
use Rattle.link_values.proofs.ValueLaws.{value_settled, evaluated}
use Rattle.link_values.proofs.value.value_in.Goals as goal

abbrev failed : ValueFault → Result Value ValueFault
failed fault = Err fault

pub returns-in-Ok : goal.returns-in-Ok
returns-in-Ok c = λ m is.
    let text = c.args.expr.now in
    let member_place = c.args.member_place in
    let tree = c.requires.spelled.tree in
    let here = c.place_at-location.result in
    let start = c.place_at-start.result in
    value_settled c.args.program.now c.args.slots.now member_place m c.args.location here start text tree (Ok c.in-Ok.value) is (c.place_at-location.ensures c.args.program.now m is) (c.place_at-start.ensures c.args.program.now m is) c.requires.spelled.spells
    (evaluated c.expression_of-text.result c.new-meets.result member_place.lab_len text c.args.program.now c.args.slots.now member_place.place here start tree (Ok c.in-Ok.value) c.expression_of-text.ensures c.new-meets.ensures c.in-Ok.ensures.value c.requires.spelled.spells)

pub returns-in-Err-DivideByZero : goal.returns-in-Err-DivideByZero
returns-in-Err-DivideByZero c = λ m is.
    let text = c.args.expr.now in
    let member_place = c.args.member_place in
    let tree = c.requires.spelled.tree in
    let here = c.place_at-location.result in
    let start = c.place_at-start.result in
    value_settled c.args.program.now c.args.slots.now member_place m c.args.location here start text tree (failed DivideByZero) is (c.place_at-location.ensures c.args.program.now m is) (c.place_at-start.ensures c.args.program.now m is) c.requires.spelled.spells
    (evaluated c.expression_of-text.result c.new-meets.result member_place.lab_len text c.args.program.now c.args.slots.now member_place.place here start tree (failed DivideByZero) c.expression_of-text.ensures c.new-meets.ensures (λ u spells. ap failed (sym c.in-Err-DivideByZero.field-0-is) ∙ c.in-Err-DivideByZero.ensures.value u spells) c.requires.spelled.spells)

pub returns-in-Err-NotRelocatable : goal.returns-in-Err-NotRelocatable
returns-in-Err-NotRelocatable c = λ m is.
    let text = c.args.expr.now in
    let member_place = c.args.member_place in
    let tree = c.requires.spelled.tree in
    let here = c.place_at-location.result in
    let start = c.place_at-start.result in
    value_settled c.args.program.now c.args.slots.now member_place m c.args.location here start text tree (failed NotRelocatable) is (c.place_at-location.ensures c.args.program.now m is) (c.place_at-start.ensures c.args.program.now m is) c.requires.spelled.spells
    (evaluated c.expression_of-text.result c.new-meets.result member_place.lab_len text c.args.program.now c.args.slots.now member_place.place here start tree (failed NotRelocatable) c.expression_of-text.ensures c.new-meets.ensures (λ u spells. ap failed (sym c.in-Err-NotRelocatable.field-0-is) ∙ c.in-Err-NotRelocatable.ensures.value u spells) c.requires.spelled.spells)

pub returns-in-Err-Unknown : goal.returns-in-Err-Unknown
returns-in-Err-Unknown c = λ m is.
    let text = c.args.expr.now in
    let member_place = c.args.member_place in
    let tree = c.requires.spelled.tree in
    let here = c.place_at-location.result in
    let start = c.place_at-start.result in
    let at = c.in-Err-Unknown.at in
    let rows = rows_of (all_found c.args.program.now) c.args.slots.now in
    let e_is = c.expression_of-text.ensures in
    let fault = c.fault_at.ensures m tree is.there (subst (λ (x : Expression). Spells x.lab_len x.text tree) (sym e_is) c.requires.spelled.spells)
    ∙ ap (λ (x : Expression). fault_named c.args.program.now rows member_place.place m (Unknown at) (term_at x.lab_len at 0 tree)) e_is
    ∙ ap (λ (l : ℕ). fault_named c.args.program.now rows member_place.place m (Unknown at) (term_at l at 0 tree)) is.lab_len' in
    ap failed fault
    ∙ value_settled c.args.program.now c.args.slots.now member_place m c.args.location here start text tree (failed (Unknown at)) is (c.place_at-location.ensures c.args.program.now m is) (c.place_at-start.ensures c.args.program.now m is) c.requires.spelled.spells
    (evaluated c.expression_of-text.result c.new-meets.result member_place.lab_len text c.args.program.now c.args.slots.now member_place.place here start tree (failed (Unknown at)) c.expression_of-text.ensures c.new-meets.ensures (λ u spells. ap failed (sym c.in-Err-Unknown.field-0-is) ∙ c.in-Err-Unknown.ensures.value u spells) c.requires.spelled.spells)
