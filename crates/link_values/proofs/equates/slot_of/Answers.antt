use Rattle.std.proofs.Common.{Option, Some, Result, Ok, Err, ap, ◌∙◌}
use Rattle.link_meaning.specs.laws.Steps.{has_expr}
use Rattle.omf_format.specs.declared.value.Value.{Value}
use Rattle.omf_format.specs.declared.value.ValueFault.{ValueFault}
use Rattle.link_program.specs.Outside.{all_found}
use Rattle.link_meaning.specs.LinkValues.{equate_value}
use Rattle.link_program.specs.Programs.{SymbolView, symbol_of}
use Rattle.link_values.specs.Slots.{rows_of}
use Rattle.link_values.proofs.AllFound.{inside_equate}
use Rattle.link_values.proofs.EquateLaws.{text_of, reported_there, no_member_place, member_place_near, member_place_spelled, equate_worth, one_found}
use Rattle.link_values.proofs.equates.slot_of.Goals as goal

abbrev some : Result Value ValueFault → Option (Result Value ValueFault)
some r = Some r

pub unreachable-requires : goal.unreachable-requires
unreachable-requires c =
    let list = c.args.program.now in
    let d = c.in-Some.definition in
    let t = reported_there list c.args.number (symbol_of d) c.in-Some.ensures in
    let text = text_of list d t.0 c.in-Some-expr.expr c.in-Some-expr.is t.2 in
    let here = inside_equate list c.args.number t.0 t.1 (ap has_expr text) in
    no_member_place list c.requires.files c.args.number t.0 here d.member (ap (λ (s : SymbolView). s.member) t.2) c.in-None-place_of_member.ensures

pub value_in-requires-clause-spelled : goal.value_in-requires-clause-spelled
value_in-requires-clause-spelled c =
    let list = c.args.program.now in
    let d = c.in-Some.definition in
    let t = reported_there list c.args.number (symbol_of d) c.in-Some.ensures in
    let text = text_of list d t.0 c.in-Some-expr.expr c.in-Some-expr.is t.2 in
    let here = inside_equate list c.args.number t.0 t.1 (ap has_expr text) in
    member_place_spelled list c.requires.files c.args.number t.0 here d.member (ap (λ (s : SymbolView). s.member) t.2) c.in-Some-place_of_member.member_place c.in-Some-expr.expr.now c.in-Some-place_of_member.ensures text

pub value_in-requires-clause-near : goal.value_in-requires-clause-near
value_in-requires-clause-near c =
    let list = c.args.program.now in
    let d = c.in-Some.definition in
    let t = reported_there list c.args.number (symbol_of d) c.in-Some.ensures in
    let text = text_of list d t.0 c.in-Some-expr.expr c.in-Some-expr.is t.2 in
    let here = inside_equate list c.args.number t.0 t.1 (ap has_expr text) in
    member_place_near list c.requires.files c.args.number t.0 here d.member (ap (λ (s : SymbolView). s.member) t.2) c.in-Some-place_of_member.member_place d.at c.in-Some-place_of_member.ensures (ap (λ (s : SymbolView). s.at) t.2)

pub returns-in-Ok : goal.returns-in-Ok
returns-in-Ok c = λ f at equate.
    let list = c.args.program.now in
    let d = c.in-Some.definition in
    let table = rows_of (all_found list) c.args.slots.now in
    let t = reported_there list c.args.number (symbol_of d) c.in-Some.ensures in
    let text = text_of list d t.0 c.in-Some-expr.expr c.in-Some-expr.is t.2 in
    let here = inside_equate list c.args.number t.0 t.1 (ap has_expr text) in
    let same = one_found list c.args.number t.0 f t.1 at in
    ap some (equate_worth list c.requires.files c.args.number t.0 here d.member (ap (λ (s : SymbolView). s.member) t.2) c.in-Some-place_of_member.member_place d.at c.in-Some-expr.expr.now table (Ok c.in-Ok.value)
    c.in-Some-place_of_member.ensures (ap (λ (s : SymbolView). s.at) t.2) text c.in-Ok.ensures
    ∙ ap (equate_value list table) same)

pub returns-in-Err : goal.returns-in-Err
returns-in-Err c = λ f at equate.
    let list = c.args.program.now in
    let d = c.in-Some.definition in
    let table = rows_of (all_found list) c.args.slots.now in
    let t = reported_there list c.args.number (symbol_of d) c.in-Some.ensures in
    let text = text_of list d t.0 c.in-Some-expr.expr c.in-Some-expr.is t.2 in
    let here = inside_equate list c.args.number t.0 t.1 (ap has_expr text) in
    let same = one_found list c.args.number t.0 f t.1 at in
    ap some (equate_worth list c.requires.files c.args.number t.0 here d.member (ap (λ (s : SymbolView). s.member) t.2) c.in-Some-place_of_member.member_place d.at c.in-Some-expr.expr.now table (Err c.in-Err.fault)
    c.in-Some-place_of_member.ensures (ap (λ (s : SymbolView). s.at) t.2) text c.in-Err.ensures
    ∙ ap (equate_value list table) same)
