use Rattle.std.proofs.Common.{◌≡◌, ◌∙◌, ℕ, Result, Ok, Err, Some, ap}
use Rattle.link_meaning.specs.laws.Steps.{has_expr}
use Rattle.std.specs.Prelude.{OnOk, slice_get}
use Rattle.link_meaning.specs.Search.{FoundDefinition}
use Rattle.link_program.specs.Outside.{all_found}
use Rattle.link_program.specs.Programs.{SymbolView, symbol_of, symbol_view}
use Rattle.link_values.specs.Equates.{IsRow}
use Rattle.link_values.proofs.AllFound.{inside_equate}
use Rattle.link_values.proofs.EquateLaws.{text_of, no_member_place, its_member_place, member_place_spelled}
use Rattle.link_values.proofs.LeadLaws.{row_from}
use Rattle.link_values.proofs.leads.find_row.Goals as goal

on_ok : {A E : Type 0} (r : Result A E) (P Q : Type 0) → (P → Q) → OnOk r P → OnOk r Q
on_ok (Ok x) P Q f p = f p
on_ok (Err e) P Q f p = tt

pub add_leads-requires-clause-spelled : goal.add_leads-requires-clause-spelled
add_leads-requires-clause-spelled c =
    let list = c.args.program.now in
    let d = c.args.definition.now in
    let t = c.requires.there in
    let text = text_of list d t.1 c.in-Some.expr c.in-Some.is t.3 in
    let here = inside_equate list t.0 t.1 t.2 (ap has_expr text) in
    member_place_spelled list c.requires.files t.0 t.1 here d.member (ap (λ (s : SymbolView). s.member) t.3) c.in-Some-place_of_member.member_place c.in-Some.expr.now c.in-Some-place_of_member.ensures text

pub unreachable-requires : goal.unreachable-requires
unreachable-requires c =
    let list = c.args.program.now in
    let d = c.args.definition.now in
    let t = c.requires.there in
    let text = text_of list d t.1 c.in-Some.expr c.in-Some.is t.3 in
    let here = inside_equate list t.0 t.1 t.2 (ap has_expr text) in
    no_member_place list c.requires.files t.0 t.1 here d.member (ap (λ (s : SymbolView). s.member) t.3) c.in-None-place_of_member.ensures

pub returns-in-Some-place_of_member : goal.returns-in-Some-place_of_member
returns-in-Some-place_of_member c =
    let list = c.args.program.now in
    let d = c.args.definition.now in
    let member_place = c.in-Some-place_of_member.member_place in
    on_ok c.add_leads.result _ ((k : ℕ) (f : FoundDefinition) → slice_get (all_found list) k ≡ Some f → symbol_of d ≡ symbol_view list f → IsRow list f c.add_leads.new.row.items)
    (λ go k f at same.
    let text = text_of list d f c.in-Some.expr c.in-Some.is same in
    let here = inside_equate list k f at (ap has_expr text) in
    let s = its_member_place list c.requires.files k f here d.member (ap (λ (x : SymbolView). x.member) same) member_place c.in-Some-place_of_member.ensures in
    row_from list c.requires.files k f here member_place.place member_place.lab_len c.in-Some.expr.now c.add_leads.new.row.items c.clear.new.self.items text
    (s.0 ∙ ap (λ (x : SymbolView). x.member) same) s.1.lab_len' s.1.there c.clear.ensures.items go)
    c.add_leads.ensures
