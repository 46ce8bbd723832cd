use Rattle.std.proofs.Common.{◌≡◌, ℕ, sym, ap, ◌∙◌}
use Rattle.link_meaning.specs.LinkValues.{place_value}
use Rattle.link_program.specs.Programs.{SymbolView}
use Rattle.link_values.proofs.AllFound.{inside_place, inside_label, outside_label}
use Rattle.link_values.proofs.EquateLaws.{no_text, first_label, no_member_place, its_member_place, member_place_near, outside_reported}
use Rattle.link_values.proofs.equates.first_slot.Goals as goal

pub returns-then-definition-eq0 : goal.returns-then-definition-eq0
returns-then-definition-eq0 c = λ k f at same.
    let list = c.args.program.now in
    let d = c.args.definition.now in
    let none = sym (ap (λ (x : SymbolView). x.member) same) ∙ c.if-definition-eq0.true in
    first_label list f c.place_outside.result (no_text list d f c.in-None.is same) (c.place_outside.ensures ∙ outside_reported list d f none same ∙ sym (outside_label list f none))

pub place_at-requires : goal.place_at-requires
place_at-requires c =
    let list = c.args.program.now in
    let t = c.requires.there in
    let d = c.args.definition.now in
    let member = ap (λ (x : SymbolView). x.member) t.3 in
    let here = inside_place list t.0 t.1 t.2 (λ none. c.if-definition-eq0.false (member ∙ none)) in
    member_place_near list c.requires.files t.0 t.1 here d.member member c.in-Some-place_of_member.member_place d.at c.in-Some-place_of_member.ensures (ap (λ (x : SymbolView). x.at) t.3)

pub unreachable-requires : goal.unreachable-requires
unreachable-requires c =
    let list = c.args.program.now in
    let t = c.requires.there in
    let member = ap (λ (x : SymbolView). x.member) t.3 in
    let here = inside_place list t.0 t.1 t.2 (λ none. c.if-definition-eq0.false (member ∙ none)) in
    no_member_place list c.requires.files t.0 t.1 here c.args.definition.now.member member c.in-None-place_of_member.ensures

pub returns-in-Some-place_of_member : goal.returns-in-Some-place_of_member
returns-in-Some-place_of_member c = λ k f at same.
    let list = c.args.program.now in
    let d = c.args.definition.now in
    let member = ap (λ (x : SymbolView). x.member) same in
    let some = λ (none : f.place ≡ 0). c.if-definition-eq0.false (member ∙ none) in
    let s = its_member_place list c.requires.files k f (inside_place list k f at some) d.member member c.in-Some-place_of_member.member_place c.in-Some-place_of_member.ensures in
    first_label list f c.place_at.result (no_text list d f c.in-None.is same)
    (c.place_at.ensures list f.member s.1 ∙ ap (λ (n : ℕ). place_value list n f.member d.at) (s.0 ∙ member) ∙ ap (place_value list f.place f.member) (ap (λ (x : SymbolView). x.at) same)
    ∙ sym (inside_label list f some))
