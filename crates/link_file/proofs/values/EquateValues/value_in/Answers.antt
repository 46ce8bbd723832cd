use Rattle.std.proofs.Common.{◌≡◌, ℕ, List, sym, ap, subst, ◌∙◌, arith}
use Rattle.omf_format.specs.Expression.{IsExpression}
use Rattle.link_meaning.specs.Member.{Member}
use Rattle.link_meaning.specs.Layout.{offset_of}
use Rattle.link_meaning.specs.LinkValues.{value_in}
use Rattle.link_program.specs.Linked.{member_at}
use Rattle.link_program.specs.Outside.{all_found}
use Rattle.link_values.specs.declared.slots.ValueSlot.{ValueSlot}
use Rattle.link_values.specs.Slots.{rows_of}
use Rattle.link_values.specs.Surroundings.{AreKnown}
use Rattle.link_file.specs.Valued.{Valued}
use Rattle.link_file.proofs.WalkedLaws.{member_place_there, member_place_gone}
use Rattle.link_file.proofs.values.EquateValues.value_in.Goals as goal

pub unreachable-requires : goal.unreachable-requires
unreachable-requires c =
    let there = ap (λ (v : Valued). member_at v.list c.args.place) c.self.view_is ∙ c.requires.here.there in
    member_place_gone c.self.inside.program.now c.args.place c.requires.here.member there c.in-None.ensures

pub value_in-requires-clause-known : goal.value_in-requires-clause-known
value_in-requires-clause-known c = subst (AreKnown c.self.inside.program.now) (sym c.as_slice.ensures.value) c.self.invariant.known

pub value_in-requires-clause-spelled : goal.value_in-requires-clause-spelled
value_in-requires-clause-spelled c =
    let list = c.self.inside.program.now in
    let m = c.requires.here.member in
    let same : list ≡ c.args.self.now.list = ap (λ (v : Valued). v.list) c.self.view_is in
    let s = member_place_there list c.args.place m c.in-Some.member_place (ap (λ (l : List Member). member_at l c.args.place) same ∙ c.requires.here.there) c.in-Some.ensures in
    subst (λ (n : ℕ). IsExpression n c.args.expr.now) (sym s.1.lab_len') (c.requires.spelled m c.requires.here.there)

pub value_in-requires-clause-near : goal.value_in-requires-clause-near
value_in-requires-clause-near c =
    let list = c.self.inside.program.now in
    let m = c.requires.here.member in
    let same : list ≡ c.args.self.now.list = ap (λ (v : Valued). v.list) c.self.view_is in
    let s = member_place_there list c.args.place m c.in-Some.member_place (ap (λ (l : List Member). member_at l c.args.place) same ∙ c.requires.here.there) c.in-Some.ensures in
    let offset = s.1.offset' ∙ ap (λ (n : ℕ). offset_of list n m) s.0 ∙ ap (λ (l : List Member). offset_of l c.args.place m) same in
    omega (arith, offset, c.requires.here.near)

pub returns : goal.returns
returns c = λ m there.
    let list = c.self.inside.program.now in
    let same : list ≡ c.args.self.now.list = ap (λ (v : Valued). v.list) c.self.view_is in
    let s = member_place_there list c.args.place m c.in-Some.member_place (ap (λ (l : List Member). member_at l c.args.place) same ∙ there) c.in-Some.ensures in
    c.value_in.ensures m s.1
    ∙ ap (λ (slots : List ValueSlot). value_in list (rows_of (all_found list) slots) c.in-Some.member_place.place m c.args.location c.args.expr.now) c.as_slice.ensures.value
    ∙ ap (λ (n : ℕ). value_in list (rows_of (all_found list) c.self.inside.slots.items) n m c.args.location c.args.expr.now) s.0
    ∙ ap (λ (v : Valued). value_in v.list v.table c.args.place m c.args.location c.args.expr.now) c.self.view_is
