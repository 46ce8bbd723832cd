use Rattle.std.proofs.Common.{◌≡◌, ℕ, List, ap, ◌∙◌, arith}
use Rattle.link_meaning.specs.Member.{Member}
use Rattle.link_meaning.specs.Layout.{offset_of}
use Rattle.link_meaning.specs.LinkValues.{place_value}
use Rattle.link_program.specs.Linked.{member_at}
use Rattle.link_file.specs.Valued.{Valued}
use Rattle.link_file.proofs.WalkedLaws.{member_place_there, member_place_gone}
use Rattle.link_file.proofs.values.EquateValues.place_in.Goals as goal

pub unreachable-requires : goal.unreachable-requires
unreachable-requires c =
    let there = ap (λ (v : Valued). member_at v.list c.args.place) c.self.view_is ∙ c.requires.there in
    member_place_gone c.self.inside.program.now c.args.place c.requires.member there c.in-None.ensures

pub place_at-requires : goal.place_at-requires
place_at-requires c =
    let list = c.self.inside.program.now in
    let m = c.requires.member in
    let same : list ≡ c.args.self.now.list = ap (λ (v : Valued). v.list) c.self.view_is in
    let s = member_place_there list c.args.place m c.in-Some.member_place (ap (λ (l : List Member). member_at l c.args.place) same ∙ c.requires.there) c.in-Some.ensures in
    let offset = s.1.offset' ∙ ap (λ (n : ℕ). offset_of list n m) s.0 ∙ ap (λ (l : List Member). offset_of l c.args.place m) same in
    omega (arith, offset, c.requires.near)

pub returns : goal.returns
returns c = λ m there.
    let list = c.self.inside.program.now in
    let same : list ≡ c.args.self.now.list = ap (λ (v : Valued). v.list) c.self.view_is in
    let s = member_place_there list c.args.place m c.in-Some.member_place (ap (λ (l : List Member). member_at l c.args.place) same ∙ there) c.in-Some.ensures in
    c.place_at.ensures list m s.1 ∙ ap (λ (n : ℕ). place_value list n m c.args.at) s.0 ∙ ap (λ (l : List Member). place_value l c.args.place m c.args.at) same
