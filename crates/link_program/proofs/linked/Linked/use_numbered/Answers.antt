use Rattle.std.proofs.Common.{◌≡◌, ◌-◌, ◌<◌, ℕ, length, Some, refl, sym, ap, subst, ◌∙◌, arith}
use Rattle.std.specs.Prelude.{slice_get}
use Rattle.std.proofs.lemmas.Option.{slice_get_read}
use Rattle.link_meaning.specs.LinkedList.{PlacedUse}
use Rattle.link_meaning.specs.Uses.{Use}
use Rattle.link_tables.specs.Uses.{use_of, use_view}
use Rattle.link_program.proofs.LinkedLaws.{member_is}
use Rattle.link_program.proofs.ResolvingLaws.{use_is, place_within, stands}
use Rattle.link_tables.proofs.ShortNames.{short_at}
use Rattle.link_program.proofs.linked.Linked.use_numbered.Goals as goal

asked_same : (a b : PlacedUse) → Some a ≡ Some b → a ≡ b
asked_same a b e = cc

pub overflow_sub-found : goal.overflow_sub-found
overflow_sub-found c =
    let kept = c.args.self.now in
    let u = c.get-found.result in
    let there = c.get-found.ensures in
    (place_within c.requires.held.0 kept c.args.number u c.requires.held.1 (use_is c.requires.held.0 kept c.args.number u c.requires.held.1 there)).0

pub index-origin-requires : goal.index-origin-requires
index-origin-requires c =
    let kept = c.args.self.now in
    let u = c.get-found.result in
    let there = c.get-found.ensures in
    let place = place_within c.requires.held.0 kept c.args.number u c.requires.held.1 (use_is c.requires.held.0 kept c.args.number u c.requires.held.1 there) in
    omega (arith, place.0, place.1, kept.members.ok.0)

pub returns-clause-short : goal.returns-clause-short
returns-clause-short c =
    let kept = c.args.self.now in
    let u = c.get-found.result in
    let there = c.get-found.ensures in
    short_at kept.uses c.args.number (use_of u) c.requires.held.1.short there

pub returns-clause-reported : goal.returns-clause-reported
returns-clause-reported c = λ list a holds at.
    let kept = c.args.self.now in
    let u = c.get-found.result in
    let items = kept.members.items in
    let there = c.get-found.ensures in
    let is = use_is list kept c.args.number u holds there in
    let same : is.use' ≡ a = asked_same is.use' a (sym is.at ∙ at) in
    let reported : use_view a ≡ use_of u = subst (λ (x : PlacedUse). use_view x ≡ use_of u) same is.reported in
    let s = stands list c.args.number a at in
    let place : a.place ≡ u.place = ap (λ (p : ℕ × Use). p.0) reported in
    let within = place_within list kept c.args.number u holds is in
    let member : slice_get list (u.place - 1) ≡ Some a.member = ap (λ (n : ℕ). slice_get list (n - 1)) (sym place) ∙ s.at in
    let less : u.place - 1 < length items = omega (arith, within.0, within.1) in
    let x = c.index-origin.result.now in
    let kept_there = slice_get_read items (length items) (u.place - 1) x refl less c.index-origin.ensures in
    (member_is list kept (u.place - 1) a.member x holds member kept_there, sym (ap (λ (p : ℕ × Use). p.1.name) reported), sym (ap (λ (p : ℕ × Use). p.1.at) reported))
