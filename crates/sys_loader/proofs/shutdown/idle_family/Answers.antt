use Rattle.std.proofs.Common.{◌≡◌, ◌-◌, map, refl, sym, ◌∙◌, arith}
use Rattle.std.specs.Prelude.{option_map}
use Rattle.std.proofs.lemmas.Option.{same_Some}
use Rattle.loader_machine.specs.State.{first_id, user_of}
use Rattle.loader_agrees.specs.laws.Seeing.{made_at}
use Rattle.loader_users.specs.View.{kept}
use Rattle.loader_users.proofs.UserItems.{some_is}
use Rattle.sys_loader.proofs.Idling.{idled_none, family_more, family_all}
use Rattle.sys_loader.proofs.shutdown.idle_family.Goals as goal

pub places-init : goal.places-init
places-init c = λ k made. idled_none c.args.banks.now

pub user_in-other-requires : goal.user_in-other-requires
user_in-other-requires c =
    let before = map (option_map kept) c.args.users.now.items in
    let some = some_is (user_of before c.args.id) c.requires.made in
    let one = c.requires.attached.each (c.args.id - first_id) c.places.place c.attached_in.result some.0 (made_at before c.args.id some.0 some.1).0 (c.attached_in.ensures some.0 some.1) in
    rw one.1 refl

pub places-preserved : goal.places-preserved
places-preserved c = λ k made.
    let before = map (option_map kept) c.args.users.now.items in
    family_more before k.attached (kept c.user_in-other.result.now) c.args.banks.now c.places.banks c.idle_all.new.banks c.places.place c.attached_in.result (c.attached_in.ensures k made) c.user_in-other.ensures
    (c.places.invariant k made) c.idle_all.ensures

pub returns : goal.returns
returns c = λ k made.
    let before = map (option_map kept) c.args.users.now.items in
    let same : kept c.user_in.result.now ≡ k = same_Some (kept c.user_in.result.now) k (sym c.user_in.ensures ∙ made) in
    family_all before k.attached (kept c.user_in.result.now) c.args.banks.now c.places.banks c.idle_all-2.new.banks c.places.place c.args.id
    (omega (arith, c.places-test.false, c.attached_count-place-end.ensures k made)) c.user_in.ensures (c.places.invariant k made) c.idle_all-2.ensures
