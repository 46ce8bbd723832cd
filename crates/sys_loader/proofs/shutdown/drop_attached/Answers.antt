use Rattle.std.proofs.Common.{◌≡◌, ◌+◌, ℕ, List, length, map, take, Option, Some, None, refl, sym, ap, subst, ◌∙◌, arith}
use Rattle.std.specs.Prelude.{option_map}
use Rattle.std.proofs.lemmas.Option.{same_Some}
use Rattle.loader_machine.specs.State.{user_of, with_user, without_all}
use Rattle.loader_agrees.specs.Agrees.{LoadedUser}
use Rattle.loader_users.specs.View.{kept}
use Rattle.sys_loader.specs.Lives.{AreReleased}
use Rattle.loader_users.proofs.Families.{take_more, take_past}
use Rattle.loader_users.proofs.UserItems.{some_is}
use Rattle.sys_loader.proofs.Dropping.{released_none_yet, released_more, more_gone, still_there, next_there}
use Rattle.sys_loader.proofs.shutdown.drop_attached.Goals as goal

pub places-init : goal.places-init
places-init c = ((λ k made. (released_none_yet c.args.banks.now, refl)), refl)

pub attached_in-other-requires-clause-made : goal.attached_in-other-requires-clause-made
attached_in-other-requires-clause-made c =
    let before = map (option_map kept) c.args.users.now.items in
    let some = some_is (user_of before c.args.id) c.requires.made in
    let there : user_of (map (option_map kept) c.places.users.items) c.args.id ≡ Some some.0 =
    ap (λ (us : List (Option LoadedUser)). user_of us c.args.id) (c.places.invariant.0 some.0 some.1).1 ∙ still_there before c.requires.attached c.args.id some.0 some.1 c.places.place in
    rw there refl

pub attached_in-other-requires-clause-inside : goal.attached_in-other-requires-clause-inside
attached_in-other-requires-clause-inside c k made =
    let before = map (option_map kept) c.args.users.now.items in
    let some = some_is (user_of before c.args.id) c.requires.made in
    let there : user_of (map (option_map kept) c.places.users.items) c.args.id ≡ Some some.0 =
    ap (λ (us : List (Option LoadedUser)). user_of us c.args.id) (c.places.invariant.0 some.0 some.1).1 ∙ still_there before c.requires.attached c.args.id some.0 some.1 c.places.place in
    let same : some.0 ≡ k = same_Some some.0 k (sym there ∙ made) in
    omega (arith, c.places-test.true, c.attached_count-place-end.ensures some.0 some.1, ap (λ (x : LoadedUser). length x.attached) same)

pub remove-requires : goal.remove-requires
remove-requires c =
    let before = map (option_map kept) c.args.users.now.items in
    let some = some_is (user_of before c.args.id) c.requires.made in
    let so_far = c.places.invariant.0 some.0 some.1 in
    let there : user_of (map (option_map kept) c.places.users.items) c.args.id ≡ Some some.0 =
    ap (λ (us : List (Option LoadedUser)). user_of us c.args.id) so_far.1 ∙ still_there before c.requires.attached c.args.id some.0 some.1 c.places.place in
    let next = next_there before c.requires.attached c.args.id some.0 some.1 c.places.place c.attached_in-other.result (c.attached_in-other.ensures some.0 there) in
    let made : user_of (map (option_map kept) c.places.users.items) c.attached_in-other.result ≡ Some next.0 = ap (λ (us : List (Option LoadedUser)). user_of us c.attached_in-other.result) so_far.1 ∙ next.1 in
    rw made refl

pub places-preserved : goal.places-preserved
places-preserved c = (go, c.remove.ensures.room ∙ c.places.invariant.1)
  where
    before : List (Option LoadedUser)
    before = map (option_map kept) c.args.users.now.items

    go : (k : LoadedUser) → user_of before c.args.id ≡ Some k → AreReleased (take (c.places.place + 1) k.attached) c.args.banks.now c.release_all.new.banks
        × (map (option_map kept) c.remove.new.users.items ≡ without_all before (take (c.places.place + 1) k.attached))
    go k made =
        let so_far = c.places.invariant.0 k made in
        let there : user_of (map (option_map kept) c.places.users.items) c.args.id ≡ Some k =
        ap (λ (us : List (Option LoadedUser)). user_of us c.args.id) so_far.1 ∙ still_there before c.requires.attached c.args.id k made c.places.place in
        let more = take_more k.attached c.places.place c.attached_in-other.result (c.attached_in-other.ensures k there) in (
          subst (λ (ids : List ℕ). AreReleased ids c.args.banks.now c.release_all.new.banks) (sym more)
              (released_more (take c.places.place k.attached) c.attached_in-other.result c.args.banks.now c.places.banks c.release_all.new.banks so_far.0 c.release_all.ensures.released),
          c.remove.ensures.gone ∙ ap (λ (us : List (Option LoadedUser)). with_user us c.attached_in-other.result None) so_far.1
              ∙ sym (more_gone (take c.places.place k.attached) before c.attached_in-other.result) ∙ ap (without_all before) (sym more),
        )

pub returns-clause-released : goal.returns-clause-released
returns-clause-released c k made =
    subst (λ (ids : List ℕ). AreReleased ids c.args.banks.now c.places.banks)
    (take_past k.attached c.places.place (omega (arith, c.places-test.false, c.attached_count-place-end.ensures k made))) (c.places.invariant.0 k made).0

pub returns-clause-gone : goal.returns-clause-gone
returns-clause-gone c k made =
    (c.places.invariant.0 k made).1
    ∙ ap (without_all (map (option_map kept) c.args.users.now.items)) (take_past k.attached c.places.place (omega (arith, c.places-test.false, c.attached_count-place-end.ensures k made)))
