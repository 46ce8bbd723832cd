use Rattle.std.proofs.Common.{◌≡◌, ◌+◌, ℕ, List, length, map, take, Option, Some, refl, sym, ap, ◌∙◌, arith}
use Rattle.std.specs.Prelude.{option_map, slice_get}
use Rattle.std.proofs.lemmas.Option.{same_Some}
use Rattle.loader_machine.specs.State.{user_of, with_user, with_all}
use Rattle.loader_agrees.specs.Agrees.{LoadedUser}
use Rattle.loader_users.specs.View.{kept}
use Rattle.loader_users.specs.Users.{with_life}
use Rattle.loader_users.proofs.Families.{stays_all, all_step, take_past}
use Rattle.loader_users.proofs.UserItems.{some_is}
use Rattle.loader_users.proofs.users.set_lives.Goals as goal

pub places-init : goal.places-init
places-init c = ((λ k made. refl), refl)

pub attached_in-other-requires-clause-made : goal.attached_in-other-requires-clause-made
attached_in-other-requires-clause-made c =
    let before = map (option_map kept) c.args.users.now.items in
    let some = some_is (user_of before c.args.id) c.requires.made in
    let now = stays_all (with_life c.args.life) (λ x. refl) before (take c.places.place some.0.attached) c.args.id some.0 some.1 in
    let there : user_of (map (option_map kept) c.places.users.items) c.args.id ≡ Some now.0 = ap (λ (us : List (Option LoadedUser)). user_of us c.args.id) (c.places.invariant.0 some.0 some.1) ∙ now.1 in
    rw there refl

pub attached_in-other-requires-clause-inside : goal.attached_in-other-requires-clause-inside
attached_in-other-requires-clause-inside c k made =
    let before = map (option_map kept) c.args.users.now.items in
    let some = some_is (user_of before c.args.id) c.requires.made in
    let now = stays_all (with_life c.args.life) (λ x. refl) before (take c.places.place some.0.attached) c.args.id some.0 some.1 in
    let there : user_of (map (option_map kept) c.places.users.items) c.args.id ≡ Some now.0 = ap (λ (us : List (Option LoadedUser)). user_of us c.args.id) (c.places.invariant.0 some.0 some.1) ∙ now.1 in
    let same : now.0 ≡ k = same_Some now.0 k (sym there ∙ made) in
    omega (arith, c.places-test.true, c.attached_count-place-end.ensures some.0 some.1, ap (λ (x : LoadedUser). length x.attached) same, ap (λ (ids : List ℕ). length ids) now.2)

pub set_life-requires : goal.set_life-requires
set_life-requires c =
    let before = map (option_map kept) c.args.users.now.items in
    let some = some_is (user_of before c.args.id) c.requires.made in
    let now = stays_all (with_life c.args.life) (λ x. refl) before (take c.places.place some.0.attached) c.args.id some.0 some.1 in
    let there : user_of (map (option_map kept) c.places.users.items) c.args.id ≡ Some now.0 = ap (λ (us : List (Option LoadedUser)). user_of us c.args.id) (c.places.invariant.0 some.0 some.1) ∙ now.1 in
    let is : slice_get some.0.attached c.places.place ≡ Some c.attached_in-other.result = ap (λ (ids : List ℕ). slice_get ids c.places.place) (sym now.2) ∙ c.attached_in-other.ensures now.0 there in
    let other = some_is (user_of before c.attached_in-other.result) (c.requires.there some.0 c.places.place c.attached_in-other.result some.1 is) in
    let still = stays_all (with_life c.args.life) (λ x. refl) before (take c.places.place some.0.attached) c.attached_in-other.result other.0 other.1 in
    let made : user_of (map (option_map kept) c.places.users.items) c.attached_in-other.result ≡ Some still.0 = ap (λ (us : List (Option LoadedUser)). user_of us c.attached_in-other.result) (c.places.invariant.0 some.0 some.1) ∙ still.1 in
    rw made refl

pub places-preserved : goal.places-preserved
places-preserved c = (go, c.set_life.ensures.room ∙ c.places.invariant.1)
  where
    before : List (Option LoadedUser)
    before = map (option_map kept) c.args.users.now.items

    go : (k : LoadedUser) → user_of before c.args.id ≡ Some k → map (option_map kept) c.set_life.new.users.items ≡ with_all (with_life c.args.life) before (take (c.places.place + 1) k.attached)
    go k made =
        let done = c.places.invariant.0 k made in
        let now = stays_all (with_life c.args.life) (λ x. refl) before (take c.places.place k.attached) c.args.id k made in
        let there : user_of (map (option_map kept) c.places.users.items) c.args.id ≡ Some now.0 = ap (λ (us : List (Option LoadedUser)). user_of us c.args.id) done ∙ now.1 in
        let is : slice_get k.attached c.places.place ≡ Some c.attached_in-other.result = ap (λ (ids : List ℕ). slice_get ids c.places.place) (sym now.2) ∙ c.attached_in-other.ensures now.0 there in
        let other = some_is (user_of before c.attached_in-other.result) (c.requires.there k c.places.place c.attached_in-other.result made is) in
        let still = stays_all (with_life c.args.life) (λ x. refl) before (take c.places.place k.attached) c.attached_in-other.result other.0 other.1 in
        let made' : user_of (map (option_map kept) c.places.users.items) c.attached_in-other.result ≡ Some still.0 = ap (λ (us : List (Option LoadedUser)). user_of us c.attached_in-other.result) done ∙ still.1 in
        c.set_life.ensures.set still.0 made'
        ∙ ap (λ (us : List (Option LoadedUser)). with_user us c.attached_in-other.result (Some (with_life c.args.life still.0))) done
        ∙ sym (all_step (with_life c.args.life) (λ x. refl) before k.attached c.places.place c.attached_in-other.result still.0 is still.1)

pub returns-clause-set : goal.returns-clause-set
returns-clause-set c k made =
    c.places.invariant.0 k made
    ∙ ap (with_all (with_life c.args.life) (map (option_map kept) c.args.users.now.items)) (take_past k.attached c.places.place (omega (arith, c.places-test.false, c.attached_count-place-end.ensures k made)))
