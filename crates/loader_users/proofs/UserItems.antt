-- The users of a loader by their places.
use Rattle.std.proofs.Common.{◌≡◌, ℕ, ◌-◌, ◌<◌, List, length, map, get_or, Option, Some, None, IsSome, refl, sym, ap, ◌∙◌, arith}
use Rattle.std.specs.Prelude.{slice_get, option_map}
use Rattle.std.proofs.lemmas.Option.{slice_get-map, slice_get-get_or, slice_get_within}
use Rattle.std.proofs.lemmas.List.{length-map}
use Rattle.loader_machine.specs.State.{first_id, user_of}
use Rattle.loader_agrees.specs.Agrees.{LoadedUser}
use Rattle.loader_agrees.specs.laws.Seeing.{made_at}
use Rattle.loader_users.specs.View.{kept}
use Rattle.loader_users.specs.declared.user.User.{User}

-- the user at its ID's place is the one that is kept
pub item_is : (users : List (Option User)) (id n : ℕ) (item : Option User) (u : User) (k : LoadedUser) → n ≡ id - first_id → user_of (map (option_map kept) users) id ≡ Some k
    → item ≡ get_or users n item → item ≡ Some u → kept u ≡ k
item_is users id n item u k place made at is =
    let here : slice_get (map (option_map kept) users) n ≡ Some (Some k) = ap (slice_get (map (option_map kept) users)) place ∙ (made_at (map (option_map kept) users) id k made).0 in
    let within = slice_get_within (map (option_map kept) users) n (Some k) here in
    let inside : n < length users = omega (arith, within, length-map users (option_map kept)) in
    let whole : option_map (option_map kept) (Some item) ≡ Some (Some k) =
    ap (λ (o : Option User). option_map (option_map kept) (Some o)) at ∙ ap (option_map (option_map kept)) (sym (slice_get-get_or users n item inside)) ∙ sym (slice_get-map (option_map kept) users n) ∙ here in
    one (kept u) k (ap (λ (o : Option User). option_map (option_map kept) (Some o)) (sym is) ∙ whole)
  where
    one : (a b : LoadedUser) → Some (Some a) ≡ Some (Some b) → a ≡ b
    one a b e = cc

-- a value that is some is one
pub some_is : {X : Type 0} (o : Option X) → IsSome o → (x : X) × (o ≡ Some x)
some_is None is = absurd cc
some_is (Some x) is = (x, refl)
