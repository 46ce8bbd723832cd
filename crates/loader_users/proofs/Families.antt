-- Users that are attached to one: the search for theirs, and changes of all of them.
use Rattle.std.proofs.Common.{◌≡◌, ◌≢◌, inl, inr, ℕ, zero, suc, Bool, true, false, ◌==◌, ◌+◌, ◌-◌, ◌<◌, ◌≤◌, List, [], ◌∷◌, ◌++◌, length, take, drop, Option, Some, None, refl, sym, ap, ◌∙◌, arith, nat_lt}
use Rattle.std.specs.Prelude.{slice_get, option_map}
use Rattle.std.specs.Option.{option_map_or, option_and_then}
use Rattle.std.proofs.lemmas.Bool.{cases_eq}
use Rattle.std.proofs.lemmas.Bool.Decides.{nat_tests}
use Rattle.std.proofs.lemmas.Option.{same_Some, slice_get_within, slice_get-map}
use Rattle.loader_machine.specs.State.{Outline, first_id, user_of, with_user, with_all, file_in, holder_from, ids_from}
use Rattle.loader_agrees.specs.Agrees.{LoadedUser, outline, kept_outlines}
use Rattle.loader_agrees.specs.laws.Lists.{set_at, set_apart}
use Rattle.loader_agrees.specs.laws.Seeing.{made_at}

-- ---- lists

pub drop_at : {X : Type 0} (xs : List X) (k : ℕ) (x : X) → slice_get xs k ≡ Some x → drop k xs ≡ x ∷ drop (k + 1) xs
drop_at [] k x is = absurd cc
drop_at (y ∷ xs) zero x is = ap (λ z. z ∷ xs) (same_Some y x is)
drop_at (y ∷ xs) (suc k) x is = let e : suc (k + 1) ≡ suc k + 1 = omega arith in drop_at xs k x is ∙ ap (λ (n : ℕ). x ∷ drop n (y ∷ xs)) e

pub drop_past : {X : Type 0} (xs : List X) (k : ℕ) → length xs ≤ k → drop k xs ≡ []
drop_past [] zero le = refl
drop_past [] (suc k) le = refl
drop_past (y ∷ xs) zero le = absurd (omega (arith, le))
drop_past (y ∷ xs) (suc k) le = drop_past xs k (omega (arith, le))

pub take_more : {X : Type 0} (xs : List X) (k : ℕ) (x : X) → slice_get xs k ≡ Some x → take (k + 1) xs ≡ take k xs ++ x ∷ []
take_more [] k x is = absurd cc
take_more (y ∷ xs) zero x is = ap (λ z. z ∷ []) (same_Some y x is)
take_more (y ∷ xs) (suc k) x is = let e : suc k + 1 ≡ suc (k + 1) = omega arith in ap (λ (n : ℕ). take n (y ∷ xs)) e ∙ ap (λ l. y ∷ l) (take_more xs k x is)

pub take_past : {X : Type 0} (xs : List X) (k : ℕ) → length xs ≤ k → take k xs ≡ xs
take_past [] zero le = refl
take_past [] (suc k) le = refl
take_past (y ∷ xs) zero le = absurd (omega (arith, le))
take_past (y ∷ xs) (suc k) le = ap (λ l. y ∷ l) (take_past xs k (omega (arith, le)))

-- one ID more
pub ids_more : (id k : ℕ) → ids_from id (k + 1) ≡ ids_from id k ++ (id + k) ∷ []
ids_more id zero = ap (λ (n : ℕ). n ∷ []) (omega arith)
ids_more id (suc k) =
    let e : suc k + 1 ≡ suc (k + 1) = omega arith in
    let n : id + 1 + k ≡ id + suc k = omega arith in
    ap (ids_from id) e ∙ ap (λ (l : List ℕ). id ∷ l) (ids_more (id + 1) k) ∙ ap (λ (m : ℕ). id ∷ (ids_from (id + 1) k ++ m ∷ [])) n

-- ---- the search for an ID

module _ (ids : List ℕ) (id : ℕ) where
  pub file_here : (k one : ℕ) → slice_get ids k ≡ Some one → one ≡ id → file_in (2 + k) (drop k ids) id ≡ Some (k + 2)
  file_here k one is eq =
      let test : (one == id) ≡ true = grind (arith, eq) in
      ap (λ (l : List ℕ). file_in (2 + k) l id) (drop_at ids k one is) ∙ rw test (ap (λ (n : ℕ). Some n) (omega arith))

  pub file_next : (k one : ℕ) → slice_get ids k ≡ Some one → one ≢ id → file_in (2 + k) (drop k ids) id ≡ file_in (2 + (k + 1)) (drop (k + 1) ids) id
  file_next k one is ne =
      let test : (one == id) ≡ false = grind (arith, ne) in
      ap (λ (l : List ℕ). file_in (2 + k) l id) (drop_at ids k one is) ∙ rw test (ap (λ (n : ℕ). file_in n (drop (k + 1) ids) id) (omega arith))

  pub file_past : (k : ℕ) → length ids ≤ k → file_in (2 + k) (drop k ids) id ≡ None
  file_past k le = ap (λ (l : List ℕ). file_in (2 + k) l id) (drop_past ids k le)

module _ (users : List (Option LoadedUser)) (id : ℕ) where
  outline_at : (k : ℕ) (o : Option LoadedUser) → slice_get users k ≡ Some o → slice_get (kept_outlines users) k ≡ Some (option_map outline o)
  outline_at k o is = slice_get-map (option_map outline) users k ∙ ap (option_map (option_map outline)) is

  pub holder_here : (k file : ℕ) (o : Option LoadedUser) → slice_get users k ≡ Some o → option_and_then (λ (u : LoadedUser). file_in 2 u.attached id) o ≡ Some file
      → holder_from (first_id + k) (drop k (kept_outlines users)) id ≡ Some (first_id + k, file)
  holder_here k file None is found = absurd cc
  holder_here k file (Some u) is found = ap (λ (l : List (Option Outline)). holder_from (first_id + k) l id) (drop_at (kept_outlines users) k (Some (outline u)) (outline_at k (Some u) is)) ∙ rw found refl

  pub holder_next : (k : ℕ) (o : Option LoadedUser) → slice_get users k ≡ Some o → option_and_then (λ (u : LoadedUser). file_in 2 u.attached id) o ≡ None
      → holder_from (first_id + k) (drop k (kept_outlines users)) id ≡ holder_from (first_id + (k + 1)) (drop (k + 1) (kept_outlines users)) id
  holder_next k None is none = ap (λ (l : List (Option Outline)). holder_from (first_id + k) l id) (drop_at (kept_outlines users) k None (outline_at k None is))
      ∙ ap (λ (n : ℕ). holder_from n (drop (k + 1) (kept_outlines users)) id) (omega arith)
  holder_next k (Some u) is none = ap (λ (l : List (Option Outline)). holder_from (first_id + k) l id) (drop_at (kept_outlines users) k (Some (outline u)) (outline_at k (Some u) is))
      ∙ rw none (ap (λ (n : ℕ). holder_from n (drop (k + 1) (kept_outlines users)) id) (omega arith))

  pub holder_past : (k : ℕ) → length (kept_outlines users) ≤ k → holder_from (first_id + k) (drop k (kept_outlines users)) id ≡ None
  holder_past k le = ap (λ (l : List (Option Outline)). holder_from (first_id + k) l id) (drop_past (kept_outlines users) k le)

-- ---- a user in the place of an ID's

module _ {U : Type 0} (users : List (Option U)) (id : ℕ) (was : U) (made : user_of users id ≡ Some was) where
  inside : id - first_id < length users
  inside = slice_get_within users (id - first_id) (Some was) (made_at users id was made).0

  above : nat_lt id first_id ≡ false
  above = let there = made_at users id was made in grind (arith, there)

  pub user_set : (value : Option U) → user_of (with_user users id value) id ≡ value
  user_set value = rw above (ap (option_and_then (λ (u : Option U). u)) (set_at users (id - first_id) value inside))

  pub user_apart : (value : Option U) (other : ℕ) → other ≢ id → user_of (with_user users id value) other ≡ user_of users other
  user_apart value other ne = go (nat_lt other first_id) refl
    where
      go : (b : Bool) → nat_lt other first_id ≡ b → user_of (with_user users id value) other ≡ user_of users other
      go true low = rw low refl
      go false high =
          let there = made_at users id was made in
          let over : first_id ≤ other = grind (arith, nat_tests, high) in
          let apart : other - first_id ≢ id - first_id = λ e. ne (omega (arith, over, e, there.1)) in
          rw high (ap (option_and_then (λ (u : Option U). u)) (set_apart users (id - first_id) (other - first_id) value apart))

-- ---- users that are changed together

module _ {U : Type 0} (change : U → U) where
  pub all_more : (users : List (Option U)) (ids : List ℕ) (id : ℕ) → with_all change users (ids ++ id ∷ []) ≡ option_map_or (λ (u : U). with_user (with_all change users ids) id (Some (change u))) (user_of (with_all change users ids) id) (with_all change users ids)
  all_more users [] id = refl
  all_more users (one ∷ ids) id = all_more (option_map_or (λ (u : U). with_user users one (Some (change u))) (user_of users one) users) ids id

  -- and one after them, which is there
  pub all_last : (users : List (Option U)) (ids : List ℕ) (id : ℕ) (now : U) → user_of (with_all change users ids) id ≡ Some now
      → with_all change users (ids ++ id ∷ []) ≡ with_user (with_all change users ids) id (Some (change now))
  all_last users ids id now made =
      all_more users ids id ∙ ap (λ (o : Option U). option_map_or (λ (u : U). with_user (with_all change users ids) id (Some (change u))) o (with_all change users ids)) made

-- what a change of users keeps of each
module _ (change : LoadedUser → LoadedUser) (same : (k : LoadedUser) → (change k).attached ≡ k.attached) where
  -- the user that one was, with what is attached to it
  abbrev pub Stays : List (Option LoadedUser) → ℕ → LoadedUser → Type 0
  Stays users id k = (now : LoadedUser) × (user_of users id ≡ Some now) × (now.attached ≡ k.attached)

  stays_one : (users : List (Option LoadedUser)) (id n : ℕ) (o : Option LoadedUser) → user_of users n ≡ o → (k : LoadedUser) → user_of users id ≡ Some k → Stays (option_map_or (λ (u : LoadedUser). with_user users n (Some (change u))) o users) id k
  stays_one users id n None e k made = (k, made, refl)
  stays_one users id n (Some u) e k made = elim (cases_eq id n) [
    | inl eq ↦
        let it : u ≡ k = same_Some u k (sym e ∙ ap (user_of users) (sym eq) ∙ made) in
        (change u, ap (user_of (with_user users n (Some (change u)))) eq ∙ user_set users n u e (Some (change u)), same u ∙ ap (λ (x : LoadedUser). x.attached) it)
    | inr ne ↦ (k, user_apart users n u e (Some (change u)) id ne ∙ made, refl)
  ]

  pub stays_all : (users : List (Option LoadedUser)) (ids : List ℕ) (id : ℕ) (k : LoadedUser) → user_of users id ≡ Some k → Stays (with_all change users ids) id k
  stays_all users [] id k made = (k, made, refl)
  stays_all users (n ∷ ids) id k made =
      let one = stays_one users id n (user_of users n) refl k made in
      let rest = stays_all (option_map_or (λ (u : LoadedUser). with_user users n (Some (change u))) (user_of users n) users) ids id one.0 one.1 in
      (rest.0, rest.1, rest.2 ∙ one.2)

  -- one more, which is there
  pub all_step : (users : List (Option LoadedUser)) (ids : List ℕ) (k id : ℕ) (now : LoadedUser) → slice_get ids k ≡ Some id → user_of (with_all change users (take k ids)) id ≡ Some now
      → with_all change users (take (k + 1) ids) ≡ with_user (with_all change users (take k ids)) id (Some (change now))
  all_step users ids k id now is made =
      ap (with_all change users) (take_more ids k id is) ∙ all_more change users (take k ids) id
      ∙ ap (λ (o : Option LoadedUser). option_map_or (λ (u : LoadedUser). with_user (with_all change users (take k ids)) id (Some (change u))) o (with_all change users (take k ids))) made
