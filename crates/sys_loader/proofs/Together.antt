-- Users that are changed together, and the handles of them all.
use Rattle.std.proofs.Common.{◌≡◌, ◌≢◌, ◌⊎◌, inl, inr, ℕ, zero, suc, Bool, true, false, ◌==◌, ◌+◌, ◌-◌, List, [], ◌∷◌, ◌++◌, length, map, Option, Some, None, refl, sym, ap, ◌∙◌, arith, append_assoc, append-nil}
use Rattle.std.specs.Prelude.{slice_get, slice_set, option_map, ◌||◌}
use Rattle.std.specs.Option.{option_map_or, option_and_then}
use Rattle.std.proofs.lemmas.Option.{same_Some, slice_get_within}
use Rattle.std.proofs.lemmas.Bool.{cases_eq}
use Rattle.std.proofs.lemmas.List.Concat.{flat_map-cons}
use Rattle.iigs_meaning.specs.declared.handles.Handle.{Handle}
use Rattle.loader_machine.specs.State.{first_id, user_of, with_user, with_all, handles_in}
use Rattle.loader_machine.specs.laws.Words.{handles_of_all}
use Rattle.loader_machine.specs.Presences.{handle_at}
use Rattle.loader_agrees.specs.Agrees.{LoadedUser, outline, kept_outlines}
use Rattle.loader_agrees.specs.laws.Lists.{set_map, set_at, set_apart, length_set}
use Rattle.loader_agrees.specs.laws.Seeing.{made_at, user_is}

-- an ID is one of these
abbrev pub is_in : List ℕ → ℕ → Bool
is_in [] id = false
is_in (one ∷ ids) id = one == id || is_in ids id

pub in_last : (ids : List ℕ) (id : ℕ) → is_in (ids ++ id ∷ []) id ≡ true
in_last [] id = let same : (id == id) ≡ true = grind arith in rw same refl
in_last (one ∷ ids) id = go (one == id) (in_last ids id)
  where
    go : (b : Bool) → is_in (ids ++ id ∷ []) id ≡ true → (b || is_in (ids ++ id ∷ []) id) ≡ true
    go true e = refl
    go false e = e

pub in_front : (ids : List ℕ) (last i id : ℕ) → slice_get ids i ≡ Some id → is_in (ids ++ last ∷ []) id ≡ true
in_front [] last i id is = absurd cc
in_front (one ∷ ids) last zero id is =
    let same : one ≡ id = same_Some one id is in
    let test : (one == id) ≡ true = grind arith in rw test refl
in_front (one ∷ ids) last (suc i) id is = go (one == id) (in_front ids last i id is)
  where
    go : (b : Bool) → is_in (ids ++ last ∷ []) id ≡ true → (b || is_in (ids ++ last ∷ []) id) ≡ true
    go true e = refl
    go false e = e

pub in_either : (ids : List ℕ) (last id : ℕ) → is_in (ids ++ last ∷ []) id ≡ true → (id ≡ last) ⊎ ((i : ℕ) × (slice_get ids i ≡ Some id))
in_either [] last id is = elim (cases_eq last id) [ inl eq ↦ inl (sym eq) | inr ne ↦ (let test : (last == id) ≡ false = grind arith in let clash : false ≡ true = (rw test at is) in absurd cc) ]
in_either (one ∷ ids) last id is = elim (cases_eq one id) [
  | inl eq ↦ inr (0, ap (λ (m : ℕ). Some m) eq)
  | inr ne ↦
      let test : (one == id) ≡ false = grind arith in
      elim (in_either ids last id (rw test at is)) [ inl last' ↦ inl last' | inr there ↦ inr (suc there.0, there.1) ]
]

pub in_row : (ids : List ℕ) (i id : ℕ) → slice_get ids i ≡ Some id → is_in ids id ≡ true
in_row [] i id is = absurd cc
in_row (one ∷ ids) zero id is =
    let same : one ≡ id = same_Some one id is in
    let test : (one == id) ≡ true = grind arith in rw test refl
in_row (one ∷ ids) (suc i) id is = go (one == id) (in_row ids i id is)
  where
    go : (b : Bool) → is_in ids id ≡ true → (b || is_in ids id) ≡ true
    go true e = refl
    go false e = e

pub in_rows : (ids : List ℕ) (id : ℕ) → is_in ids id ≡ true → (i : ℕ) × (slice_get ids i ≡ Some id)
in_rows [] id is = absurd cc
in_rows (one ∷ ids) id is = elim (cases_eq one id) [
  | inl eq ↦ (0, ap (λ (m : ℕ). Some m) eq)
  | inr ne ↦
      let test : (one == id) ≡ false = grind arith in
      let later = in_rows ids id (rw test at is) in
      (suc later.0, later.1)
]

-- ---- users changed together

module _ {U : Type 0} (change : U → U) (again : (u : U) → change (change u) ≡ change u) where
  abbrev step : List (Option U) → ℕ → List (Option U)
  step users id = option_map_or (λ (u : U). with_user users id (Some (change u))) (user_of users id) users

  -- what a user was, and what it is
  pub record Was (users : List (Option U)) (ids : List ℕ) (p : ℕ) (u : U) : Type 0 where
    pub was : U
    pub made : slice_get users p ≡ Some (Some was)
    pub is : ((is_in ids (first_id + p) ≡ true) × (u ≡ change was)) ⊎ ((is_in ids (first_id + p) ≡ false) × (u ≡ was))

  two_Some : (a b : U) → Some (Some a) ≡ Some (Some b) → a ≡ b
  two_Some a b e = cc

  step_get : (users : List (Option U)) (id p : ℕ) (u : U) → slice_get (step users id) p ≡ Some (Some u)
      → (was : U) × (slice_get users p ≡ Some (Some was)) × (((first_id + p ≡ id) × (u ≡ change was)) ⊎ ((first_id + p ≢ id) × (u ≡ was)) ⊎ ((first_id + p ≡ id) × (user_of users id ≡ None)))
  step_get users id p u is = go (user_of users id) refl is
    where
      other : slice_get users p ≡ Some (Some u) → (user_of users id ≡ None) → (was : U) × (slice_get users p ≡ Some (Some was)) × (((first_id + p ≡ id) × (u ≡ change was)) ⊎ ((first_id + p ≢ id) × (u ≡ was)) ⊎ ((first_id + p ≡ id) × (user_of users id ≡ None)))
      other is none = elim (cases_eq (first_id + p) id) [ inl eq ↦ (u, is, inr (inr (eq, none))) | inr ne ↦ (u, is, inr (inl (ne, refl))) ]

      go : (o : Option U) → user_of users id ≡ o → slice_get (option_map_or (λ (x : U). with_user users id (Some (change x))) o users) p ≡ Some (Some u)
          → (was : U) × (slice_get users p ≡ Some (Some was)) × (((first_id + p ≡ id) × (u ≡ change was)) ⊎ ((first_id + p ≢ id) × (u ≡ was)) ⊎ ((first_id + p ≡ id) × (user_of users id ≡ None)))
      go None e is = other is e
      go (Some w) e is =
          let there = made_at users id w e in
          elim (cases_eq p (id - first_id)) [
            | inl eq ↦
                let inside = slice_get_within users (id - first_id) (Some w) there.0 in
                let now : slice_get (slice_set users (id - first_id) (Some (change w))) p ≡ Some (Some (change w)) = ap (slice_get (slice_set users (id - first_id) (Some (change w)))) eq ∙ set_at users (id - first_id) (Some (change w)) inside in
                (w, ap (slice_get users) eq ∙ there.0, inl (omega (arith, eq, there.1), two_Some u (change w) (sym is ∙ now)))
            | inr ne ↦ (u, sym (set_apart users (id - first_id) p (Some (change w)) ne) ∙ is, inr (inl ((λ e'. ne (omega (arith, e', there.1))), refl)))
          ]

  pub with_all_get : (ids : List ℕ) (users : List (Option U)) (p : ℕ) (u : U) → slice_get (with_all change users ids) p ≡ Some (Some u) → Was users ids p u
  with_all_get [] users p u is = record { was = u; made = is; is = inr (refl, refl) }
  with_all_get (id ∷ ids) users p u is =
      let later = with_all_get ids (step users id) p u is in
      let here = step_get users id p later.was later.made in
      record { was = here.0; made = here.1; is = join later.was here.0 later.is here.2 here.1 }
    where
      join : (mid was : U) → ((is_in ids (first_id + p) ≡ true) × (u ≡ change mid)) ⊎ ((is_in ids (first_id + p) ≡ false) × (u ≡ mid))
          → ((first_id + p ≡ id) × (mid ≡ change was)) ⊎ ((first_id + p ≢ id) × (mid ≡ was)) ⊎ ((first_id + p ≡ id) × (user_of users id ≡ None)) → slice_get users p ≡ Some (Some was)
          → (((id == first_id + p || is_in ids (first_id + p)) ≡ true) × (u ≡ change was)) ⊎ (((id == first_id + p || is_in ids (first_id + p)) ≡ false) × (u ≡ was))
      join mid was later (inl here) made =
          let test : (id == first_id + p) ≡ true = let e = here.0 in grind arith in
          inl (rw test refl, elim later [ inl l ↦ l.1 ∙ ap change here.1 ∙ again was | inr l ↦ l.1 ∙ here.1 ])
      join mid was (inl later) (inr (inl here)) made =
          let test : (id == first_id + p) ≡ false = let ne = here.0 in grind arith in
          inl (rw test later.0, later.1 ∙ ap change here.1)
      join mid was (inr later) (inr (inl here)) made =
          let test : (id == first_id + p) ≡ false = let ne = here.0 in grind arith in
          inr (rw test later.0, later.1 ∙ here.1)
      join mid was later (inr (inr here)) made = absurd (none_there was made here.0 here.1)
        where
          none_there : (was : U) → slice_get users p ≡ Some (Some was) → first_id + p ≡ id → user_of users id ≡ None → ⊥
          none_there was made e none =
              let above : Rattle.std.specs.Prelude.nat_lt (first_id + p) first_id ≡ false = grind arith in
              let at : first_id + p - first_id ≡ p = omega arith in
              let some : user_of users (first_id + p) ≡ Some was = rw (above, at, made) refl in
              let clash : Some was ≡ None = sym some ∙ ap (user_of users) e ∙ none in cc

  step_then : (users : List (Option U)) (id p : ℕ) (u : U) → slice_get users p ≡ Some (Some u)
      → ((first_id + p ≡ id) × (slice_get (step users id) p ≡ Some (Some (change u)))) ⊎ ((first_id + p ≢ id) × (slice_get (step users id) p ≡ Some (Some u)))
  step_then users id p u is = elim (cases_eq (first_id + p) id) [
    | inl eq ↦
        let above : Rattle.std.specs.Prelude.nat_lt (first_id + p) first_id ≡ false = grind arith in
        let at : first_id + p - first_id ≡ p = omega arith in
        let some : user_of users (first_id + p) ≡ Some u = rw (above, at, is) refl in
        let here : user_of users id ≡ Some u = sym (ap (user_of users) eq) ∙ some in
        let place : p ≡ id - first_id = omega (arith, eq) in
        inl (eq, rw here (ap (slice_get (slice_set users (id - first_id) (Some (change u)))) place ∙ set_at users (id - first_id) (Some (change u)) (slice_get_within users (id - first_id) (Some u) (ap (slice_get users) (sym place) ∙ is))))
    | inr ne ↦ inr (ne, go ne (user_of users id) refl)
  ]
    where
      go : first_id + p ≢ id → (o : Option U) → user_of users id ≡ o → slice_get (option_map_or (λ (x : U). with_user users id (Some (change x))) o users) p ≡ Some (Some u)
      go ne None e = is
      go ne (Some w) e =
          let there = made_at users id w e in
          set_apart users (id - first_id) p (Some (change w)) (λ eq. ne (omega (arith, eq, there.1))) ∙ is

  -- what a user is then
  pub with_all_then : (ids : List ℕ) (users : List (Option U)) (p : ℕ) (u : U) → slice_get users p ≡ Some (Some u)
      → (v : U) × (slice_get (with_all change users ids) p ≡ Some (Some v)) × (((is_in ids (first_id + p) ≡ true) × (v ≡ change u)) ⊎ ((is_in ids (first_id + p) ≡ false) × (v ≡ u)))
  with_all_then [] users p u is = (u, is, inr (refl, refl))
  with_all_then (id ∷ ids) users p u is = elim (step_then users id p u is) [
    | inl here ↦
        let later = with_all_then ids (step users id) p (change u) here.1 in
        let test : (id == first_id + p) ≡ true = let e = here.0 in grind arith in
        (later.0, later.1, inl (rw test refl, elim later.2 [ inl l ↦ l.1 ∙ again u | inr l ↦ l.1 ]))
    | inr other ↦
        let later = with_all_then ids (step users id) p u other.1 in
        let test : (id == first_id + p) ≡ false = let ne = other.0 in grind arith in
        (later.0, later.1, rw test later.2)
  ]

  -- a user that is the same in two lists is the same in both then
  pub with_all_else : (ids : List ℕ) (a b : List (Option U)) (p : ℕ) (u : U) → slice_get a p ≡ slice_get b p → slice_get (with_all change a ids) p ≡ Some (Some u) → slice_get (with_all change b ids) p ≡ Some (Some u)
  with_all_else ids a b p u same is =
      let w = with_all_get ids a p u is in
      let v = with_all_then ids b p w.was (sym same ∙ w.made) in
      let one : v.0 ≡ u = go w.was v.0 w.is v.2 in
      v.1 ∙ ap (λ (x : U). Some (Some x)) one
    where
      go : (was x : U) → ((is_in ids (first_id + p) ≡ true) × (u ≡ change was)) ⊎ ((is_in ids (first_id + p) ≡ false) × (u ≡ was)) → ((is_in ids (first_id + p) ≡ true) × (x ≡ change was)) ⊎ ((is_in ids (first_id + p) ≡ false) × (x ≡ was)) → x ≡ u
      go was x (inl l) (inl m) = m.1 ∙ sym l.1
      go was x (inr l) (inr m) = m.1 ∙ sym l.1
      go was x (inl l) (inr m) = let clash : true ≡ false = sym l.0 ∙ m.0 in absurd cc
      go was x (inr l) (inl m) = let clash : true ≡ false = sym m.0 ∙ l.0 in absurd cc

-- what is reported for each user is changed along
module _ {A B : Type 0} (f : A → B) (change : A → A) (change' : B → B) (same : (a : A) → f (change a) ≡ change' (f a)) where
  map_one : (users : List (Option A)) (id : ℕ) → map (option_map f) (option_map_or (λ (u : A). with_user users id (Some (change u))) (user_of users id) users)
      ≡ option_map_or (λ (u : B). with_user (map (option_map f) users) id (Some (change' u))) (user_of (map (option_map f) users) id) (map (option_map f) users)
  map_one users id = go (user_of users id) ∙ ap (λ (o : Option B). option_map_or (λ (u : B). with_user (map (option_map f) users) id (Some (change' u))) o (map (option_map f) users)) (sym (user_is f users id))
    where
      go : (o : Option A) → map (option_map f) (option_map_or (λ (u : A). with_user users id (Some (change u))) o users)
          ≡ option_map_or (λ (u : B). with_user (map (option_map f) users) id (Some (change' u))) (option_map f o) (map (option_map f) users)
      go None = refl
      go (Some u) = set_map (option_map f) users (id - first_id) (Some (change u)) ∙ ap (λ (b : B). slice_set (map (option_map f) users) (id - first_id) (Some b)) (same u)

  pub map_all : (users : List (Option A)) (ids : List ℕ) → map (option_map f) (with_all change users ids) ≡ with_all change' (map (option_map f) users) ids
  map_all users [] = refl
  map_all users (id ∷ ids) =
      map_all (option_map_or (λ (u : A). with_user users id (Some (change u))) (user_of users id) users) ids ∙ ap (λ (us : List (Option B)). with_all change' us ids) (map_one users id)

pub length_all : {U : Type 0} (change : U → U) (users : List (Option U)) (ids : List ℕ) → length (with_all change users ids) ≡ length users
length_all change users [] = refl
length_all {U} change users (id ∷ ids) = length_all change (option_map_or (λ (u : U). with_user users id (Some (change u))) (user_of users id) users) ids ∙ go (user_of users id)
  where
    go : (o : Option U) → length (option_map_or (λ (u : U). with_user users id (Some (change u))) o users) ≡ length users
    go None = refl
    go (Some u) = length_set users (id - first_id) (Some (change u))

-- ---- handles of a family

module _ {X : Type 0} where
  app_left : (xs ys : List X) (i : ℕ) (v : X) → slice_get xs i ≡ Some v → slice_get (xs ++ ys) i ≡ Some v
  app_left [] ys i v is = absurd cc
  app_left (x ∷ xs) ys zero v is = is
  app_left (x ∷ xs) ys (suc i) v is = app_left xs ys i v is

  app_right : (xs ys : List X) (j : ℕ) → (i : ℕ) × (slice_get (xs ++ ys) i ≡ slice_get ys j)
  app_right [] ys j = (j, refl)
  app_right (x ∷ xs) ys j = let one = app_right xs ys j in (suc one.0, one.1)

  app_split : (xs ys : List X) (i : ℕ) (v : X) → slice_get (xs ++ ys) i ≡ Some v → (slice_get xs i ≡ Some v) ⊎ ((j : ℕ) × (slice_get ys j ≡ Some v))
  app_split [] ys i v is = inr (i, is)
  app_split (x ∷ xs) ys zero v is = inl is
  app_split (x ∷ xs) ys (suc i) v is = app_split xs ys i v is

place_of : (handles : List (Option Handle)) (n : ℕ) (h : Handle) → handle_at handles n ≡ Some h → (i : ℕ) × (n ≡ suc i) × (slice_get handles i ≡ Some (Some h))
place_of handles zero h is = absurd cc
place_of handles (suc i) h is = (i, refl, go (slice_get handles i) refl is)
  where
    go : (o : Option (Option Handle)) → slice_get handles i ≡ o → option_and_then (λ (x : Option Handle). x) o ≡ Some h → slice_get handles i ≡ Some (Some h)
    go None e found = absurd cc
    go (Some x) e found = e ∙ ap (λ (y : Option Handle). Some y) found

module _ (users : List (Option LoadedUser)) where
  pub its_handles : (id : ℕ) (k : LoadedUser) → user_of users id ≡ Some k → handles_in (kept_outlines users) id ≡ k.handles
  its_handles id k is = rw (user_is outline users id, is) refl

  -- those of one user more
  pub more_handles : (ids : List ℕ) (id : ℕ) → handles_of_all (kept_outlines users) (ids ++ id ∷ []) ≡ handles_of_all (kept_outlines users) ids ++ handles_in (kept_outlines users) id
  more_handles [] id = flat_map-cons (handles_in (kept_outlines users)) id [] ∙ append-nil (handles_in (kept_outlines users) id)
  more_handles (one ∷ ids) id =
      flat_map-cons (handles_in (kept_outlines users)) one (ids ++ id ∷ []) ∙ ap (λ (hs : List (Option Handle)). handles_in (kept_outlines users) one ++ hs) (more_handles ids id)
      ∙ sym (append_assoc (handles_in (kept_outlines users) one) (handles_of_all (kept_outlines users) ids) (handles_in (kept_outlines users) id))
      ∙ ap (λ (hs : List (Option Handle)). hs ++ handles_in (kept_outlines users) id) (sym (flat_map-cons (handles_in (kept_outlines users)) one ids))

  -- the handle of a segment of one of them is among all
  pub among : (ids : List ℕ) (id n : ℕ) (k : LoadedUser) (h : Handle) → is_in ids id ≡ true → user_of users id ≡ Some k → handle_at k.handles n ≡ Some h
      → (i : ℕ) × (slice_get (handles_of_all (kept_outlines users) ids) i ≡ Some (Some h))
  among [] id n k h inside made is = absurd cc
  among (one ∷ ids) id n k h inside made is = elim (cases_eq one id) [
    | inl eq ↦
        let at = place_of k.handles n h is in
        let here : slice_get (handles_in (kept_outlines users) one) at.0 ≡ Some (Some h) = ap (λ (m : ℕ). slice_get (handles_in (kept_outlines users) m) at.0) eq ∙ ap (λ (hs : List (Option Handle)). slice_get hs at.0) (its_handles id k made) ∙ at.2 in
        (at.0, ap (λ (hs : List (Option Handle)). slice_get hs at.0) (flat_map-cons (handles_in (kept_outlines users)) one ids) ∙ app_left (handles_in (kept_outlines users) one) (handles_of_all (kept_outlines users) ids) at.0 (Some h) here)
    | inr ne ↦
        let test : (one == id) ≡ false = grind arith in
        let later = among ids id n k h (rw test at inside) made is in
        let at = app_right (handles_in (kept_outlines users) one) (handles_of_all (kept_outlines users) ids) later.0 in
        (at.0, ap (λ (hs : List (Option Handle)). slice_get hs at.0) (flat_map-cons (handles_in (kept_outlines users)) one ids) ∙ at.1 ∙ later.1)
  ]

  -- and one that is among all is of one of them
  pub from_among : (ids : List ℕ) (i : ℕ) (h : Handle) → slice_get (handles_of_all (kept_outlines users) ids) i ≡ Some (Some h)
      → (id : ℕ) × (k : LoadedUser) × (n : ℕ) × (is_in ids id ≡ true) × (user_of users id ≡ Some k) × (handle_at k.handles n ≡ Some h)
  from_among [] i h is = absurd cc
  from_among (one ∷ ids) i h is =
      elim (app_split (handles_in (kept_outlines users) one) (handles_of_all (kept_outlines users) ids) i (Some h)
      (ap (λ (hs : List (Option Handle)). slice_get hs i) (sym (flat_map-cons (handles_in (kept_outlines users)) one ids)) ∙ is)) [
        | inl here ↦ own (user_of users one) refl here
        | inr later ↦ (let it = from_among ids later.0 h later.1 in (it.0, it.1, it.2, or_true (one == it.0) (is_in ids it.0) it.3, it.4, it.5))
      ]
    where
      or_true : (a b : Bool) → b ≡ true → (a || b) ≡ true
      or_true true b e = refl
      or_true false b e = e

      own : (o : Option LoadedUser) → user_of users one ≡ o → slice_get (handles_in (kept_outlines users) one) i ≡ Some (Some h)
          → (id : ℕ) × (k : LoadedUser) × (n : ℕ) × ((one == id || is_in ids id) ≡ true) × (user_of users id ≡ Some k) × (handle_at k.handles n ≡ Some h)
      own None e is =
          let none : slice_get {X = Option Handle} [] i ≡ Some (Some h) = ap (λ (hs : List (Option Handle)). slice_get hs i) (sym (nothing e)) ∙ is in absurd cc
        where
          nothing : user_of users one ≡ None → handles_in (kept_outlines users) one ≡ []
          nothing e = rw (user_is outline users one, e) refl
      own (Some k) e is =
          let there : slice_get k.handles i ≡ Some (Some h) = ap (λ (hs : List (Option Handle)). slice_get hs i) (sym (its_handles one k e)) ∙ is in
          let test : (one == one) ≡ true = grind arith in
          (one, k, suc i, rw test refl, e, ap (option_and_then (λ (x : Option Handle). x)) there)
