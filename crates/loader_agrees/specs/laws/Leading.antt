-- The user whose tables lead to the segments of a user.
use Rattle.std.proofs.Common.{◌≡◌, ◌≢◌, ◌⊎◌, inl, inr, ℕ, zero, suc, true, false, ◌==◌, ◌+◌, ◌-◌, ◌≤◌, List, [], ◌∷◌, Option, Some, None, refl, sym, ap, subst, ◌∙◌, arith}
use Rattle.std.specs.Prelude.{slice_get, option_map, is_some}
use Rattle.std.specs.Option.{option_and_then}
use Rattle.std.proofs.lemmas.Option.{same_Some, slice_get-map}
use Rattle.std.proofs.lemmas.Bool.{cases_eq}
use Rattle.loader_machine.specs.declared.seen.SegmentHead.{SegmentHead}
use Rattle.loader_machine.specs.declared.seen.Life.{Life}
use Rattle.loader_machine.specs.Heads.{at_number}
use Rattle.loader_machine.specs.Heads.{is_table as is_table_head}
use Rattle.loader_machine.specs.State.{Outline, first_id, user_of, attached_at, file_in, holder_from, holder_of, is_attached, led_by}
use Rattle.loader_agrees.specs.Agrees.{LoadedUser, outline, kept_outlines, IsJoined, AreAttached}
use Rattle.loader_agrees.specs.laws.RowUsers.{user_there}
use Rattle.loader_agrees.specs.laws.Seeing.{user_is, made_at}

-- ---- the search for an ID

-- an ID that is in a list at one place alone is found under that place's file number
one_in : (n file i : ℕ) (ids : List ℕ) → slice_get ids i ≡ Some n → ((j : ℕ) → slice_get ids j ≡ Some n → j ≡ i) → file_in file ids n ≡ Some (file + i)
one_in n file i [] is only = absurd cc
one_in n file zero (one ∷ ids) is only =
    let same : one ≡ n = cc in
    let test : (one == n) ≡ true = grind arith in
    rw test (ap (λ (m : ℕ). Some m) (omega arith))
one_in n file (suc i) (one ∷ ids) is only = elim (cases_eq one n) [
  | inl eq ↦ (let zero_is : 0 ≡ suc i = only 0 (ap (λ (m : ℕ). Some m) eq) in absurd (omega (arith, zero_is)))
  | inr ne ↦ (let test : (one == n) ≡ false = grind arith in
      rw test (one_in n (file + 1) i ids is (λ j here. omega (arith, only (suc j) here)) ∙ ap (λ (m : ℕ). Some m) (omega arith)))
]

nothing_at : {X : Type 0} (j : ℕ) (x : X) → slice_get [] j ≡ Some x → ⊥
nothing_at j x is = cc

not_in : (one n : ℕ) (ids : List ℕ) → one ≢ n → ((j : ℕ) → slice_get ids j ≡ Some n → ⊥) → (j : ℕ) → slice_get (one ∷ ids) j ≡ Some n → ⊥
not_in one n ids ne none zero is = ne (same_Some one n is)
not_in one n ids ne none (suc j) is = none j is

-- an ID isn't found, and is nowhere in the list, or it is at a place
file_cases : (n file : ℕ) (ids : List ℕ) → ((file_in file ids n ≡ None) × ((j : ℕ) → slice_get ids j ≡ Some n → ⊥)) ⊎ ((j : ℕ) × (slice_get ids j ≡ Some n))
file_cases n file [] = inl (refl, λ j is. nothing_at j n is)
file_cases n file (one ∷ ids) = elim (cases_eq one n) [
  | inl eq ↦ inr (0, ap (λ (m : ℕ). Some m) eq)
  | inr ne ↦ elim (file_cases n (file + 1) ids) [
    | inl none ↦ (let test : (one == n) ≡ false = grind arith in inl (rw test none.0, not_in one n ids ne none.1))
    | inr some ↦ inr (suc some.0, some.1)
  ]
]

-- neither this user nor any after it has the ID
none_first : (n : ℕ) (first : Option Outline) (users : List (Option Outline)) → ((j : ℕ) (u : Outline) → first ≡ Some u → slice_get u.attached j ≡ Some n → ⊥)
    → ((q j : ℕ) (u : Outline) → slice_get users q ≡ Some (Some u) → slice_get u.attached j ≡ Some n → ⊥)
    → (q j : ℕ) (u : Outline) → slice_get (first ∷ users) q ≡ Some (Some u) → slice_get u.attached j ≡ Some n → ⊥
none_first n first users here rest zero j u is found = here j u (same_Some first (Some u) is) found
none_first n first users here rest (suc q) j u is found = rest q j u is found

holder_cases : (n owner : ℕ) (users : List (Option Outline))
    → ((holder_from owner users n ≡ None) × ((q j : ℕ) (u : Outline) → slice_get users q ≡ Some (Some u) → slice_get u.attached j ≡ Some n → ⊥))
    ⊎ ((q : ℕ) × (j : ℕ) × (u : Outline) × (slice_get users q ≡ Some (Some u)) × (slice_get u.attached j ≡ Some n))
holder_cases n owner [] = inl (refl, λ q j u is found. nothing_at q (Some u) is)
holder_cases n owner (None ∷ users) = elim (holder_cases n (owner + 1) users) [
  | inl none ↦ inl (none.0, none_first n None users (λ j u is found. let clash : None ≡ Some u = is in cc) none.1)
  | inr some ↦ inr (suc some.0, some.1, some.2, some.3, some.4)
]
holder_cases n owner (Some user ∷ users) = elim (file_cases n 2 user.attached) [
  | inl none ↦ elim (holder_cases n (owner + 1) users) [
    | inl rest ↦ inl (rw none.0 rest.0, none_first n (Some user) users (λ j u is found. none.1 j (ap (λ (x : Outline). slice_get x.attached j) (same_Some user u is) ∙ found)) rest.1)
    | inr some ↦ inr (suc some.0, some.1, some.2, some.3, some.4)
  ]
  | inr here ↦ inr (0, here.0, user, refl, here.1)
]

none_in : (n : ℕ) (file : ℕ) (ids : List ℕ) → ((j : ℕ) → slice_get ids j ≡ Some n → ⊥) → file_in file ids n ≡ None
none_in n file ids not = elim (file_cases n file ids) [ inl none ↦ none.0 | inr some ↦ absurd (not some.0 some.1) ]

abbrev found_at : ℕ → ℕ → Option (ℕ × ℕ)
found_at a b = Some (a, b)

pair_is : (a b c d : ℕ) → a ≡ c → b ≡ d → found_at a b ≡ found_at c d
pair_is a b c d e f = rw (e, f) refl

-- an ID that is in one list alone is found there
holder_is : (n owner p i : ℕ) (users : List (Option Outline)) (user : Outline) → slice_get users p ≡ Some (Some user) → slice_get user.attached i ≡ Some n
    → ((q j : ℕ) (u : Outline) → slice_get users q ≡ Some (Some u) → slice_get u.attached j ≡ Some n → (q ≡ p) × (j ≡ i)) → holder_from owner users n ≡ Some (owner + p, 2 + i)
holder_is n owner p i [] user made is only = absurd cc
holder_is n owner zero i (None ∷ users) user made is only = absurd cc
holder_is n owner zero i (Some u ∷ users) user made is only =
    let same : u ≡ user = cc in
    let here : file_in 2 u.attached n ≡ Some (2 + i) = one_in n 2 i u.attached (ap (λ (x : Outline). slice_get x.attached i) same ∙ is) (λ j found. (only 0 j u refl found).1) in
    rw here (pair_is owner (2 + i) (owner + 0) (2 + i) (omega arith) refl)
holder_is n owner (suc p) i (None ∷ users) user made is only =
    holder_is n (owner + 1) p i users user made is (λ q j u there found. let both = only (suc q) j u there found in (omega (arith, both.0), both.1))
    ∙ pair_is (owner + 1 + p) (2 + i) (owner + suc p) (2 + i) (omega arith) refl
holder_is n owner (suc p) i (Some u ∷ users) user made is only =
    let none : file_in 2 u.attached n ≡ None = none_in n 2 u.attached (λ j found. let both = only 0 j u refl found in let clash : 0 ≡ suc p = both.0 in omega (arith, clash)) in
    rw none (holder_is n (owner + 1) p i users user made is (λ q j x there found. let both = only (suc q) j x there found in (omega (arith, both.0), both.1))
    ∙ pair_is (owner + 1 + p) (2 + i) (owner + suc p) (2 + i) (omega arith) refl)

-- ---- what is found

kept_back : (users : List (Option LoadedUser)) (q : ℕ) (u : Outline) → slice_get (kept_outlines users) q ≡ Some (Some u) → (k : LoadedUser) × (slice_get users q ≡ Some (Some k)) × (outline k ≡ u)
kept_back users q u is = go (slice_get users q) refl (sym (slice_get-map (option_map outline) users q) ∙ is)
  where
    go : (o : Option (Option LoadedUser)) → slice_get users q ≡ o → option_map (option_map outline) o ≡ Some (Some u) → (k : LoadedUser) × (slice_get users q ≡ Some (Some k)) × (outline k ≡ u)
    go None e is = absurd cc
    go (Some None) e is = absurd cc
    go (Some (Some k)) e is = (k, e, cc)

outline_there : (users : List (Option LoadedUser)) (p : ℕ) (k : LoadedUser) → slice_get users p ≡ Some (Some k) → slice_get (kept_outlines users) p ≡ Some (Some (outline k))
outline_there users p k made = slice_get-map (option_map outline) users p ∙ ap (option_map (option_map outline)) made

-- an attached user's segments are led to by its own user's tables, under the file of its row
pub led_there : (users : List (Option LoadedUser)) (p i n : ℕ) (kept : LoadedUser) → AreAttached users → slice_get users p ≡ Some (Some kept) → slice_get kept.attached i ≡ Some n
    → led_by (kept_outlines users) n ≡ (first_id + p, 2 + i)
unfolding holder_of
led_there users p i n kept attached made is =
    let holder = holder_is n first_id p i (kept_outlines users) (outline kept) (outline_there users p kept made) is (λ q j u there' found.
    let back = kept_back users q u there' in
    attached.once q p j i n back.0 kept back.1 made (ap (λ (o : Outline). slice_get o.attached j) back.2 ∙ found) is) in
    rw holder refl

led_own : (users : List (Option Outline)) (n : ℕ) → holder_from first_id users n ≡ None → led_by users n ≡ (n, 1)
unfolding holder_of
led_own users n none = rw none refl

-- a row of a user's file names an attached user
pub row_of : (users : List (Option LoadedUser)) (q f n : ℕ) → attached_at (kept_outlines users) q f ≡ Some n → (k : LoadedUser) × (user_of users q ≡ Some k) × (slice_get k.attached (f - 2) ≡ Some n)
row_of users q f n is = go (user_of users q) refl (ap (option_and_then (λ (u : Outline). slice_get u.attached (f - 2))) (sym (user_is outline users q)) ∙ is)
  where
    go : (o : Option LoadedUser) → user_of users q ≡ o → option_and_then (λ (u : Outline). slice_get u.attached (f - 2)) (option_map outline o) ≡ Some n
        → (k : LoadedUser) × (user_of users q ≡ Some k) × (slice_get k.attached (f - 2) ≡ Some n)
    go None e is = absurd cc
    go (Some k) e is = (k, e, is)

-- ---- whose tables lead

-- the tables of this user lead to the segments of the user of an ID, under this file number: its own under 1, or those of the user to which
-- it is attached
pub data Leading (users : List (Option LoadedUser)) (id owner file : ℕ) : Type 0 where
  Its : owner ≡ id → file ≡ 1 → ((q f : ℕ) → attached_at (kept_outlines users) q f ≡ Some id → ⊥) → Leading users id owner file
  Holder : 2 ≤ file → owner ≢ id → attached_at (kept_outlines users) owner file ≡ Some id → ((f : ℕ) → attached_at (kept_outlines users) id f ≡ None)
      → ((q f : ℕ) → 2 ≤ f → attached_at (kept_outlines users) q f ≡ Some id → (q ≡ owner) × (f ≡ file)) → Leading users id owner file

-- the user whose tables lead to a user's segments; one with a row has no table itself
pub record IsLed (users : List (Option LoadedUser)) (id : ℕ) (kept : LoadedUser) (owner file : ℕ) : Type 0 where
  pub lead : LoadedUser
  pub made : user_of users owner ≡ Some lead
  pub leading : Leading users id owner file
  pub alone : (file ≡ 1) ⊎ ((n : ℕ) (g : SegmentHead) → at_number kept.heads n ≡ Some g → is_table_head g ≡ false)

module _ (users : List (Option LoadedUser)) (id : ℕ) (kept : LoadedUser) (attached : AreAttached users) (made : user_of users id ≡ Some kept) where
  own_led : ((q j : ℕ) (u : Outline) → slice_get (kept_outlines users) q ≡ Some (Some u) → slice_get u.attached j ≡ Some id → ⊥) → IsLed users id kept id 1
  own_led none = record {
    lead = kept;
    made = made;
    leading = Its refl refl (λ q f found.
        let row = row_of users q f id found in
        let there = made_at users q row.0 row.1 in
        none (q - first_id) (f - 2) (outline row.0) (outline_there users (q - first_id) row.0 there.0) row.2);
    alone = inl refl;
  }

  module _ (p i : ℕ) (lead : LoadedUser) (is : slice_get users p ≡ Some (Some lead)) (found : slice_get lead.attached i ≡ Some id) where
    joined : IsJoined lead.life kept
    joined =
        let one = attached.each p i id lead is found in
        subst (λ (k : LoadedUser). IsJoined lead.life k) (same_Some one.0 kept (sym one.1 ∙ made)) one.2

    -- a user with rows is no attached one
    apart : first_id + p ≢ id
    apart same =
        let it : lead ≡ kept = same_Some lead kept (sym (user_there users p lead is) ∙ ap (user_of users) same ∙ made) in
        nothing_at i id (ap (λ (ids : List ℕ). slice_get ids i) (sym (ap (λ (k : LoadedUser). k.attached) it ∙ joined.alone)) ∙ found)

    row_there : attached_at (kept_outlines users) (first_id + p) (2 + i) ≡ Some id
    row_there =
        let two : 2 + i - 2 ≡ i = omega arith in
        rw (user_is outline users (first_id + p), user_there users p lead is) (subst (λ (m : ℕ). slice_get lead.attached m ≡ Some id) (sym two) found)

    no_row : (f : ℕ) → attached_at (kept_outlines users) id f ≡ None
    no_row f = rw (user_is outline users id, made) (ap (λ (ids : List ℕ). slice_get ids (f - 2)) joined.alone)

    held_led : IsLed users id kept (first_id + p) (2 + i)
    held_led = record {
      lead = lead;
      made = user_there users p lead is;
      leading = Holder (omega arith) apart row_there no_row (λ q f above named.
          let row = row_of users q f id named in
          let there = made_at users q row.0 row.1 in
          let both = attached.once (q - first_id) p (f - 2) i id row.0 lead there.0 is row.2 found in
          (omega (arith, both.0, there.1), omega (arith, both.1, above)));
      alone = inr joined.plain;
    }

  -- it is the one that is searched for
  pub is_led : IsLed users id kept (led_by (kept_outlines users) id).0 (led_by (kept_outlines users) id).1
  is_led = elim (holder_cases id first_id (kept_outlines users)) [
    | inl none ↦ subst (λ (one : ℕ × ℕ). IsLed users id kept one.0 one.1) (sym (led_own (kept_outlines users) id none.0)) (own_led none.1)
    | inr some ↦
        let back = kept_back users some.0 some.2 some.3 in
        let found : slice_get back.0.attached some.1 ≡ Some id = ap (λ (o : Outline). slice_get o.attached some.1) back.2 ∙ some.4 in
        subst (λ (one : ℕ × ℕ). IsLed users id kept one.0 one.1) (sym (led_there users some.0 some.1 id back.0 attached back.1 found)) (held_led some.0 some.1 back.0 back.1 found)
  ]

-- a user that is attached to another has dynamic segments alone
pub joined_of : (users : List (Option LoadedUser)) (id : ℕ) (kept : LoadedUser) → AreAttached users → user_of users id ≡ Some kept → is_attached (kept_outlines users) id ≡ true → (life : Life) × IsJoined life kept
unfolding holder_of
joined_of users id kept attached made is = elim (holder_cases id first_id (kept_outlines users)) [
  | inl none ↦ (let clash : false ≡ true = ap is_some (sym none.0) ∙ is in absurd cc)
  | inr some ↦
      let back = kept_back users some.0 some.2 some.3 in
      let found : slice_get back.0.attached some.1 ≡ Some id = ap (λ (o : Outline). slice_get o.attached some.1) back.2 ∙ some.4 in
      let one = attached.each some.0 some.1 id back.0 back.1 found in
      (back.0.life, subst (λ (k : LoadedUser). IsJoined back.0.life k) (same_Some one.0 kept (sym one.1 ∙ made)) one.2)
]
