-- Turns as numbers, and the purge order.
use Rattle.std.proofs.Common.{◌≡◌, inl, inr, ℕ, Bool, true, false, not, cond, ◌&&◌, ◌||◌, ◌==◌, zero, suc, ◌+◌, ◌-◌, ◌*◌, ◌^◌, ◌<◌, ◌≤◌, nat_lt, List, [], ◌∷◌, All, length, get_or, slice_index, count_by, Option, Some, None, is_some, unwrap_or, arith, refl, sym, ap, ◌∙◌}
use Rattle.std.specs.Option.{option_map, option_map_or, option_and_then, IfSome}
use Rattle.std.specs.List.Sorted.{IsNonDecreasingBy}
use Rattle.std.proofs.lemmas.Bool.{cases_lt, cases_eq}
use Rattle.std.proofs.lemmas.Bool.Decides.{nat_tests}
use Rattle.std.proofs.lemmas.List.Elements.{All-head, All-tail}
use Rattle.std.proofs.lemmas.List.Sums.{sum_by-cons}
use Rattle.std.proofs.lemmas.List.Sorted.{sum_by-IsPermutation, All-permutation}
use Rattle.iigs_meaning.specs.declared.slots.Slot.{Slot}
use Rattle.iigs_meaning.specs.declared.wants.Block.{Block}
use Rattle.iigs_meaning.specs.Fits.{block_in}
use Rattle.iigs_meaning.specs.Placement.{can_purge, goes_before, rank, is_gone}
use Rattle.iigs_places.specs.declared.spots.BlockSpot.{BlockSpot}
use Rattle.iigs_places.specs.Spots.{turn_of_unpurgeable, turn_of, spot_of, spot_in, spots_of, turn_in, turns_of, limit_of, IsBounded, IsBoundedSlot, IsSurvey}
use Rattle.iigs_places.proofs.Gathered.{count-gathered, All-gathered}
use Rattle.iigs_places.proofs.Fewest.{limit_zero, limit_more}

pub turn_purge : (block : Block) → can_purge block ≡ true → turn_of block ≡ (255 - block.level) * 2 ^ 24 + unwrap_or block.at 0
unfolding turn_of
turn_purge block can = rw can refl

pub turn_never : (block : Block) → can_purge block ≡ false → turn_of block ≡ turn_of_unpurgeable
unfolding turn_of
turn_never block cannot = rw cannot refl

both_true : (a b c : Bool) → (a && not b && not c) ≡ true → c ≡ false
both_true true true c e = absurd (cc)
both_true true false true e = absurd (cc)
both_true true false false e = refl
both_true false b c e = absurd (cc)

-- a purgeable block's level isn't 0
level_some : (block : Block) → can_purge block ≡ true → 0 < block.level
unfolding can_purge
level_some block can =
    let other : (block.level == 0) ≡ false = both_true (is_some block.at) block.locked (block.level == 0) can in
    grind (arith, nat_tests)

-- its address is one of a bank
address_small : (o : Option ℕ) (size : ℕ) → 0 < size → IfSome o (λ at. at + size ≤ 2 ^ 24) → unwrap_or o 0 < 2 ^ 24
address_small None size some ends = omega arith
address_small (Some at) size some ends = omega arith

pub turn_small : (block : Block) → IsBounded block → can_purge block ≡ true → turn_of block < turn_of_unpurgeable
turn_small block bounded can =
    let is : turn_of block ≡ (255 - block.level) * 2 ^ 24 + unwrap_or block.at 0 = turn_purge block can in
    let some : 0 < block.level = level_some block can in
    let small : unwrap_or block.at 0 < 2 ^ 24 = address_small block.at block.want.size bounded.some bounded.ends in
    omega arith

order_is : (l m a b : ℕ) → l < 256 → m < 256 → a < 2 ^ 24 → b < 2 ^ 24
    → (nat_lt m l || (l == m && nat_lt a b)) ≡ nat_lt ((255 - l) * 2 ^ 24 + a) ((255 - m) * 2 ^ 24 + b)
order_is l m a b lb mb ab bb = elim (cases_lt m l) [
  | inl lt ↦
      let first : nat_lt m l ≡ true = grind (arith, nat_tests) in
      let second : nat_lt ((255 - l) * 2 ^ 24 + a) ((255 - m) * 2 ^ 24 + b) ≡ true = grind (arith, nat_tests) in
      rw (first, second) refl
  | inr ge ↦ elim (cases_eq l m) [
    | inl same ↦
        let first : nat_lt m l ≡ false = grind (arith, nat_tests) in
        let equal : (l == m) ≡ true = grind (arith, nat_tests) in
        let second : nat_lt a b ≡ nat_lt ((255 - l) * 2 ^ 24 + a) ((255 - m) * 2 ^ 24 + b) = grind (arith, nat_tests) in
        rw (first, equal) second
    | inr differ ↦
        let first : nat_lt m l ≡ false = grind (arith, nat_tests) in
        let unequal : (l == m) ≡ false = grind (arith, nat_tests) in
        let second : nat_lt ((255 - l) * 2 ^ 24 + a) ((255 - m) * 2 ^ 24 + b) ≡ false = grind (arith, nat_tests) in
        rw (first, unequal, second) refl
  ]
]

-- turns rise along the purge order
before_is : (one block : Block) → IsBounded one → IsBounded block → can_purge one ≡ true → can_purge block ≡ true
    → goes_before one block ≡ nat_lt (turn_of one) (turn_of block)
unfolding goes_before
before_is one block first second can can' = rw (turn_purge, turn_purge block can')
    (order_is one.level block.level (unwrap_or one.at 0) (unwrap_or block.at 0) first.level second.level
    (address_small one.at one.want.size first.some first.ends) (address_small block.at block.want.size second.some second.ends))

never_before : (t : ℕ) → t < turn_of_unpurgeable → nat_lt turn_of_unpurgeable t ≡ false
never_before t less = grind (arith, nat_tests)

first_true : (a b c : Bool) → (a && b && c) ≡ true → a ≡ true
first_true true b c e = refl
first_true false b c e = absurd (cc)

pub there_purge : (one : Block) → can_purge one ≡ true → is_some one.at ≡ true
unfolding can_purge
there_purge one can = first_true (is_some one.at) (not one.locked) (not (one.level == 0)) can

spot_before : (o : Option ℕ) (size t x : ℕ)
    → option_map_or (λ (spot : BlockSpot). nat_lt spot.turn x) (option_map (λ at. record { at = at; end = at + size; turn = t }) o) false
    ≡ (is_some o && nat_lt t x)
spot_before None size t x = refl
spot_before (Some at) size t x = refl

and_false : (b : Bool) → false ≡ (b && false)
and_false true = refl
and_false false = refl

-- whether a block goes before another is whether its turn is the lower one
block_before : (one block : Block) → IsBounded one → IsBounded block → can_purge block ≡ true
    → (can_purge one && goes_before one block) ≡ option_map_or (λ spot. nat_lt spot.turn (turn_of block)) (spot_of one) false
block_before one block first second can = go (can_purge one) refl ∙ sym (spot_before one.at one.want.size (turn_of one) (turn_of block))
  where
    go : (b : Bool) → can_purge one ≡ b → (b && goes_before one block) ≡ (is_some one.at && nat_lt (turn_of one) (turn_of block))
    go true can' =
        let there : is_some one.at ≡ true = there_purge one can' in
        rw (there, before_is one block first second can' can) refl
    go false cannot =
        let above : nat_lt (turn_of one) (turn_of block) ≡ false = rw (turn_never one cannot) (never_before (turn_of block) (turn_small block second can)) in
        rw above (and_false (is_some one.at))

slot_before : (o : Option Block) (block : Block) → IfSome o IsBounded → IsBounded block → can_purge block ≡ true
    → option_map_or (λ one. can_purge one && goes_before one block) o false
    ≡ option_map_or (λ spot. nat_lt spot.turn (turn_of block)) (option_and_then spot_of o) false
slot_before None block first second can = refl
slot_before (Some one) block first second can = block_before one block first second can

-- two tests that agree on all items count the same
pub count-same : {X : Type 0} (p q : X → Bool) (xs : List X) → All (λ x. p x ≡ q x) xs → count_by p xs ≡ count_by q xs
count-same p q [] all = refl
count-same p q (x ∷ xs) all =
    sum_by-cons (λ x. cond (p x) 1 0) x xs
    ∙ ap (λ b. cond b 1 0 + count_by p xs) (All-head (λ x. p x ≡ q x) x xs all)
    ∙ ap (λ n. cond (q x) 1 0 + n) (count-same p q xs (All-tail (λ x. p x ≡ q x) x xs all))
    ∙ sym (sum_by-cons (λ x. cond (q x) 1 0) x xs)

turn_below : (x : ℕ) → x ≤ turn_of_unpurgeable → (spot : BlockSpot) → option_map_or (λ turn. nat_lt turn x) (turn_in spot) false ≡ nat_lt spot.turn x
turn_below x small spot = elim (cases_lt spot.turn turn_of_unpurgeable) [
  | inl lt ↦ let kept : nat_lt spot.turn turn_of_unpurgeable ≡ true = grind (arith, nat_tests) in rw kept refl
  | inr ge ↦
      let dropped : nat_lt spot.turn turn_of_unpurgeable ≡ false = grind (arith, nat_tests) in
      let above : nat_lt spot.turn x ≡ false = grind (arith, nat_tests) in
      rw (dropped, above) refl
]

module _ (slots : List (Slot Block)) (spots : List BlockSpot) (turns : List ℕ) (survey : IsSurvey slots spots turns) (bounded : All IsBoundedSlot slots) where
  -- as many turns lie below a purgeable block's as purgeable blocks go before it
  rank_is : (block : Block) → IsBounded block → can_purge block ≡ true → rank slots block ≡ count_by (λ turn. nat_lt turn (turn_of block)) turns
  unfolding rank spots_of turns_of
  rank_is block second can =
      let small : turn_of block ≤ turn_of_unpurgeable = omega (arith, turn_small block second can) in
      count-same _ _ slots (λ k d inside. slot_before (block_in (get_or slots k d)) block (bounded k d inside) second can)
      ∙ sym (count-gathered spot_in (λ spot. nat_lt spot.turn (turn_of block)) slots)
      ∙ sym (sum_by-IsPermutation (λ spot. cond (nat_lt spot.turn (turn_of block)) 1 0) (spots_of slots) spots survey.blocks)
      ∙ count-same _ _ spots (λ k d inside. sym (turn_below (turn_of block) small (get_or spots k d)))
      ∙ sym (count-gathered turn_in (λ turn. nat_lt turn (turn_of block)) spots)
      ∙ sym (sum_by-IsPermutation (λ turn. cond (nat_lt turn (turn_of block)) 1 0) (turns_of spots) turns survey.counted)

rises_tail : (t : ℕ) (ts : List ℕ) → IsNonDecreasingBy (λ turn. turn) (t ∷ ts) → IsNonDecreasingBy (λ turn. turn) ts
rises_tail t ts rises i j d le inside = rises (suc i) (suc j) d (omega arith) (omega arith)

none_below : (ts : List ℕ) (x : ℕ) → All (λ t. x ≤ t) ts → count_by (λ t. nat_lt t x) ts ≡ 0
none_below [] x all = refl
none_below (t ∷ ts) x all =
    let above : x ≤ t = All-head (λ t. x ≤ t) t ts all in
    let not_below : nat_lt t x ≡ false = grind (arith, nat_tests) in
    let rest : count_by (λ t. nat_lt t x) ts ≡ 0 = none_below ts x (All-tail (λ t. x ≤ t) t ts all) in
    sum_by-cons (λ t. cond (nat_lt t x) 1 0) t ts ∙ rw (not_below, rest) refl

above_first : (ts : List ℕ) (t x : ℕ) → IsNonDecreasingBy (λ turn. turn) (t ∷ ts) → x ≤ t → (k : ℕ) (d : ℕ) → k < length (t ∷ ts) → x ≤ get_or (t ∷ ts) k d
above_first ts t x rises ge k d inside = let up : t ≤ get_or (t ∷ ts) k d = rises 0 k d (omega arith) inside in omega arith

count_here : (ts : List ℕ) (t x i n : ℕ) → t < x → (inside : i < length (t ∷ ts))
    → ((j : ℕ) → j < length ts → nat_lt j n ≡ nat_lt (get_or ts j 0) x)
    → nat_lt i (1 + n) ≡ nat_lt (get_or (t ∷ ts) i 0) x
count_here ts t x zero n lt inside next =
    let first : nat_lt 0 (1 + n) ≡ true = grind (arith, nat_tests) in
    let second : nat_lt t x ≡ true = grind (arith, nat_tests) in
    rw (first, second) refl
count_here ts t x (suc j) n lt inside next =
    let shift : nat_lt (suc j) (1 + n) ≡ nat_lt j n = grind (arith, nat_tests) in
    rw shift (next j (omega arith))

count_step : (ts : List ℕ) (t x i : ℕ) → IsNonDecreasingBy (λ turn. turn) (t ∷ ts) → i < length (t ∷ ts)
    → ((j : ℕ) → j < length ts → nat_lt j (count_by (λ t. nat_lt t x) ts) ≡ nat_lt (get_or ts j 0) x)
    → nat_lt i (count_by (λ t. nat_lt t x) (t ∷ ts)) ≡ nat_lt (get_or (t ∷ ts) i 0) x
count_step ts t x i rises inside next = elim (cases_lt t x) [
  | inl lt ↦
      let below : nat_lt t x ≡ true = grind (arith, nat_tests) in
      let more : count_by (λ t. nat_lt t x) (t ∷ ts) ≡ 1 + count_by (λ t. nat_lt t x) ts = sum_by-cons (λ t. cond (nat_lt t x) 1 0) t ts ∙ rw below refl in
      rw more (count_here ts t x i (count_by (λ t. nat_lt t x) ts) lt inside next)
  | inr ge ↦
      let none : count_by (λ t. nat_lt t x) (t ∷ ts) ≡ 0 = none_below (t ∷ ts) x (above_first ts t x rises ge) in
      let first : nat_lt i 0 ≡ false = grind (arith, nat_tests) in
      let here : x ≤ get_or (t ∷ ts) i 0 = above_first ts t x rises ge i 0 inside in
      let second : nat_lt (get_or (t ∷ ts) i 0) x ≡ false = grind (arith, nat_tests) in
      rw (none, first, second) refl
]

-- among rising numbers the one at a place lies below another where more lie below it than the place says
pub count_rises : (ts : List ℕ) (x i : ℕ) → IsNonDecreasingBy (λ turn. turn) ts → i < length ts
    → nat_lt i (count_by (λ t. nat_lt t x) ts) ≡ nat_lt (get_or ts i 0) x
count_rises [] x i rises inside = absurd (omega arith)
count_rises (t ∷ ts) x i rises inside = count_step ts t x i rises inside
    (λ j inside'. count_rises ts x j (rises_tail t ts rises) inside')

below_limit : (c count last x : ℕ) → 0 < count → nat_lt (count - 1) c ≡ nat_lt last x → nat_lt c count ≡ nat_lt x (last + 1)
below_limit c count last x some same = elim (cases_lt (count - 1) c) [
  | inl lt ↦
      let more : nat_lt (count - 1) c ≡ true = grind (arith, nat_tests) in
      let less : nat_lt last x ≡ true = sym same ∙ more in
      grind (arith, nat_tests)
  | inr ge ↦
      let more : nat_lt (count - 1) c ≡ false = grind (arith, nat_tests) in
      let less : nat_lt last x ≡ false = sym same ∙ more in
      grind (arith, nat_tests)
]

turn_in_small : (spot : BlockSpot) → IfSome (turn_in spot) (λ turn. turn < turn_of_unpurgeable)
turn_in_small spot = go (nat_lt spot.turn turn_of_unpurgeable) refl
  where
    go : (b : Bool) → nat_lt spot.turn turn_of_unpurgeable ≡ b → IfSome (cond b (Some spot.turn) None) (λ turn. turn < turn_of_unpurgeable)
    go true e = grind (arith, nat_tests)
    go false e = tt

module _ (slots : List (Slot Block)) (spots : List BlockSpot) (turns : List ℕ) (survey : IsSurvey slots spots turns) where
  -- no turn of a block that may be purged is that of one that isn't
  pub turns_small : All (λ turn. turn < turn_of_unpurgeable) turns
  unfolding turns_of
  turns_small = All-permutation (λ turn. turn < turn_of_unpurgeable) (turns_of spots) turns survey.counted
      (All-gathered turn_in (λ turn. turn < turn_of_unpurgeable) spots (λ k d inside. turn_in_small (get_or spots k d)))

  limit_small : (count : ℕ) → count ≤ length turns → limit_of turns count ≤ turn_of_unpurgeable
  limit_small count within = elim (cases_lt 0 count) [
    | inl some ↦
        let is : limit_of turns count ≡ slice_index turns (count - 1) + 1 = limit_more turns count some in
        let last : slice_index turns (count - 1) < turn_of_unpurgeable = turns_small (count - 1) 0 (omega arith) in
        omega arith
    | inr le ↦
        let zero : count ≡ 0 = omega arith in
        rw (zero, limit_zero) (omega arith)
  ]

  gone_count : (x count : ℕ) → count ≤ length turns → nat_lt (count_by (λ turn. nat_lt turn x) turns) count ≡ nat_lt x (limit_of turns count)
  gone_count x count within = elim (cases_lt 0 count) [
    | inl some ↦ rw (limit_more turns count some)
        (below_limit (count_by (λ turn. nat_lt turn x) turns) count (slice_index turns (count - 1)) x some
        (count_rises turns x (count - 1) survey.rises (omega arith)))
    | inr le ↦
        let zero : count ≡ 0 = omega arith in
        let first : nat_lt (count_by (λ turn. nat_lt turn x) turns) 0 ≡ false = grind (arith, nat_tests) in
        let second : nat_lt x 0 ≡ false = grind (arith, nat_tests) in
        rw (zero, limit_zero, first, second) refl
  ]

  -- the first `count` purgeable blocks are those with a turn below the limit
  pub gone_is : All IsBoundedSlot slots → (block : Block) (count : ℕ) → IsBounded block → count ≤ length turns
      → is_gone slots count block ≡ nat_lt (turn_of block) (limit_of turns count)
  unfolding is_gone
  gone_is bounded block count second within = go (can_purge block) refl
    where
      go : (b : Bool) → can_purge block ≡ b → (b && nat_lt (rank slots block) count) ≡ nat_lt (turn_of block) (limit_of turns count)
      go true can = rw (rank_is slots spots turns survey bounded block second can) (gone_count (turn_of block) count within)
      go false cannot =
          let small : limit_of turns count ≤ turn_of_unpurgeable = limit_small count within in
          let above : nat_lt turn_of_unpurgeable (limit_of turns count) ≡ false = grind (arith, nat_tests) in
          rw (turn_never block cannot, above) refl
