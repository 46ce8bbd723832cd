-- The first `count` purgeable blocks are emptied by their turns.
use Rattle.std.proofs.Common.{◌≡◌, inl, inr, ℕ, Bool, true, false, cond, ◌&&◌, nat_lt, ◌+◌, ◌≤◌, min, List, [], ◌∷◌, map, All, length, get_or, count_by, Option, Some, None, IfSome, is_some, refl, sym, ap, ◌∙◌, arith}
use Rattle.std.specs.Option.{option_map, option_map_or, option_and_then}
use Rattle.std.proofs.lemmas.Bool.{cases_lt}
use Rattle.std.proofs.lemmas.Bool.Decides.{nat_tests}
use Rattle.std.proofs.lemmas.List.Sums.{sum_by-cons}
use Rattle.std.proofs.lemmas.List.Sorted.{length_permutation, sum_by-IsPermutation}
use Rattle.iigs_meaning.specs.declared.slots.Slot.{Slot}
use Rattle.iigs_meaning.specs.declared.wants.Block.{Block}
use Rattle.iigs_meaning.specs.Fits.{block_in}
use Rattle.iigs_meaning.specs.Placement.{can_purge, emptied_where, slots_after_purges, count_purgeable}
use Rattle.iigs_meaning.specs.laws.PurgeLaws.{emptied_past}
use Rattle.iigs_places.specs.declared.spots.BlockSpot.{BlockSpot}
use Rattle.iigs_places.specs.Spots.{turn_of_unpurgeable, turn_of, spot_of, spot_in, spots_of, turn_in, turns_of, limit_of, IsBounded, IsBoundedSlot, IsSurvey}
use Rattle.iigs_places.proofs.Gathered.{count-gathered}
use Rattle.iigs_places.proofs.Turns.{count-same, turn_small, turn_never, there_purge}
use Rattle.iigs_places.proofs.Placed.{below, emptied_is}

count_all : {X : Type 0} (xs : List X) → count_by (λ (x : X). true) xs ≡ length xs
count_all [] = refl
count_all {X} (x ∷ xs) = omega (arith, sum_by-cons (λ (x : X). cond {A = ℕ} true 1 0) x xs, count_all xs)

reported : {X : Type 0} (o : Option X) → option_map_or (λ (x : X). true) o false ≡ is_some o
reported None = refl
reported (Some x) = refl

kept_turn : (spot : BlockSpot) → is_some (turn_in spot) ≡ nat_lt spot.turn turn_of_unpurgeable
kept_turn spot = go (nat_lt spot.turn turn_of_unpurgeable)
  where
    go : (b : Bool) → is_some {T = ℕ} (cond b (Some spot.turn) None) ≡ b
    go true = refl
    go false = refl

block_kept : (block : Block) → IsBounded block → option_map_or (λ (spot : BlockSpot). nat_lt spot.turn turn_of_unpurgeable) (spot_of block) false ≡ can_purge block
block_kept block bounded = at_it block.at ∙ go (can_purge block) refl
  where
    at_it : (o : Option ℕ) → option_map_or (λ (spot : BlockSpot). nat_lt spot.turn turn_of_unpurgeable) (option_map (λ at. record { at = at; end = at + block.want.size; turn = turn_of block }) o) false ≡ (is_some o && nat_lt (turn_of block) turn_of_unpurgeable)
    at_it None = refl
    at_it (Some at) = refl

    and_false : (b : Bool) → (b && false) ≡ false
    and_false true = refl
    and_false false = refl

    go : (b : Bool) → can_purge block ≡ b → (is_some block.at && nat_lt (turn_of block) turn_of_unpurgeable) ≡ can_purge block
    go true can =
        let there : is_some block.at ≡ true = there_purge block can in
        let less = turn_small block bounded can in
        let test : nat_lt (turn_of block) turn_of_unpurgeable ≡ true = grind (arith, nat_tests) in
        rw (there, test, can) refl
    go false cannot =
        let test : nat_lt (turn_of block) turn_of_unpurgeable ≡ false = rw (turn_never block cannot) refl in
        rw (test, cannot) (and_false (is_some block.at))

slot_kept : (o : Option Block) → IfSome o IsBounded → option_map_or (λ (spot : BlockSpot). nat_lt spot.turn turn_of_unpurgeable) (option_and_then spot_of o) false ≡ option_map_or can_purge o false
slot_kept None bounded = refl
slot_kept (Some block) bounded = block_kept block bounded

module _ (slots : List (Slot Block)) (spots : List BlockSpot) (turns : List ℕ) (survey : IsSurvey slots spots turns) (bounded : All IsBoundedSlot slots) where
  -- there is a turn for each block that may be purged
  pub turns_count : length turns ≡ count_purgeable slots
  unfolding spots_of turns_of
  turns_count = length_permutation (turns_of spots) turns survey.counted
      ∙ sym (count_all (turns_of spots))
      ∙ count-gathered turn_in (λ turn. true) spots
      ∙ count-same (λ spot. option_map_or (λ turn. true) (turn_in spot) false) (λ spot. nat_lt spot.turn turn_of_unpurgeable) spots (λ k d inside. reported (turn_in (get_or spots k d)) ∙ kept_turn (get_or spots k d))
      ∙ sum_by-IsPermutation (λ spot. cond (nat_lt spot.turn turn_of_unpurgeable) 1 0) (spots_of slots) spots survey.blocks
      ∙ count-gathered spot_in (λ spot. nat_lt spot.turn turn_of_unpurgeable) slots
      ∙ count-same (λ slot. option_map_or (λ spot. nat_lt spot.turn turn_of_unpurgeable) (spot_in slot) false) (λ slot. option_map_or can_purge (block_in slot) false) slots
      (λ k d inside. slot_kept (block_in (get_or slots k d)) (bounded k d inside))

  -- those with a turn below the limit are the first `count`, or all
  pub first_emptied : (count within : ℕ) → within ≡ min (length turns) count → map (emptied_where (below (limit_of turns within))) slots ≡ slots_after_purges slots count
  first_emptied count within is = elim (cases_lt (length turns) count) [
    | inr le ↦
        let same : within ≡ count = omega (arith, is, le) in
        ap (λ (n : ℕ). map (emptied_where (below (limit_of turns n))) slots) same ∙ emptied_is slots spots turns survey bounded count le
    | inl less ↦
        let same : within ≡ length turns = omega (arith, is, less) in
        let enough : count_purgeable slots ≤ count = omega (arith, less, turns_count) in
        ap (λ (n : ℕ). map (emptied_where (below (limit_of turns n))) slots) same ∙ emptied_is slots spots turns survey bounded (length turns) (omega arith)
        ∙ ap (slots_after_purges slots) turns_count ∙ sym (emptied_past slots count enough)
  ]
