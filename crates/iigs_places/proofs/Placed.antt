-- Fitting among slots and fitting among spots are the same.
use Rattle.std.proofs.Common.{◌≡◌, ◌⊎◌, inl, inr, ℕ, Bool, true, false, cond, ◌+◌, ◌<◌, ◌≤◌, ◌^◌, max, nat_lt, List, [], ◌∷◌, map, All, length, get_or, slice_index, ◌-◌, ◌&&◌, MatchOption, Option, Some, None, IsSomeAnd, arith, refl, sym, ap, ◌∙◌}
use Rattle.std.specs.Option.{option_map, option_map_or, option_and_then, IfSome}
use Rattle.std.proofs.lemmas.Bool.{cases_lt}
use Rattle.std.proofs.lemmas.Bool.Decides.{nat_tests}
use Rattle.std.proofs.lemmas.List.Elements.{All-cons, All-head, All-tail, All-map}
use Rattle.std.proofs.lemmas.List.Sorted.{All-permutation, IsPermutation-sym}
use Rattle.iigs_meaning.specs.declared.slots.Slot.{Slot}
use Rattle.iigs_meaning.specs.declared.slots.SlotContent.{SlotContent}
use Rattle.iigs_meaning.specs.declared.slots.SlotContent.TheVariants.{Free, Used, Retired}
use Rattle.iigs_meaning.specs.declared.wants.Want.{Want}
use Rattle.iigs_meaning.specs.declared.wants.Block.{Block}
use Rattle.iigs_meaning.specs.Free.{bank_of}
use Rattle.iigs_meaning.specs.Fits.{Fits, IsWant, IsApart, HoldsByte, block_in}
use Rattle.iigs_meaning.specs.Placement.{can_purge, is_gone, rank, emptied_where, slots_after_purges, HasNoRoom}
use Rattle.iigs_places.specs.declared.spots.BlockSpot.{BlockSpot}
use Rattle.iigs_places.specs.declared.search.FoundAddress.{FoundAddress}
use Rattle.iigs_places.specs.Open.{IsOpen}
use Rattle.iigs_places.specs.Spots.{turn_of_unpurgeable, turn_of, spot_of, spot_in, spots_of, turn_in, turns_of, limit_of, IsBounded, IsBoundedSlot, IsSurvey, FitsAmong, IsFewestAmong, FitsWithNone, IsBeside, IsFound}
use Rattle.iigs_places.proofs.Gathered.{All-gathered, All-from_gathered}
use Rattle.iigs_places.proofs.Turns.{gone_is, turn_small, turn_never}
use Rattle.iigs_places.proofs.Fewest.{limit_more}
use Rattle.std.proofs.lemmas.Grind.{get_or_default_zero}

map-same : {X Y : Type 0} (f g : X → Y) (xs : List X) → All (λ x. f x ≡ g x) xs → map f xs ≡ map g xs
map-same f g [] all = refl
map-same f g (x ∷ xs) all = ap (λ y. y ∷ map f xs) (All-head (λ x. f x ≡ g x) x xs all)
    ∙ ap (λ ys. g x ∷ ys) (map-same f g xs (All-tail (λ x. f x ≡ g x) x xs all))

All-from_map : {X Y : Type 0} (P : Y → Type 0) (f : X → Y) (xs : List X) → All P (map f xs) → All (λ x. P (f x)) xs
All-from_map P f [] all = λ k d inside. absurd (omega arith)
All-from_map P f (x ∷ xs) all = All-cons (λ x. P (f x)) x xs (All-head P (f x) (map f xs) all) (All-from_map P f xs (All-tail P (f x) (map f xs) all))

-- the test of the blocks that a limit empties
abbrev pub below : ℕ → Block → Bool
below limit block = nat_lt (turn_of block) limit

emptied-same : (test other : Block → Bool) (slot : Slot Block) → IfSome (block_in slot) (λ block. test block ≡ other block)
    → emptied_where test slot ≡ emptied_where other slot
emptied-same test other slot same = go (block_in slot) same
  where
    go : (o : Option Block) → IfSome o (λ block. test block ≡ other block)
        → option_map_or (λ block. cond (test block) (record { generation = slot.generation; content = Used (record block { at = None }) }) slot) o slot
        ≡ option_map_or (λ block. cond (other block) (record { generation = slot.generation; content = Used (record block { at = None }) }) slot) o slot
    go None same = refl
    go (Some block) same = rw same refl

module _ (slots : List (Slot Block)) (spots : List BlockSpot) (turns : List ℕ) (survey : IsSurvey slots spots turns) (bounded : All IsBoundedSlot slots) where
  gone_in : (o : Option Block) (count : ℕ) → count ≤ length turns → IfSome o IsBounded
      → IfSome o (λ block. nat_lt (turn_of block) (limit_of turns count) ≡ is_gone slots count block)
  gone_in None count within one = tt
  gone_in (Some block) count within one = sym (gone_is slots spots turns survey bounded block count one within)

  -- emptying the first `count` is emptying those below the limit
  pub emptied_is : (count : ℕ) → count ≤ length turns
      → map (emptied_where (λ block. nat_lt (turn_of block) (limit_of turns count))) slots ≡ slots_after_purges slots count
  unfolding slots_after_purges
  emptied_is count within = map-same _ _ slots (λ k d inside.
      emptied-same (λ block. nat_lt (turn_of block) (limit_of turns count)) (is_gone slots count) (get_or slots k d)
      (gone_in (block_in (get_or slots k d)) count within (bounded k d inside)))

-- in one slot: what lies in no byte of the block lies beside it, and the other way round
module _ (limit address size : ℕ) (some : 0 < size) where
  apart_beside : (at : ℕ) (block : Block) → 0 < block.want.size → address ≤ address
      → ((i : ℕ) → address ≤ i → i < address + size → ¬ ((at ≤ i) × (i < at + block.want.size)))
      → (address + size ≤ at) ⊎ (at + block.want.size ≤ address)
  apart_beside at block positive le apart = elim (cases_lt at (address + size)) [
    | inr ge ↦ inl ge
    | inl lt ↦ elim (cases_lt address (at + block.want.size)) [
      | inr ge ↦ inr ge
      | inl lt' ↦ absurd (apart (max address at) (omega arith) (omega arith) (omega arith, omega arith))
    ]
  ]

  holds_at : (i at : ℕ) (block : Block) → block.at ≡ Some at → (at ≤ i) × (i < at + block.want.size)
      → IsSomeAnd block.at (λ first. (first ≤ i) × (i < first + block.want.size))
  holds_at i at block there holds = rw there holds

  kept_block : (generation : ℕ) (block : Block) → IsBounded block
      → IsApart address size (emptied_where (below limit) (record { generation = generation; content = Used block }))
      → IfSome (spot_of block) (λ spot. limit ≤ spot.turn → IsBeside address size spot)
  kept_block generation block bounded apart = go block.at refl
    where
      go : (o : Option ℕ) → block.at ≡ o
          → IfSome (option_map (λ at. record { at = at; end = at + block.want.size; turn = turn_of block }) o) (λ (spot : BlockSpot). limit ≤ spot.turn → IsBeside address size spot)
      go None there = tt
      go (Some at) there = λ kept.
          let stays : nat_lt (turn_of block) limit ≡ false = grind (arith, nat_tests) in
          let apart' : IsApart address size (record { generation = generation; content = Used block }) = rw stays at apart in
          apart_beside at block bounded.some (omega arith) (λ i from to holds. apart' i from to (holds_at i at block there holds))

  block_kept : (generation : ℕ) (block : Block) → IfSome (spot_of block) (λ spot. limit ≤ spot.turn → IsBeside address size spot)
      → IsApart address size (emptied_where (below limit) (record { generation = generation; content = Used block }))
  block_kept generation block beside i from to = go (nat_lt (turn_of block) limit) refl
    where
      at_it : (o : Option ℕ) → block.at ≡ o
          → IfSome (option_map (λ at. record { at = at; end = at + block.want.size; turn = turn_of block }) o) (λ (spot : BlockSpot). limit ≤ spot.turn → IsBeside address size spot)
          → limit ≤ turn_of block → IsSomeAnd o (λ first. (first ≤ i) × (i < first + block.want.size)) → ⊥
      at_it None there beside kept holds = absurd holds
      at_it (Some at) there beside kept holds = elim (beside kept) [ inl before ↦ omega (arith, holds.0) | inr after ↦ omega (arith, holds.1) ]

      go : (b : Bool) → nat_lt (turn_of block) limit ≡ b
          → ¬ HoldsByte i (cond b (record { generation = generation; content = Used (record block { at = None }) }) (record { generation = generation; content = Used block }))
      go true is = λ holds. absurd holds
      go false is = λ holds. at_it block.at refl beside (grind (arith, nat_tests)) holds

  kept_beside : (slot : Slot Block) → IsBoundedSlot slot → IsApart address size (emptied_where (below limit) slot)
      → IfSome (spot_in slot) (λ spot. limit ≤ spot.turn → IsBeside address size spot)
  kept_beside slot = go slot.generation slot.content
    where
      go : (generation : ℕ) (content : SlotContent Block) → IsBoundedSlot (record { generation = generation; content = content })
          → IsApart address size (emptied_where (below limit) (record { generation = generation; content = content }))
          → IfSome (spot_in (record { generation = generation; content = content })) (λ spot. limit ≤ spot.turn → IsBeside address size spot)
      go generation Free bounded apart = tt
      go generation Retired bounded apart = tt
      go generation (Used block) bounded apart = kept_block generation block bounded apart

  beside_kept : (slot : Slot Block) → IfSome (spot_in slot) (λ spot. limit ≤ spot.turn → IsBeside address size spot)
      → IsApart address size (emptied_where (below limit) slot)
  beside_kept slot = go slot.generation slot.content
    where
      go : (generation : ℕ) (content : SlotContent Block)
          → IfSome (spot_in (record { generation = generation; content = content })) (λ spot. limit ≤ spot.turn → IsBeside address size spot)
          → IsApart address size (emptied_where (below limit) (record { generation = generation; content = content }))
      go generation Free beside = λ i from to holds. absurd holds
      go generation Retired beside = λ i from to holds. absurd holds
      go generation (Used block) beside = block_kept generation block beside

-- what of fitting doesn't look at blocks
pub fits_open : (banks : List ℕ) (slots : List (Slot Block)) (want : Want) (address : ℕ) → 0 < want.size → Fits banks slots want address → IsOpen banks want address
fits_open banks slots want address some fits = record {
  stands = record { aligned = fits.aligned; fixed = fits.fixed; low = fits.low };
  clear = record {
    allowed = λ i from to. record {
      free = fits.free i from to;
      permitted = record { fixed = bank_at want.bank fits.bank i from to; special = λ no. fits.special no i from to };
    };
    crossing = fits.crossing;
  };
}
  where
    bank_at : (o : Option ℕ) → IfSome o (λ bank. (i : ℕ) → address ≤ i → i < address + want.size → bank_of i ≡ bank)
        → (i : ℕ) → address ≤ i → i < address + want.size → IfSome o (λ fixed. bank_of i ≡ fixed)
    bank_at None all i from to = tt
    bank_at (Some bank) all i from to = all i from to

pub open_fits : (banks : List ℕ) (slots : List (Slot Block)) (want : Want) (address : ℕ) → IsOpen banks want address
    → All (IsApart address want.size) slots → Fits banks slots want address
open_fits banks slots want address open_ apart = record {
  free = λ i from to. (open_.clear.allowed i from to).free;
  apart = apart;
  crossing = open_.clear.crossing;
  aligned = open_.stands.aligned;
  fixed = open_.stands.fixed;
  bank = all_at want.bank (λ i from to. (open_.clear.allowed i from to).permitted.fixed);
  low = open_.stands.low;
  special = λ no i from to. (open_.clear.allowed i from to).permitted.special no;
}
  where
    all_at : (o : Option ℕ) → ((i : ℕ) → address ≤ i → i < address + want.size → IfSome o (λ fixed. bank_of i ≡ fixed))
        → IfSome o (λ bank. (i : ℕ) → address ≤ i → i < address + want.size → bank_of i ≡ bank)
    all_at None one = tt
    all_at (Some bank) one = one

module _ (banks : List ℕ) (want : Want) (is_want : IsWant want) (slots : List (Slot Block)) (spots : List BlockSpot) (turns : List ℕ)
    (survey : IsSurvey slots spots turns) (bounded : All IsBoundedSlot slots) where
  fits_limit_to : (limit address : ℕ) → Fits banks (map (emptied_where (below limit)) slots) want address → FitsAmong banks want spots limit address
  unfolding spots_of
  fits_limit_to limit address fits = record {
    open_ = fits_open banks (map (emptied_where (below limit)) slots) want address is_want.some fits;
    beside = All-permutation (λ spot. limit ≤ spot.turn → IsBeside address want.size spot) (spots_of slots) spots survey.blocks
        (All-gathered spot_in (λ spot. limit ≤ spot.turn → IsBeside address want.size spot) slots
        (λ k d inside. kept_beside limit address want.size is_want.some (get_or slots k d) (bounded k d inside)
        (All-from_map (IsApart address want.size) (emptied_where (below limit)) slots fits.apart k d inside)));
  }

  fits_limit_from : (limit address : ℕ) → FitsAmong banks want spots limit address → Fits banks (map (emptied_where (below limit)) slots) want address
  unfolding spots_of
  fits_limit_from limit address among = open_fits banks (map (emptied_where (below limit)) slots) want address among.open_
      (All-map (IsApart address want.size) (emptied_where (below limit)) slots
      (λ k d inside. beside_kept limit address want.size is_want.some (get_or slots k d)
      (All-from_gathered spot_in (λ spot. limit ≤ spot.turn → IsBeside address want.size spot) slots
      (All-permutation (λ spot. limit ≤ spot.turn → IsBeside address want.size spot) spots (spots_of slots)
      (IsPermutation-sym (spots_of slots) spots survey.blocks) among.beside) k d inside)))

  pub fits_to : (count address : ℕ) → count ≤ length turns → Fits banks (slots_after_purges slots count) want address → FitsAmong banks want spots (limit_of turns count) address
  fits_to count address within fits = fits_limit_to (limit_of turns count) address (rw (emptied_is slots spots turns survey bounded count within) fits)

  pub fits_from : (count address : ℕ) → count ≤ length turns → FitsAmong banks want spots (limit_of turns count) address → Fits banks (slots_after_purges slots count) want address
  fits_from count address within among = rw (← emptied_is slots spots turns survey bounded count within) (fits_limit_from (limit_of turns count) address among)

module _ (limit address size : ℕ) where
  -- a block that isn't purgeable stays, whatever number is purged
  apart_block : (slots : List (Slot Block)) (count generation : ℕ) (block : Block) → IsBounded block
      → IsApart address size (emptied_where (is_gone slots count) (record { generation = generation; content = Used block }))
      → IsApart address size (emptied_where (below turn_of_unpurgeable) (record { generation = generation; content = Used block }))
  unfolding is_gone
  apart_block slots count generation block bounded = go (can_purge block) refl
    where
      go : (b : Bool) → can_purge block ≡ b
          → IsApart address size (emptied_where (λ one. can_purge one && nat_lt (rank slots one) count) (record { generation = generation; content = Used block }))
          → IsApart address size (emptied_where (below turn_of_unpurgeable) (record { generation = generation; content = Used block }))
      go true can apart =
          let goes : nat_lt (turn_of block) turn_of_unpurgeable ≡ true = grind (arith, nat_tests, turn_small block bounded can) in
          rw goes (λ i from to holds. absurd holds)
      go false cannot apart =
          let stays : nat_lt (turn_of block) turn_of_unpurgeable ≡ false = rw (turn_never block cannot) refl in
          let apart' : IsApart address size (record { generation = generation; content = Used block }) = rw cannot at apart in
          rw stays apart'

  apart_never : (slots : List (Slot Block)) (count : ℕ) (slot : Slot Block) → IsBoundedSlot slot
      → IsApart address size (emptied_where (is_gone slots count) slot) → IsApart address size (emptied_where (below turn_of_unpurgeable) slot)
  apart_never slots count slot = go slot.generation slot.content
    where
      go : (generation : ℕ) (content : SlotContent Block) → IsBoundedSlot (record { generation = generation; content = content })
          → IsApart address size (emptied_where (is_gone slots count) (record { generation = generation; content = content }))
          → IsApart address size (emptied_where (below turn_of_unpurgeable) (record { generation = generation; content = content }))
      go generation Free bounded apart = apart
      go generation Retired bounded apart = apart
      go generation (Used block) bounded apart = apart_block slots count generation block bounded apart

module _ (banks : List ℕ) (want : Want) (is_want : IsWant want) (slots : List (Slot Block)) (spots : List BlockSpot) (turns : List ℕ)
    (survey : IsSurvey slots spots turns) (bounded : All IsBoundedSlot slots) where
  all_below : All (λ turn. turn < limit_of turns (length turns)) turns
  all_below k d inside =
      let is : limit_of turns (length turns) ≡ slice_index turns (length turns - 1) + 1 = limit_more turns (length turns) (omega arith) in
      let up : get_or turns k d ≤ get_or turns (length turns - 1) d = survey.rises k (length turns - 1) d (omega arith) (omega arith) in
      let same : get_or turns (length turns - 1) d ≡ slice_index turns (length turns - 1) = get_or_default_zero turns (length turns - 1) d (omega arith) in
      omega arith

  spot_below : All (λ spot. IfSome (turn_in spot) (λ turn. turn < limit_of turns (length turns))) spots
  unfolding turns_of
  spot_below = All-from_gathered turn_in (λ turn. turn < limit_of turns (length turns)) spots
      (All-permutation (λ turn. turn < limit_of turns (length turns)) turns (turns_of spots) (IsPermutation-sym (turns_of spots) turns survey.counted) all_below)

  never_above : (spot : BlockSpot) → IfSome (turn_in spot) (λ turn. turn < limit_of turns (length turns)) → limit_of turns (length turns) ≤ spot.turn → turn_of_unpurgeable ≤ spot.turn
  never_above spot under kept = go (nat_lt spot.turn turn_of_unpurgeable) refl under
    where
      go : (b : Bool) → nat_lt spot.turn turn_of_unpurgeable ≡ b → IfSome (cond b (Some spot.turn) None) (λ turn. turn < limit_of turns (length turns)) → turn_of_unpurgeable ≤ spot.turn
      go true is under = absurd (omega arith)
      go false is under = grind (arith, nat_tests)

  -- where more are purged than may be, nothing more fits
  fits_beyond : (count address : ℕ) → Fits banks (slots_after_purges slots count) want address → FitsAmong banks want spots (limit_of turns (length turns)) address
  unfolding slots_after_purges
  fits_beyond count address fits =
      let among : FitsAmong banks want spots turn_of_unpurgeable address = fits_limit_to banks want is_want slots spots turns survey bounded turn_of_unpurgeable address
      (open_fits banks (map (emptied_where (below turn_of_unpurgeable)) slots) want address (fits_open banks (slots_after_purges slots count) want address is_want.some fits)
      (All-map (IsApart address want.size) (emptied_where (below turn_of_unpurgeable)) slots
      (λ k d inside. apart_never 0 address want.size slots count (get_or slots k d) (bounded k d inside)
      (All-from_map (IsApart address want.size) (emptied_where (is_gone slots count)) slots fits.apart k d inside)))) in
      record {
        open_ = among.open_;
        beside = λ k d inside kept. among.beside k d inside (never_above (get_or spots k d) (spot_below k d inside) kept);
      }

  pub no_room : FitsWithNone banks want spots turns → HasNoRoom banks slots want
  no_room none count address fits = elim (cases_lt (length turns) count) [
    | inl lt ↦ none (length turns) (omega arith) address (fits_beyond count address fits)
    | inr ge ↦ none count ge address (fits_to banks want is_want slots spots turns survey bounded count address ge fits)
  ]

  pub is_found : (found : FoundAddress) → IsFewestAmong banks want spots turns found → IsFound banks slots want found
  is_found found fewest = record {
    count = fewest.count;
    goes = record {
      fits = fits_from banks want is_want slots spots turns survey bounded fewest.count found.at fewest.within fewest.least.fits;
      least = λ other fits. fewest.least.least other (fits_to banks want is_want slots spots turns survey bounded fewest.count other fewest.within fits);
      fewest = λ fewer less other fits. fewest.fewest fewer less other
          (fits_to banks want is_want slots spots turns survey bounded fewer other (under fewer fewest.count (length turns) less fewest.within) fits);
    };
    empties = rw fewest.limit (emptied_is slots spots turns survey bounded fewest.count fewest.within);
  }
    where
      under : (fewer count size : ℕ) → fewer < count → count ≤ size → fewer ≤ size
      under fewer count size less within = omega arith

  pub found_in : (o : Option FoundAddress) → MatchOption o (FitsWithNone banks want spots turns) (IsFewestAmong banks want spots turns)
      → MatchOption o (HasNoRoom banks slots want) (IsFound banks slots want)
  found_in None none = no_room none
  found_in (Some found) fewest = is_found found fewest

  pub ends_small : All (λ spot. spot.end ≤ 2 ^ 24) spots
  unfolding spots_of
  ends_small = All-permutation (λ spot. spot.end ≤ 2 ^ 24) (spots_of slots) spots survey.blocks
      (All-gathered spot_in (λ spot. spot.end ≤ 2 ^ 24) slots (λ k d inside. end_in (block_in (get_or slots k d)) (bounded k d inside)))
    where
      end_at : (o : Option ℕ) (size t : ℕ) → IfSome o (λ at. at + size ≤ 2 ^ 24)
          → IfSome (option_map (λ at. record { at = at; end = at + size; turn = t }) o) (λ (spot : BlockSpot). spot.end ≤ 2 ^ 24)
      end_at None size t ends = tt
      end_at (Some at) size t ends = ends

      end_in : (o : Option Block) → IfSome o IsBounded → IfSome (option_and_then spot_of o) (λ spot. spot.end ≤ 2 ^ 24)
      end_in None one = tt
      end_in (Some block) one = end_at block.at block.want.size (turn_of block) one.ends
