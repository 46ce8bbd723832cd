-- The fewest blocks that are purged for a want.
use Rattle.std.proofs.Common.{◌≡◌, inl, inr, ℕ, false, ◌==◌, ◌+◌, ◌-◌, ◌<◌, ◌≤◌, List, length, slice_index, arith, refl, sym, subst, ◌∙◌}
use Rattle.std.specs.List.Sorted.{IsNonDecreasingBy}
use Rattle.std.proofs.lemmas.Bool.{cases_lt}
use Rattle.std.proofs.lemmas.Bool.Decides.{nat_tests}
use Rattle.iigs_meaning.specs.declared.wants.Want.{Want}
use Rattle.iigs_places.specs.declared.spots.BlockSpot.{BlockSpot}
use Rattle.iigs_places.specs.Spots.{FitsAmong, IsLeastAmong, IsFewestAmong, FitsWithNone, limit_of}

pub limit_zero : (turns : List ℕ) → limit_of turns 0 ≡ 0
unfolding limit_of
limit_zero turns = refl

pub limit_more : (turns : List ℕ) (count : ℕ) → 0 < count → limit_of turns count ≡ slice_index turns (count - 1) + 1
unfolding limit_of
limit_more turns count some =
    let other : (count == 0) ≡ false = grind (arith, nat_tests) in
    rw other refl

pub limit_rises : (turns : List ℕ) (i j : ℕ) → IsNonDecreasingBy (λ turn. turn) turns → i ≤ j → j ≤ length turns
    → limit_of turns i ≤ limit_of turns j
limit_rises turns i j rises le inside = elim (cases_lt 0 i) [
  | inl some ↦
      let low : slice_index turns (i - 1) ≤ slice_index turns (j - 1) = rises (i - 1) (j - 1) 0 (omega arith) (omega arith) in
      let first : limit_of turns i ≡ slice_index turns (i - 1) + 1 = limit_more turns i some in
      let second : limit_of turns j ≡ slice_index turns (j - 1) + 1 = limit_more turns j (omega arith) in
      omega arith
  | inr none ↦
      let zero : i ≡ 0 = omega arith in
      rw (zero, limit_zero) (omega arith)
]

module _ (banks : List ℕ) (want : Want) (spots : List BlockSpot) where
  -- where more is purged, what fitted fits
  pub fits_rises : (low high address : ℕ) → low ≤ high → FitsAmong banks want spots low address → FitsAmong banks want spots high address
  fits_rises low high address le fits = record {
    open_ = fits.open_;
    beside = λ k d inside kept. fits.beside k d inside (omega arith);
  }

  pub fits_with_none : (turns : List ℕ) (all : ℕ) → IsNonDecreasingBy (λ turn. turn) turns → all ≡ limit_of turns (length turns)
      → ((address : ℕ) → ¬ FitsAmong banks want spots all address) → FitsWithNone banks want spots turns
  fits_with_none turns all rises is none count within address fits =
      none address (rw is (fits_rises (limit_of turns count) (limit_of turns (length turns)) address
      (limit_rises turns count (length turns) rises within (omega arith)) fits))

  -- the first blocks are none, so turns there are
  pub some_turns : (turns : List ℕ) (all address : ℕ) → all ≡ limit_of turns (length turns) → FitsAmong banks want spots all address
      → ((address : ℕ) → ¬ FitsAmong banks want spots 0 address) → 0 < length turns
  some_turns turns all address is fits none = elim (cases_lt 0 (length turns)) [
    | inl some ↦ some
    | inr le ↦
        let zero : length turns ≡ 0 = omega arith in
        let first : limit_of turns (length turns) ≡ 0 = rw zero (limit_zero turns) in
        absurd (none address (subst (λ (l : ℕ). FitsAmong banks want spots l address) (is ∙ first) fits))
  ]

  -- where the want goes with `count` blocks purged, and fits nowhere with one less, these are the fewest
  pub fewest_here : (turns : List ℕ) (none count limit address : ℕ) → IsNonDecreasingBy (λ turn. turn) turns → limit ≡ limit_of turns count
      → count ≤ length turns → count ≤ none + 1 → none < count → IsLeastAmong banks want spots (limit_of turns count) address
      → ((other : ℕ) → ¬ FitsAmong banks want spots (limit_of turns none) other)
      → IsFewestAmong banks want spots turns (record { limit = limit; at = address })
  fewest_here turns none count limit address rises is within next some least not = record {
    count = count;
    within = within;
    limit = is;
    least = least;
    fewest = λ fewer less other fits. not other (fits_rises (limit_of turns fewer) (limit_of turns none) other
        (limit_rises turns fewer none rises (omega arith) (omega arith)) fits);
  }

  pub fewest_none : (turns : List ℕ) (address : ℕ) → IsLeastAmong banks want spots 0 address
      → IsFewestAmong banks want spots turns (record { limit = 0; at = address })
  fewest_none turns address least = record {
    count = 0;
    within = omega arith;
    limit = sym (limit_zero turns);
    least = rw limit_zero least;
    fewest = λ fewer less. absurd (omega arith);
  }
