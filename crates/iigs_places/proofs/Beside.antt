-- When a place lies beside all blocks.
use Rattle.std.proofs.Common.{◌≡◌, inl, inr, ℕ, ◌+◌, ◌<◌, ◌≤◌, List, length, get_or, arith}
use Rattle.std.specs.List.Sorted.{IsNonDecreasingBy}
use Rattle.std.proofs.lemmas.Bool.{cases_lt}
use Rattle.iigs_meaning.specs.declared.wants.Want.{Want}
use Rattle.iigs_places.specs.declared.spots.BlockSpot.{BlockSpot}
use Rattle.iigs_places.specs.Open.{IsNextOpen}
use Rattle.iigs_places.specs.Spots.{FitsAmong, IsLeastAmong, IsBeside, IsPast, HasNoPlace}

past_beside : (limit address size : ℕ) (spot : BlockSpot) → IsPast limit address spot → limit ≤ spot.turn → IsBeside address size spot
past_beside limit address size spot (inl gone) kept = absurd (omega arith)
past_beside limit address size spot (inr ended) kept = inr ended

pub past_later : (limit address later : ℕ) (spot : BlockSpot) → address ≤ later → IsPast limit address spot → IsPast limit later spot
past_later limit address later spot le (inl gone) = inl gone
past_later limit address later spot le (inr ended) = inr (omega arith)

-- one block more is past
pub past_next : (spots : List BlockSpot) (limit end later first place : ℕ) → end ≤ later
    → ((k : ℕ) (d : BlockSpot) → first ≤ k → k < place → IsPast limit end (get_or spots k d))
    → ((d : BlockSpot) → IsPast limit later (get_or spots place d))
    → (k : ℕ) (d : BlockSpot) → first ≤ k → k < place + 1 → IsPast limit later (get_or spots k d)
past_next spots limit end later first place le past here k d from to = elim (cases_lt k place) [
  | inl lt ↦ past_later limit end later (get_or spots k d) le (past k d from lt)
  | inr ge ↦ let same : k ≡ place = omega arith in rw same (here d)
]

-- and the first one
pub past_first : (spots : List BlockSpot) (limit end first : ℕ) → ((d : BlockSpot) → (get_or spots first d).end ≤ end)
    → (k : ℕ) (d : BlockSpot) → first ≤ k → k < first + 1 → IsPast limit end (get_or spots k d)
past_first spots limit end first ends k d from to = let same : k ≡ first = omega arith in rw same (inr (ends d))

-- bytes that share one with a block that counts
pub none_beside : (spots : List BlockSpot) (limit size address place : ℕ) (d : BlockSpot) → place < length spots → limit ≤ (get_or spots place d).turn
    → (get_or spots place d).at < address + size → address < (get_or spots place d).end → HasNoPlace spots limit size address
none_beside spots limit size address place d inside kept begins ends beside = elim (beside place d inside kept) [
  | inl before ↦ absurd (omega (arith, before))
  | inr following ↦ absurd (omega (arith, following))
]

module _ (banks : List ℕ) (want : Want) (spots : List BlockSpot) (limit from index place next : ℕ) where
  -- up to the end of the blocks there the want fits nowhere
  pub none_before : (end : ℕ) (d : BlockSpot) → ((other : ℕ) → other < from → ¬ FitsAmong banks want spots limit other)
      → IsNextOpen banks want from place
      → next < length spots → limit ≤ (get_or spots next d).turn → (get_or spots next d).at < place + want.size
      → ((other : ℕ) → (get_or spots next d).end ≤ other → other < end → HasNoPlace spots limit want.size other)
      → (other : ℕ) → other < end → ¬ FitsAmong banks want spots limit other
  none_before end d before open_ inside kept begins full other lt fits = elim (cases_lt other from) [
    | inl lt' ↦ before other lt' fits
    | inr ge ↦ elim (cases_lt other place) [
      | inl lt' ↦ open_.first other ge lt' fits.open_
      | inr ge' ↦ elim (cases_lt other (get_or spots next d).end) [
        | inl lt' ↦ none_beside spots limit want.size other next d inside kept (omega (arith, begins, ge')) lt' fits.beside
        | inr ge'' ↦ full other ge'' lt fits.beside
      ]
    ]
  ]

  -- blocks that are past here are past there too, and so are those of a run
  pub past_there : (end last : ℕ) → from ≤ place → place ≤ end
      → ((k : ℕ) (d : BlockSpot) → k < index → IsPast limit from (get_or spots k d))
      → ((k : ℕ) (d : BlockSpot) → index ≤ k → k < next → IsPast limit place (get_or spots k d))
      → ((k : ℕ) (d : BlockSpot) → next ≤ k → k < last → IsPast limit end (get_or spots k d))
      → (k : ℕ) (d : BlockSpot) → k < last → IsPast limit end (get_or spots k d)
  past_there end last le le' past passed run k d lt = elim (cases_lt k index) [
    | inl before ↦ past_later limit from end (get_or spots k d) (omega arith) (past k d before)
    | inr ge ↦ elim (cases_lt k next) [
      | inl before ↦ past_later limit place end (get_or spots k d) le' (passed k d ge before)
      | inr following ↦ run k d following lt
    ]
  ]

  -- the first place where the want is open lies beside all blocks, if the next block that counts begins after it
  pub least_before : IsNonDecreasingBy (λ spot. spot.at) spots
      → ((other : ℕ) → other < from → ¬ FitsAmong banks want spots limit other)
      → ((k : ℕ) (d : BlockSpot) → k < index → IsPast limit from (get_or spots k d))
      → IsNextOpen banks want from place
      → ((k : ℕ) (d : BlockSpot) → index ≤ k → k < next → IsPast limit place (get_or spots k d))
      → ((d : BlockSpot) → next < length spots → place + want.size ≤ (get_or spots next d).at)
      → IsLeastAmong banks want spots limit place
  least_before order before past open_ passed beyond = record {
    fits = record {
      open_ = open_.open_;
      beside = λ k d inside kept. elim (cases_lt k index) [
        | inl lt ↦ past_beside limit place want.size (get_or spots k d) (past_later limit from place (get_or spots k d) open_.after (past k d lt)) kept
        | inr ge ↦ elim (cases_lt k next) [
          | inl lt ↦ past_beside limit place want.size (get_or spots k d) (passed k d ge lt) kept
          | inr ge' ↦
              let at : place + want.size ≤ (get_or spots next d).at = beyond d (omega arith) in
              let rises : (get_or spots next d).at ≤ (get_or spots k d).at = order next k d ge' inside in
              inl (omega arith)
        ]
      ];
    };
    least = λ other fits. elim (cases_lt other place) [
      | inr ge ↦ ge
      | inl lt ↦ elim (cases_lt other from) [
        | inl lt' ↦ absurd (before other lt' fits)
        | inr ge ↦ absurd (open_.first other ge lt fits.open_)
      ]
    ];
  }
