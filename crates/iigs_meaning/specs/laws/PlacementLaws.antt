-- Laws of placement: room is made by purges in one way at most, and there is none exactly where the want fits nowhere.
use Rattle.std.proofs.Common.{◌≡◌, inl, inr, ℕ, zero, suc, ◌+◌, ◌<◌, ◌≤◌, List, sym, ap, subst, refl, ◌∙◌, arith}
use Rattle.std.proofs.lemmas.Bool.{cases_lt}
use Rattle.iigs_meaning.specs.declared.wants.Want.{Want}
use Rattle.iigs_meaning.specs.Fits.{Slots, Fits}
use Rattle.iigs_meaning.specs.Placement.{slots_after_purges, GoesTo, GoesToOneAddress, HasNoRoom}
use Rattle.iigs_meaning.specs.Puts.{Purges, LacksRoom, IsOnce}

-- no more blocks are purged than for another place
no_more : (banks : List ℕ) (slots : Slots) (want : Want) (count more address other : ℕ) → GoesTo banks slots want count address
    → GoesTo banks slots want more other → more ≤ count
no_more banks slots want count more address other here there = elim (cases_lt count more) [
  | inl less ↦ absurd (there.fewest count less address here.fits)
  | inr le ↦ le
]

pub goes_once : GoesToOneAddress
goes_once banks slots want count other_count address other one two =
    let same : count ≡ other_count = omega (arith, no_more banks slots want count other_count address other one two, no_more banks slots want other_count count other address two one) in
    let here : GoesTo banks slots want other_count address = subst (λ (n : ℕ). GoesTo banks slots want n address) same one in
    (same, omega (arith, here.least other two.fits, two.least address here.fits))

pub purges_once : IsOnce Purges
purges_once = record {
  room = λ banks slots want address other one two p q.
      let same = goes_once banks slots want p.count q.count address other p.goes q.goes in
      (same.1, p.room_is ∙ ap (slots_after_purges slots) same.0 ∙ sym q.room_is);
}

-- a property that no least number has, no number has
pub no_number : (P : ℕ → Type 0) → ((n : ℕ) → P n → ((fewer : ℕ) → fewer < n → ¬ P fewer) → ⊥) → (limit n : ℕ) → n < limit → ¬ P n
no_number P none zero n less here = omega arith
no_number P none (suc limit) n less here = none n here (λ fewer lower. no_number P none limit fewer (omega arith))

module _ (banks : List ℕ) (slots : Slots) (want : Want) where
  -- where there is no room, the want fits nowhere: else it would fit with the fewest blocks purged, at a least address
  pub no_room : LacksRoom Purges banks slots want → HasNoRoom banks slots want
  no_room lacks count address fits = no_number FitsWith none_fewest (count + 1) count (omega arith) (address, fits)
    where
      FitsAt : ℕ → ℕ → Type 0
      FitsAt count address = Fits banks (slots_after_purges slots count) want address

      FitsWith : ℕ → Type 0
      FitsWith count = (address : ℕ) × FitsAt count address

      none_fewest : (count : ℕ) → FitsWith count → ((fewer : ℕ) → fewer < count → ¬ FitsWith fewer) → ⊥
      none_fewest count with_it fewest = no_number (FitsAt count) none_least (with_it.0 + 1) with_it.0 (omega arith) with_it.1
        where
          none_least : (address : ℕ) → FitsAt count address → ((lower : ℕ) → lower < address → ¬ FitsAt count lower) → ⊥
          none_least address fits least = lacks address (slots_after_purges slots count) (record {
            count = count;
            goes = record {
              fits = fits;
              least = λ other there. elim (cases_lt other address) [
                | inl lower ↦ absurd (least other lower there)
                | inr above ↦ above
              ];
              fewest = λ fewer lower other there. fewest fewer lower (other, there);
            };
            room_is = refl;
          })

  pub lacks_room : HasNoRoom banks slots want → LacksRoom Purges banks slots want
  lacks_room none address room made = none made.count address made.goes.fits
