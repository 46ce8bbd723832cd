-- The search for the least number of purges.
use Rattle.std.proofs.Common.{◌≡◌, inl, inr, ℕ, false, ◌+◌, ◌<◌, ◌≤◌, List, sym, ap, subst, ◌∙◌, arith}
use Rattle.std.proofs.lemmas.Bool.{cases_lt}
use Rattle.iigs_meaning.specs.declared.wants.Want.{Want}
use Rattle.iigs_meaning.specs.Fits.{Slots, Fits}
use Rattle.iigs_meaning.specs.Placement.{slots_after_purges}
use Rattle.iigs_meaning.specs.Puts.{slots_for}
use Rattle.iigs_meaning.specs.Slide.{Slides, AreSettled}
use Rattle.iigs_meaning.specs.Blocks.{AreApart}
use Rattle.iigs_places.specs.Arranged.{Arrangement}
use Rattle.iigs_places.specs.Fixed.{NeverFits}
use Rattle.iigs_places.specs.Tried.{FitsNowhereSlid}
use Rattle.iigs_compact_memory.specs.Needs.{FitsSlid, NoneAfter, NeedsPurges}
use Rattle.iigs_compact_memory.proofs.Settled.{settled_emptied}
use Rattle.iigs_compact_memory.proofs.Making.{none_once}
use Rattle.iigs_compact_memory.proofs.Still.{none_fewer}

-- one trial: `count` blocks are purged on a copy, which is then slid down
module _ (places start began purged slid : Arrangement) (banks : start.banks ≡ places.banks) (count : ℕ)
    (starts : began ≡ record start { slots = slots_for places.slots 0 false }) (purges : purged ≡ record began { slots = slots_after_purges began.slots count }) where
  pub purged_banks : purged.banks ≡ places.banks
  purged_banks = ap (λ (a : Arrangement). a.banks) purges ∙ ap (λ (a : Arrangement). a.banks) starts ∙ banks

  purged_slots : purged.slots ≡ slots_after_purges places.slots count
  purged_slots = ap (λ (a : Arrangement). a.slots) purges ∙ ap (λ (a : Arrangement). slots_after_purges a.slots count) starts

  pub trial_settled : AreSettled places.banks places.slots → AreSettled purged.banks purged.slots
  trial_settled settled = subst (λ (bs : List ℕ). AreSettled bs purged.slots) (sym purged_banks)
      (subst (AreSettled places.banks) (sym purged_slots) (settled_emptied places.banks places.slots count settled))

  -- where no slide makes room, whatever other blocks are there too
  pub purged_none : (want : Want) → AreApart places.banks places.slots → AreSettled places.banks places.slots → NeverFits purged.banks purged.slots want
      → (fewer : ℕ) → fewer ≤ count → NoneAfter places.banks places.slots want fewer
  purged_none want apart settled never = none_fewer places.banks places.slots want count apart settled
      (subst (λ (s : Slots). NeverFits places.banks s want) purged_slots (subst (λ (bs : List ℕ). NeverFits bs purged.slots want) purged_banks never))

  module _ (slides : Slides purged.banks purged.slots slid.slots) (same : slid.banks ≡ purged.banks) where
    pub trial_banks : slid.banks ≡ places.banks
    trial_banks = same ∙ purged_banks

    trial_slides : Slides places.banks (slots_after_purges places.slots count) slid.slots
    trial_slides = subst (λ (s : Slots). Slides places.banks s slid.slots) purged_slots (subst (λ (bs : List ℕ). Slides bs purged.slots slid.slots) purged_banks slides)

    pub trial_none : (want : Want) → ((address : ℕ) → ¬ Fits slid.banks slid.slots want address) → NoneAfter places.banks places.slots want count
    trial_none want none = none_once places.banks places.slots want count slid.slots trial_slides (subst (λ (bs : List ℕ). (address : ℕ) → ¬ Fits bs slid.slots want address) trial_banks none)

    pub trial_fits : (want : Want) → (address : ℕ) × Fits slid.banks slid.slots want address → FitsSlid places.banks places.slots want count slid.slots
    trial_fits want found = (trial_slides, (found.0, subst (λ (bs : List ℕ). Fits bs slid.slots want found.0) trial_banks found.1))

  -- where a slide that is tried makes no room
  pub tried_none : (want : Want) → FitsNowhereSlid purged.banks purged.slots want → NoneAfter places.banks places.slots want count
  tried_none want nowhere = subst (λ (s : Slots). FitsNowhereSlid places.banks s want) purged_slots (subst (λ (bs : List ℕ). FitsNowhereSlid bs purged.slots want) purged_banks nowhere)

pub needs : (banks : List ℕ) (slots : Slots) (want : Want) (count : ℕ) (room : Slots) → FitsSlid banks slots want count room → ((fewer : ℕ) → fewer < count → NoneAfter banks slots want fewer)
    → NeedsPurges banks slots want count room
needs banks slots want count room fits fewest = record { slides = fits.0; address = fits.1.0; fits = fits.1.1; fewest = fewest }

-- a number less than `count` + 1 is less than `count`, or is `count`
pub none_more : (P : ℕ → Type 0) (count : ℕ) → ((k : ℕ) → k < count → P k) → P count → (k : ℕ) → k < count + 1 → P k
none_more P count none here k less = elim (cases_lt k count) [
  | inl before ↦ none k before
  | inr ge ↦ let same : count ≡ k = omega (arith, less, ge) in subst P same here
]
