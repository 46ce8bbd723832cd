-- The movable blocks are slid down: a slide is planned, and carried out.
use Rattle.std.proofs.Common.{◌≡◌, ℕ, false, List, [], sym, ap, subst, ◌∙◌}
use Rattle.iigs_meaning.specs.Fits.{Slots}
use Rattle.iigs_meaning.specs.Puts.{slots_for}
use Rattle.iigs_meaning.specs.Memory.{Memory, KeepsBut}
use Rattle.iigs_meaning.specs.Moves.{IsSlid}
use Rattle.iigs_meaning.specs.Slide.{Slides, AreSettled}
use Rattle.iigs_places.specs.Arranged.{Arrangement}
use Rattle.iigs_compact_memory.proofs.Settled.{settled_slides}

module _ (old : Memory) (trial began : Arrangement) (same : trial.banks ≡ old.banks) (starts : began ≡ record trial { slots = slots_for old.slots 0 false }) where
  began_banks : began.banks ≡ old.banks
  began_banks = ap (λ (a : Arrangement). a.banks) starts ∙ same

  began_slots : began.slots ≡ old.slots
  began_slots = ap (λ (a : Arrangement). a.slots) starts

  pub began_settled : AreSettled old.banks old.slots → AreSettled began.banks began.slots
  began_settled settled = subst (λ (bs : List ℕ). AreSettled bs began.slots) (sym began_banks) (subst (AreSettled old.banks) (sym began_slots) settled)

  module _ (slid : Arrangement) (slides : Slides began.banks began.slots slid.slots) (kept : slid.banks ≡ began.banks) where
    pub whole_banks : slid.banks ≡ old.banks
    whole_banks = kept ∙ began_banks

    pub whole_planned : Slides old.banks old.slots slid.slots
    whole_planned = subst (λ (s : Slots). Slides old.banks s slid.slots) began_slots (subst (λ (bs : List ℕ). Slides bs began.slots slid.slots) began_banks slides)

    module _ (new : Memory) (carried : new.slots ≡ slid.slots) (keeps : KeepsBut old new []) where
      pub whole_slides : Slides old.banks old.slots new.slots
      whole_slides = subst (Slides old.banks old.slots) (sym carried) whole_planned

      pub whole_slid : IsSlid old new
      whole_slid = record { slides = whole_slides; kept = keeps }

      pub whole_settled : AreSettled old.banks old.slots → AreSettled new.banks new.slots
      whole_settled settled = subst (λ (bs : List ℕ). AreSettled bs new.slots) (sym keeps.banks) (settled_slides old.banks old.slots new.slots settled whole_slides)
