-- Several blocks placed, all or none.
use Rattle.std.proofs.Common.{◌≡◌, ℕ, suc, true, false, Bool, ◌≤◌, List, [], ◌∷◌, map, All, length, Contains, count_by, refl, sym, ap, subst, ◌∙◌}
use Rattle.std.proofs.lemmas.List.Elements.{All-head, All-tail}
use Rattle.iigs_meaning.specs.declared.handles.Handle.{Handle}
use Rattle.iigs_meaning.specs.declared.wants.Want.{Want}
use Rattle.iigs_meaning.specs.Slots.{is_free}
use Rattle.iigs_meaning.specs.Fits.{Slots, IsWant}
use Rattle.iigs_meaning.specs.Puts.{MakesRoom, Purges, PutsAll, slots_for}
use Rattle.iigs_meaning.specs.Memory.{Memory, KeepsBut, IsThere, AreAllPlaced}
use Rattle.iigs_meaning.specs.Slide.{AreSettled, PurgesOrSlides}
use Rattle.iigs_places.specs.Arranged.{Arrangement}
use Rattle.iigs_compact_memory.specs.Alls.{AreZeros}
use Rattle.iigs_compact_memory.proofs.Settled.{settled_for, settled_puts}
use Rattle.iigs_compact_memory.proofs.Making.{kept_twice}
use Rattle.iigs_compact_memory.proofs.Several.{puts_all_at_once, zeros_get}

-- as many handles as wants
pub as_many : (Makes : MakesRoom) (banks : List ℕ) (user : ℕ) (slots last : Slots) (wants : List Want) (hs : List Handle) → PutsAll Makes banks user slots wants hs last → length hs ≡ length wants
as_many Makes banks user slots last [] [] all = refl
as_many Makes banks user slots last [] (h ∷ hs) all = absurd all
as_many Makes banks user slots last (want ∷ wants) [] all = absurd all
as_many Makes banks user slots last (want ∷ wants) (h ∷ hs) all = ap suc (as_many Makes banks user all.0 last wants hs all.2)

-- the wants of blocks fit where they lie still
settled_all : (banks : List ℕ) (user : ℕ) (slots last : Slots) (wants : List Want) (hs : List Handle) → All IsWant wants → AreSettled banks slots → PutsAll Purges banks user slots wants hs last → AreSettled banks last
settled_all banks user slots last [] [] are settled all = subst (AreSettled banks) (sym all) settled
settled_all banks user slots last [] (h ∷ hs) are settled all = absurd all
settled_all banks user slots last (want ∷ wants) [] are settled all = absurd all
settled_all banks user slots last (want ∷ wants) (h ∷ hs) are settled all = settled_all banks user all.0 last wants hs (All-tail IsWant want wants are)
    (settled_puts banks slots all.0 want user true 0 false h (All-head IsWant want wants are) settled all.1) all.2

-- ---- where purges alone make room

module _ (old new : Memory) (user : ℕ) (fresh : Bool) (wants : List Want) (hs : List Handle) (did : AreAllPlaced Purges old user fresh wants hs new) where
  pub all_at_once : AreAllPlaced PurgesOrSlides old user fresh wants hs new
  all_at_once = record {
    enough = did.enough;
    puts = puts_all_at_once old.banks user (slots_for old.slots user fresh) new.slots wants hs did.puts;
    zeros = did.zeros;
    kept = did.kept;
  }

  pub all_settled : All IsWant wants → AreSettled old.banks old.slots → AreSettled new.banks new.slots
  all_settled are settled = subst (λ (bs : List ℕ). AreSettled bs new.slots) (sym did.kept.banks)
      (settled_all old.banks user (slots_for old.slots user fresh) new.slots wants hs are (settled_for old.banks old.slots user fresh settled) did.puts)

-- ---- where a slide is needed

-- a plan begins with the blocks as they lie
module _ (old : Memory) (plan began : Arrangement) (user : ℕ) (fresh : Bool) (same : plan.banks ≡ old.banks) (starts : began ≡ record plan { slots = slots_for old.slots user fresh }) where
  pub start_settled : AreSettled old.banks old.slots → AreSettled began.banks began.slots
  start_settled settled = subst (λ (bs : List ℕ). AreSettled bs began.slots) (sym (ap (λ (a : Arrangement). a.banks) starts ∙ same))
      (subst (AreSettled old.banks) (sym (ap (λ (a : Arrangement). a.slots) starts)) (settled_for old.banks old.slots user fresh settled))

module _ (old began : Memory) (user : ℕ) (fresh : Bool) (wants : List Want) (slots : began.slots ≡ slots_for old.slots user fresh) (kept : KeepsBut old began []) where
  pub began_settled : AreSettled old.banks old.slots → AreSettled began.banks began.slots
  began_settled settled = subst (λ (bs : List ℕ). AreSettled bs began.slots) (sym kept.banks)
      (subst (AreSettled old.banks) (sym slots) (settled_for old.banks old.slots user fresh settled))

  pub all_after : (new : Memory) (hs : List Handle) → length wants ≤ count_by is_free (slots_for old.slots user fresh) → PutsAll PurgesOrSlides began.banks user began.slots wants hs new.slots
      → AreZeros new wants hs → KeepsBut began new (map (λ h. h.slot) hs)
      → ((place : ℕ) → ¬ Contains (map (λ (h : Handle). h.slot) hs) place → IsThere new place → IsThere began place) → AreAllPlaced PurgesOrSlides old user fresh wants hs new
  all_after new hs enough puts zeros keeps there = record {
    enough = enough;
    puts = subst (λ (s : Slots). PutsAll PurgesOrSlides old.banks user s wants hs new.slots) slots
        (subst (λ (bs : List ℕ). PutsAll PurgesOrSlides bs user began.slots wants hs new.slots) kept.banks puts);
    zeros = λ i want h is at. zeros_get new wants hs zeros i want h is at;
    kept = kept_twice old began new (map (λ (h : Handle). h.slot) hs) kept keeps there;
  }
