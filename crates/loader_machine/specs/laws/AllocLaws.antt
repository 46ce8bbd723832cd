-- What a script's `alloc` asks for is a want, and a movable block asks for no place.
use Rattle.std.proofs.Common.{◌≡◌, ◌⊎◌, inl, inr, ℕ, Bool, true, false, cond, Option, Some, None, ◌/◌, ◌≤◌, refl}
use Rattle.std.specs.Prelude.{◌&&◌, not}
use Rattle.omf_format.specs.Header.{has_attribute}
use Rattle.iigs_meaning.specs.Fits.{IsWant}
use Rattle.iigs_meaning.specs.Slide.{AsksNoPlace}
use Rattle.loader_machine.specs.laws.Words.{alloc_want, is_movable}

pub alloc_is_want : (size attributes address : ℕ) → 1 ≤ size → IsWant (alloc_want size attributes address)
alloc_is_want size attributes address some = record { some = some; align = by (has_attribute 0x0004 attributes) }
  where
    IsAlign : ℕ → Type 0
    IsAlign n = (n ≡ 1) ⊎ (n ≡ 0x100) ⊎ (n ≡ 0x10000)

    by : (t : Bool) → IsAlign (cond t 0x100 1)
    by true = inr (inl refl)
    by false = inl refl

pub movable_asks_no_place : (size attributes address : ℕ) → is_movable attributes ≡ true → AsksNoPlace (alloc_want size attributes address)
movable_asks_no_place size attributes address = go (address / 0x10000) (has_attribute 0x4000 attributes) (has_attribute 0x0002 attributes) (has_attribute 0x0001 attributes)
  where
    go : (bank : ℕ) (a b c : Bool) → (not a && not b && not c) ≡ true → (◌≡◌ {A = Option ℕ} (cond b (Some address) None) None) × (◌≡◌ {A = Option ℕ} (cond c (Some bank) None) None) × (◌≡◌ {A = Option ℕ} None None)
    go bank false false false e = (refl, refl, refl)
    go bank true b c e = absurd cc
    go bank false true c e = absurd cc
    go bank false false true e = absurd cc
