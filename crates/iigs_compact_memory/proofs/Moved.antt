-- How many blocks changed their address.
use Rattle.std.proofs.Common.{◌≡◌, ℕ, zero, suc, Bool, false, cond, not, ◌==◌, ◌+◌, ◌<◌, [], ◌∷◌, length, refl, ap, ◌∙◌, arith}
use Rattle.std.specs.Prelude.{slice_set, unwrap_or}
use Rattle.std.specs.List.{zip}
use Rattle.std.proofs.lemmas.List.Sums.{sum_by-cons}
use Rattle.std.proofs.lemmas.Bool.Decides.{nat_tests}
use Rattle.iigs_meaning.specs.declared.slots.Slot.{Slot}
use Rattle.iigs_meaning.specs.declared.wants.Block.{Block}
use Rattle.iigs_meaning.specs.Slots.{slot_at}
use Rattle.iigs_meaning.specs.Fits.{Slots}
use Rattle.iigs_meaning.specs.Blocks.{address_in}
use Rattle.iigs_meaning.specs.Slide.{is_moved, count_moved}

abbrev moved_pair : Slot Block × Slot Block → Bool
moved_pair pair = is_moved pair.0 pair.1

one_more : (x y : Slot Block) (xs ys : Slots) → count_moved (x ∷ xs) (y ∷ ys) ≡ cond (is_moved x y) 1 0 + count_moved xs ys
one_more x y xs ys = sum_by-cons (λ pair. cond (moved_pair pair) 1 0) (x, y) (zip xs ys)

pub unmoved : (slot : Slot Block) → is_moved slot slot ≡ false
unmoved slot = go (unwrap_or (address_in slot) 0)
  where
    go : (n : ℕ) → not (n == n) ≡ false
    go n = grind (arith, nat_tests)

-- one slot more that may be moved
pub count_set : (xs ys : Slots) (p : ℕ) (y : Slot Block) → p < length xs → length xs ≡ length ys → slot_at ys p ≡ slot_at xs p
    → count_moved xs (slice_set ys p y) ≡ count_moved xs ys + cond (is_moved (slot_at xs p) y) 1 0
count_set [] ys p y less len same = absurd (omega (arith, less))
count_set (x ∷ xs) [] p y less len same = absurd (omega (arith, len))
count_set (x ∷ xs) (z ∷ ys) zero y less len same =
    let none : is_moved x z ≡ false = ap (is_moved x) same ∙ unmoved x in
    let zero_more : cond {A = ℕ} (is_moved x z) 1 0 ≡ 0 = rw none refl in
    omega (arith, one_more x y xs ys, one_more x z xs ys, zero_more)
count_set (x ∷ xs) (z ∷ ys) (suc p) y less len same =
    let rest = count_set xs ys p y (omega (arith, less)) (omega (arith, len)) same in
    omega (arith, one_more x z xs (slice_set ys p y), one_more x z xs ys, rest)

pub count_none : (slots : Slots) → count_moved slots slots ≡ 0
count_none [] = refl
count_none (x ∷ xs) =
    let none : cond {A = ℕ} (is_moved x x) 1 0 ≡ 0 = rw (unmoved x) refl in
    omega (arith, one_more x x xs xs, count_none xs, none)
