-- Places in lists, and the place at which a list is split by a number.
use Rattle.std.proofs.Common.{◌≡◌, ℕ, zero, suc, ◌<◌, ◌≤◌, true, false, leb, List, [], ◌∷◌, length, get_or, Some, refl, ap, subst, leb-true, arith}
use Rattle.std.specs.Prelude.{slice_get}
use Rattle.std.specs.List.Sorted.{IsPartitionPoint, IsNonDecreasingBy}
use Rattle.std.proofs.lemmas.Bool.{leb-false}
use Rattle.std.proofs.lemmas.Option.{get_or_from_slice_get}
use Rattle.load_content.specs.Content.{IsSplit}

pub within : {A : Type 0} (xs : List A) (k : ℕ) (x : A) → slice_get xs k ≡ Some x → k < length xs
within [] k x e = absurd cc
within (y ∷ xs) zero x e = omega arith
within (y ∷ xs) (suc k) x e = let rest = within xs k x e in omega arith

pub get_there : {A : Type 0} (xs : List A) (k : ℕ) (d : A) → k < length xs → slice_get xs k ≡ Some (get_or xs k d)
get_there [] k d lt = absurd (omega arith)
get_there (x ∷ xs) zero d lt = refl
get_there (x ∷ xs) (suc k) d lt = get_there xs k d (omega arith)

pub split_at : {A : Type 0} (n : A → ℕ) (xs : List A) (most place : ℕ) → IsPartitionPoint (λ x. leb (n x) most ≡ true) (λ x. leb (n x) most ≡ false) xs place → IsSplit n xs most place
split_at n xs most place point = record {
  before = λ i x lt is. leb-true (n x) most (subst (λ y. leb (n y) most ≡ true) (get_or_from_slice_get xs i x x is) (point.0 i x (omega arith) lt));
  following = λ i x le is. leb-false (n x) most (subst (λ y. leb (n y) most ≡ false) (get_or_from_slice_get xs i x x is) (point.1 i x le (within xs i x is)));
}

-- of two items in order, by their places
pub in_order : {A : Type 0} (n : A → ℕ) (xs : List A) (i j : ℕ) (x y : A) → IsNonDecreasingBy n xs → i ≤ j → slice_get xs i ≡ Some x → slice_get xs j ≡ Some y → n x ≤ n y
in_order n xs i j x y rise le at at' =
    let both = rise i j x le (within xs j y at') in
    let a : n (get_or xs i x) ≡ n x = ap n (get_or_from_slice_get xs i x x at) in
    let b : n (get_or xs j x) ≡ n y = ap n (get_or_from_slice_get xs j y x at') in
    omega (arith, both, a, b)
