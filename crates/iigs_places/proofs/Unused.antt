-- Lists whose items from a place on are all the same one, and count for nothing.
use Rattle.std.proofs.Common.{◌≡◌, ℕ, zero, suc, ◌≤◌, List, [], ◌∷◌, take, sum_by, get_or, Option, None, arith, refl, ap, ◌∙◌}
use Rattle.std.specs.List.{filter_map, cons_option}
use Rattle.std.proofs.lemmas.List.Sums.{sum_by-cons}

-- what is gathered from the first ones is all
pub filter_map_front : {X Y : Type 0} (f : X → Option Y) (d : X) → f d ≡ None → (xs : List X) (count : ℕ) → ((k : ℕ) → count ≤ k → get_or xs k d ≡ d)
    → filter_map f (take count xs) ≡ filter_map f xs
filter_map_front f d none [] zero same = refl
filter_map_front f d none [] (suc count) same = refl
filter_map_front f d none (x ∷ xs) zero same =
    let first : f x ≡ None = ap f (same 0 (omega arith)) ∙ none in
    rw first (filter_map_front f d none xs zero (λ k le. same (suc k) (omega arith)))
filter_map_front f d none (x ∷ xs) (suc count) same = ap (cons_option (f x)) (filter_map_front f d none xs count (λ k le. same (suc k) (omega arith)))

-- the sum over the first ones is that over all
pub sum_front : {X : Type 0} (f : X → ℕ) (d : X) → f d ≡ 0 → (xs : List X) (count : ℕ) → ((k : ℕ) → count ≤ k → get_or xs k d ≡ d)
    → sum_by f (take count xs) ≡ sum_by f xs
sum_front f d none [] zero same = refl
sum_front f d none [] (suc count) same = refl
sum_front f d none (x ∷ xs) zero same =
    let first : f x ≡ 0 = ap f (same 0 (omega arith)) ∙ none in
    omega (arith, first, sum_by-cons f x xs, sum_front f d none xs zero (λ k le. same (suc k) (omega arith)))
sum_front f d none (x ∷ xs) (suc count) same =
    omega (arith, sum_by-cons f x xs, sum_by-cons f x (take count xs), sum_front f d none xs count (λ k le. same (suc k) (omega arith)))
