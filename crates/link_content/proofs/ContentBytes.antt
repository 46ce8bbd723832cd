-- The last byte of lists that follow one another.
use Rattle.std.proofs.Common.{◌≡◌, ℕ, suc, ◌-◌, List, [], ◌∷◌, ◌++◌, length, refl, sym, ap, ◌∙◌, append-nil, arith}
use Rattle.std.specs.Prelude.{slice_get}
use Rattle.link_content.specs.Holding.{or_before, last_of}

-- the last byte of two lists
pub last_two : (xs ys : List ℕ) → last_of (xs ++ ys) ≡ or_before (last_of ys) (last_of xs)
last_two xs [] = ap last_of (append-nil xs)
last_two xs (y ∷ ys) = last_of_more xs y ys ∙ sym (some_before xs y ys)
  where
    last_of_more : (xs : List ℕ) (y : ℕ) (ys : List ℕ) → last_of (xs ++ y ∷ ys) ≡ last_of (y ∷ ys)
    last_of_more [] y ys = refl
    last_of_more (x ∷ []) y ys = refl
    last_of_more (x ∷ z ∷ xs) y ys = last_of_more (z ∷ xs) y ys

    some_before : (xs : List ℕ) (y : ℕ) (ys : List ℕ) → or_before (last_of (y ∷ ys)) (last_of xs) ≡ last_of (y ∷ ys)
    some_before xs y [] = refl
    some_before xs y (z ∷ ys) = some_before xs z ys

-- it is where it is read
pub last_got : (bytes : List ℕ) → slice_get bytes (length bytes - 1) ≡ last_of bytes
last_got [] = refl
last_got (b ∷ []) = refl
last_got (b ∷ d ∷ bytes) =
    let place : length (b ∷ d ∷ bytes) - 1 ≡ suc (length (d ∷ bytes) - 1) = omega arith in
    ap (λ (k : ℕ). slice_get (b ∷ d ∷ bytes) k) place ∙ last_got (d ∷ bytes)
