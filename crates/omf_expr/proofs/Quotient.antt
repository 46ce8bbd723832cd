-- The quotient of two numbers of 32 bits fits 32 bits, also -2 ^ 31 divided by -1.
use Rattle.std.proofs.Common.{◌≡◌, ℕ, zero, suc, ◌/◌, ◌^◌, ◌<◌, Fits, w32, ap, ◌∙◌, arith}
use Rattle.std.specs.Prelude.{ℤ, pos, negsuc, neg_ℤ, int_div, FitsSigned}
use Rattle.std.specs.Int.{cast_signed, cast_unsigned}
use Rattle.std.proofs.Math.Nat.{div-le_self}
use Rattle.std.proofs.lemmas.Int.{of_z-to_z}
use Rattle.std.proofs.Math.Facts.{sfits_to_z}

negated_fits : (n : ℕ) → cast_unsigned w32 (neg_ℤ (pos n)) < 2 ^ 32
negated_fits zero = omega arith
negated_fits (suc n) = omega arith

quotient_fits : (z d : ℤ) → FitsSigned w32 z → cast_unsigned w32 (int_div z d) < 2 ^ 32
quotient_fits (pos a) (pos b) fits = let small : a < 2 ^ 31 = fits.sfits in omega (arith, div-le_self a b)
quotient_fits (pos a) (negsuc b) fits = negated_fits (a / suc b)
quotient_fits (negsuc a) (pos b) fits = negated_fits (suc a / b)
quotient_fits (negsuc a) (negsuc b) fits = let small : a < 2 ^ 31 = fits.sfits in omega (arith, div-le_self (suc a) (suc b))

-- what the steps of the code give
pub quotient_is : (a b r : ℕ) (x y q : ℤ) → Fits w32 a → Fits w32 b → x ≡ cast_signed w32 a → y ≡ cast_signed w32 b
    → q ≡ cast_signed w32 (cast_unsigned w32 (int_div (cast_signed w32 (cast_unsigned w32 x)) (cast_signed w32 (cast_unsigned w32 y))))
    → r ≡ cast_unsigned w32 (cast_signed w32 (cast_unsigned w32 q)) → r ≡ cast_unsigned w32 (int_div (cast_signed w32 a) (cast_signed w32 b))
quotient_is a b r x y q fits fits' x-is y-is q-is r-is =
    let z : ℤ = cast_signed w32 a in
    let d : ℤ = cast_signed w32 b in
    let n : ℕ = cast_unsigned w32 (int_div z d) in
    let first : cast_signed w32 (cast_unsigned w32 x) ≡ z = ap (λ (k : ℤ). cast_signed w32 (cast_unsigned w32 k)) x-is ∙ ap (cast_signed w32) (of_z-to_z w32 a fits.fits) in
    let second : cast_signed w32 (cast_unsigned w32 y) ≡ d = ap (λ (k : ℤ). cast_signed w32 (cast_unsigned w32 k)) y-is ∙ ap (cast_signed w32) (of_z-to_z w32 b fits'.fits) in
    let q-is' : q ≡ cast_signed w32 n = q-is ∙ ap (λ (k : ℤ). cast_signed w32 (cast_unsigned w32 (int_div k (cast_signed w32 (cast_unsigned w32 y))))) first ∙ ap (λ (k : ℤ). cast_signed w32 (cast_unsigned w32 (int_div z k))) second in
    let back : cast_unsigned w32 (cast_signed w32 n) ≡ n = of_z-to_z w32 n (quotient_fits z d (sfits_to_z fits)) in
    r-is ∙ ap (λ (k : ℤ). cast_unsigned w32 (cast_signed w32 (cast_unsigned w32 k))) q-is' ∙ ap (λ (k : ℕ). cast_unsigned w32 (cast_signed w32 k)) back ∙ back
