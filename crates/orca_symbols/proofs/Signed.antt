-- Numbers in decimal digits.
use Rattle.std.proofs.Common.{◌≡◌, ℕ, sym, ap, refl, add-one}
use Rattle.std.specs.Prelude.{ℤ, pos, negsuc, ◌∷◌}
use Rattle.std.specs.Fmt as std
use Rattle.macro_meaning.specs.Symbol.{decimal, signed_decimal}

-- a signed number is printed as everywhere
pub same_digits : (z : ℤ) → std.signed_decimal z ≡ signed_decimal z
same_digits (pos n) = refl
same_digits (negsuc n) = ap (λ (m : ℕ). 0x2D ∷ decimal m) (sym (add-one n))
