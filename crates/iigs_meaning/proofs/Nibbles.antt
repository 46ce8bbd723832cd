-- One hexadecimal digit.
use Rattle.std.proofs.Common.{◌≡◌, ℕ, true, ◌<◌, ◌/◌, ◌%◌, [], ◌∷◌, arith, refl}
use Rattle.std.specs.Fmt.{digits, digit_glyph}

-- a number below 16 is written as its digit
pub one_digit : (n : ℕ) → n < 16 → digits 16 true n ≡ digit_glyph true n ∷ []
unfolding digits
one_digit n less =
    let none : n / 16 ≡ 0 = omega arith in
    let same : n % 16 ≡ n = omega arith in
    rw (none, same) refl
