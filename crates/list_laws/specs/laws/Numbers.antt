-- Numbers and names as they are written, and how they are read again.
use Rattle.std.proofs.Common.{◌≡◌, ℕ, zero, suc, ◌-◌, ◌^◌, ◌<◌, true, false, cond, eqb, List, [], ◌∷◌, ◌++◌, length, take, drop, Some, None, refl, sym, ap, ◌∙◌, arith}
use Rattle.std.specs.Prelude.{replicate}
use Rattle.std.specs.List.{prefix_len}
use Rattle.std.specs.Char.{is_digit, digit_value}
use Rattle.std.specs.Fmt.{digits}
use Rattle.std.specs.Str.Parse.{digits_value, AllDigits, IsNumeral}
use Rattle.std.proofs.lemmas.Fmt.{digits_is_IsNumeral}
use Rattle.std.proofs.lemmas.Bool.{lt-ltb, ne_eqb}
use Rattle.std.proofs.lemmas.List.{drop_at, take_at}
use Rattle.omf_base.specs.Digits.{hexadecimal}
use Rattle.omf_format.specs.Expression as expression
use Rattle.list_meaning.specs.Listed.{number_text}
use Rattle.omf_format.specs.Expression.{Leaf}
use Rattle.orca_meaning.specs.declared.operators.Operands.TheVariants.{Labels}
use Rattle.orca_meaning.specs.Token as tokens
use Rattle.orca_meaning.specs.Token.{Number, Value, Found, digits_at, number_at, operand_at, operand_token_at, operator_at, token_at}
use Rattle.orca_meaning.specs.Formula.{Single, MeansAt}

-- the start is no hexadecimal digit
abbrev pub HasNoDigit : List ℕ → Type 0
HasNoDigit [] = Unit {0}
HasNoDigit (byte ∷ rest) = is_digit byte 16 ≡ false

zeros_before : (k : ℕ) (ds : List ℕ) → IsNumeral 16 ds → IsNumeral 16 (replicate k 48 ++ ds) × (digits_value 16 (replicate k 48 ++ ds) ≡ digits_value 16 ds)
zeros_before zero ds is = (is, refl)
zeros_before (suc k) ds is =
    let more = zeros_before k ds is in
    ((omega arith, (omega arith, more.0.1)), more.1)

pub hexadecimal_is : (places n : ℕ) → n < 2 ^ 32 → IsNumeral 16 (hexadecimal places n) × (digits_value 16 (hexadecimal places n) ≡ n)
unfolding hexadecimal
hexadecimal_is places n fits =
    let shown = digits_is_IsNumeral 16 true (omega arith) (omega arith) n (omega (arith, fits)) in
    let padded = zeros_before (places - length (digits 16 true n)) (digits 16 true n) shown.0 in
    (padded.0, padded.1 ∙ shown.1)

all_of : (ds rest : List ℕ) → AllDigits 16 ds → HasNoDigit rest → prefix_len (λ byte. is_digit byte 16) (ds ++ rest) ≡ length ds
all_of [] [] are none = refl
all_of [] (byte ∷ rest) are none = rw none refl
all_of (d ∷ ds) rest are none = rw (lt-ltb (digit_value d) 16 are.0) (omega (arith, all_of ds rest are.1 none))

digits_found : (ds rest : List ℕ) → IsNumeral 16 ds → HasNoDigit rest → digits_at 16 (ds ++ rest) ≡ Some (digits_value 16 ds, rest)
unfolding digits_at
digits_found [] rest is none = absurd (omega (arith, is.0))
digits_found (d ∷ ds) rest is none = by (prefix_len (λ byte. is_digit byte 16) ((d ∷ ds) ++ rest)) (all_of (d ∷ ds) rest is.1 none)
  where
    by : (n : ℕ) → n ≡ length (d ∷ ds) → cond {A = Found ℕ} (eqb n 0) None (Some (digits_value 16 (take n ((d ∷ ds) ++ rest)), drop n ((d ∷ ds) ++ rest))) ≡ Some (digits_value 16 (d ∷ ds), rest)
    by n same =
        let some : eqb n 0 ≡ false = ne_eqb n 0 (λ e. omega (arith, e, same)) in
        rw some (ap (λ (x : List ℕ). Some (digits_value 16 x, drop n ((d ∷ ds) ++ rest))) (take_at (d ∷ ds) rest n (sym same))
        ∙ ap (λ (x : List ℕ). Some (digits_value 16 (d ∷ ds), x)) (drop_at (d ∷ ds) rest n (sym same)))

pub number_read : (places n : ℕ) (rest : List ℕ) → n < 2 ^ 32 → HasNoDigit rest → number_at (number_text places n ++ rest) ≡ Some (n, rest)
unfolding number_at
number_read places n rest fits none =
    let is = hexadecimal_is places n fits in
    digits_found (hexadecimal places n) rest is.0 none ∙ ap (λ (k : ℕ). Some (k, rest)) is.1

pub number_token : (places n : ℕ) (rest : List ℕ) → n < 2 ^ 32 → HasNoDigit rest → token_at Labels true (number_text places n ++ rest) ≡ Some (Value (Number n), rest)
unfolding operand_token_at operand_at tokens.byte_at tokens.sign_at tokens.spelled_at
number_token places n rest fits none = rw (number_read places n rest fits none) refl

-- a number alone is a formula
pub number_means : (places n : ℕ) (rest : List ℕ) → n < 2 ^ 32 → HasNoDigit rest → operator_at rest ≡ None → MeansAt Labels (number_text places n ++ rest) (Leaf (expression.Constant n)) rest
number_means places n rest fits none ends = record {
  formula = Single (Number n);
  stands = record { formed = tt; spelled = (rest, number_token places n rest fits none, refl); ends = ends };
  means = refl;
}
