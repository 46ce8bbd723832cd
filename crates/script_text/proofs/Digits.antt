-- Digits read one by one.
use Rattle.std.proofs.Common.{◌≡◌, ℕ, ◌+◌, ◌*◌, ◌^◌, ◌<◌, ◌≤◌, true, List, length, take, get_or, sym, ap, ◌∙◌, arith}
use Rattle.std.specs.List.{list_all}
use Rattle.std.specs.Char.{digit_value}
use Rattle.std.specs.Str.Parse.{digits_value}
use Rattle.std.proofs.Math.Nat.{pow-le-pow_right}
use Rattle.std.proofs.lemmas.Bool.{and_from}
use Rattle.std.proofs.lemmas.Nat.{pow-add}
use Rattle.std.proofs.lemmas.Int.Digits.{digits_value_more}
use Rattle.std.proofs.lemmas.List.Folds.{list_all_more}
use Rattle.loader_machine.specs.laws.Words.{is_hex_digit}

-- the first digits of a word were read, and they write this number
pub record HasRead (word : List ℕ) (i value : ℕ) : Type 0 where
  pub digits : list_all is_hex_digit (take i word) ≡ true
  pub number : value ≡ digits_value 16 (take i word)
  pub small : value < 16 ^ i

-- one more digit fits 32 bits where there were at most seven
pub digits_fit : (word : List ℕ) (i value : ℕ) → HasRead word i value → i < length word → length word ≤ 8 → value * 16 + 16 ≤ 2 ^ 32
digits_fit word i value read more few =
    let seven : i ≤ 7 = omega arith in
    let some : 0 < 16 = omega arith in
    let bound : 16 ^ i ≤ 16 ^ 7 = pow-le-pow_right some seven in
    omega (arith, read.small)

-- the number with one more digit
pub one_more : (word : List ℕ) (i value digit : ℕ) → HasRead word i value → i < length word → is_hex_digit (get_or word i 0) ≡ true
    → digit ≡ digit_value (get_or word i 0) → digit < 16 → HasRead word (i + 1) (value * 16 + digit)
one_more word i value digit read more is same less = record {
  digits = list_all_more is_hex_digit word i 0 more ∙ and_from _ _ read.digits is;
  number = ap (λ (d : ℕ). value * 16 + d) same ∙ ap (λ (n : ℕ). n * 16 + digit_value (get_or word i 0)) read.number ∙ sym (digits_value_more 16 word i more);
  small = let power : 16 ^ (i + 1) ≡ 16 ^ i * 16 = pow-add 16 i 1 in omega (arith, read.small);
}
