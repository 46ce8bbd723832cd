-- Numbers in arguments, digit by digit.
use Rattle.std.proofs.Common.{◌≡◌, ℕ, suc, ◌+◌, ◌-◌, ◌*◌, ◌^◌, ◌<◌, ◌≤◌, Bool, true, false, cond, List, [], ◌∷◌, length, Some, None, refl, ap, ◌∙◌, arith}
use Rattle.omf_making.specs.Steps.{number_in}
use Rattle.std.specs.Prelude.{◌&&◌, nat_le}
use Rattle.std.specs.Char.{digit_value}
use Rattle.std.specs.List.{list_all}
use Rattle.std.specs.Str.Parse.{digits_value, digits_value_after}
use Rattle.std.proofs.Math.Nat.{pow-suc, pow-le-pow_right}
use Rattle.std.proofs.lemmas.Bool.{le-leb, le-ltb, lt-ltb, lt-leb}
use Rattle.orca_meaning.specs.Characters.{is_decimal_digit}

-- the digits of an argument that are left, after those of a number
pub record IsRead (word left : List ℕ) (number : ℕ) : Type 0 where
  pub all : list_all is_decimal_digit word ≡ list_all is_decimal_digit left
  pub value : digits_value_after 10 number left ≡ digits_value 10 word
  pub used : ℕ
  pub count : used + length left ≡ length word
  pub small : number < 10 ^ used

pub read_start : (word : List ℕ) → IsRead word word 0
read_start word = record { all = refl; value = refl; used = 0; count = omega arith; small = omega arith }

digit_is : (digit : ℕ) → 48 ≤ digit → digit ≤ 57 → digit_value digit ≡ digit - 48
digit_is digit low high = rw (le-ltb digit 48 low, lt-ltb digit 58 (omega (arith, high))) refl

is_digit : (digit : ℕ) → 48 ≤ digit → digit ≤ 57 → is_decimal_digit digit ≡ true
is_digit digit low high = rw (le-leb 48 digit low, le-leb digit 57 high) refl

pub read_step : (word rest : List ℕ) (digit number : ℕ) → IsRead word (digit ∷ rest) number → 48 ≤ digit → digit ≤ 57 → IsRead word rest (10 * number + (digit - 48))
read_step word rest digit number read low high = record {
  all = read.all ∙ ap (λ (b : Bool). b && list_all is_decimal_digit rest) (is_digit digit low high);
  value = ap (λ (n : ℕ). digits_value_after 10 n rest) (let same : 10 * number + (digit - 48) ≡ number * 10 + digit_value digit = omega (arith, digit_is digit low high) in same) ∙ read.value;
  used = suc read.used;
  count = omega (arith, read.count);
  small = omega (arith, read.small, low, high, pow-suc 10 read.used);
}

-- a number that goes on has few digits so far
pub read_small : (word rest : List ℕ) (digit number : ℕ) → IsRead word (digit ∷ rest) number → length word ≤ 10 → number < 10 ^ 9
read_small word rest digit number read short =
    omega (arith, read.small, pow-le-pow_right {n = 10} (omega arith) (let few : read.used ≤ 9 = omega (arith, read.count, short) in few))

-- all digits were read
pub read_end : (word : List ℕ) (number : ℕ) → IsRead word [] number → 1 ≤ length word → length word ≤ 10 → Some number ≡ number_in word
read_end word number read some short = rw (le-leb 1 (length word) some, le-leb (length word) 10 short, read.all) (ap Some read.value)

-- a byte that is no digit
low_byte : (digit : ℕ) → digit < 48 → is_decimal_digit digit ≡ false
low_byte digit low = rw (lt-leb 48 digit low) refl

and_false : (b : Bool) → (b && false) ≡ false
and_false true = refl
and_false false = refl

high_byte : (digit : ℕ) → 57 < digit → is_decimal_digit digit ≡ false
high_byte digit high = rw (lt-leb digit 57 high) (and_false (nat_le 48 digit))

no_word : (a b c : Bool) (value : ℕ) → c ≡ false → None ≡ (cond (a && b && c) (Some value) None)
no_word true true c value none = rw none refl
no_word true false c value none = refl
no_word false b c value none = refl

pub read_low : (word rest : List ℕ) (digit number : ℕ) → IsRead word (digit ∷ rest) number → digit < 48 → None ≡ number_in word
read_low word rest digit number read low =
    no_word (nat_le 1 (length word)) (nat_le (length word) 10) (list_all is_decimal_digit word) (digits_value 10 word)
    (read.all ∙ ap (λ (b : Bool). b && list_all is_decimal_digit rest) (low_byte digit low))

pub read_high : (word rest : List ℕ) (digit number : ℕ) → IsRead word (digit ∷ rest) number → 57 < digit → None ≡ number_in word
read_high word rest digit number read high =
    no_word (nat_le 1 (length word)) (nat_le (length word) 10) (list_all is_decimal_digit word) (digits_value 10 word)
    (read.all ∙ ap (λ (b : Bool). b && list_all is_decimal_digit rest) (high_byte digit high))

-- a word without bytes, or with too many
pub read_none : (word : List ℕ) → length word ≡ 0 → None ≡ number_in word
read_none word none = rw (lt-leb 1 (length word) (omega (arith, none))) refl

pub read_long : (word : List ℕ) → 10 < length word → None ≡ number_in word
read_long word long = go (nat_le 1 (length word)) (nat_le (length word) 10) (lt-leb (length word) 10 long)
  where
    go : (a b : Bool) → b ≡ false → None ≡ (cond (a && b && list_all is_decimal_digit word) (Some (digits_value 10 word)) None)
    go true b e = rw e refl
    go false b e = refl
