-- Digits read one by one.
use Rattle.std.proofs.Common.{◌≡◌, ℕ, suc, ◌+◌, ◌*◌, ◌^◌, ◌<◌, ◌≤◌, true, false, ltb, List, [], ◌∷◌, length, drop, take, Some, None, refl, sym, ap, subst, ◌∙◌, arith, eqb}
use Rattle.std.specs.Char.{is_digit, digit_value}
use Rattle.std.specs.List.{prefix_len}
use Rattle.std.specs.Str.Parse.{digits_value, digits_value_after}
use Rattle.std.specs.Prelude.{◌≢◌}
use Rattle.std.proofs.Math.Nat.{mul-le-mul_left}
use Rattle.std.proofs.lemmas.Bool.{le-ltb, ne_eqb}
use Rattle.orca_meaning.specs.Token.{digits_at, seen_as}
use Rattle.orca_text.specs.Kept.{fitting}

abbrev pub count : ℕ → List ℕ → ℕ
count base text = prefix_len (λ byte. is_digit byte base) text

-- the digits that are left, after this number, make the number of all, and precede the same rest
pub record HasDigits (base : ℕ) (text left : List ℕ) (value : ℕ) : Type 0 where
  pub number : digits_value_after base value (take (count base left) left) ≡ digits_value base (take (count base text) text)
  pub rest : drop (count base left) left ≡ drop (count base text) text
  pub some : length left + count base text ≡ length text + count base left
  pub short : length left ≤ length text
  pub fits : value < 2 ^ 32

count-digit : (base byte : ℕ) (following : List ℕ) → is_digit byte base ≡ true → count base (byte ∷ following) ≡ 1 + count base following
count-digit base byte following is = rw is refl

-- more digits make no smaller number
pub after-le : (base n : ℕ) (digits : List ℕ) → 1 ≤ base → n ≤ digits_value_after base n digits
after-le base n [] one = omega arith
after-le base n (c ∷ digits) one =
    let more = after-le base (n * base + digit_value c) digits one in
    let product : n * 1 ≤ n * base = mul-le-mul_left n one in
    omega arith

-- one more digit
digits_on : (base : ℕ) (text : List ℕ) (byte value : ℕ) (following : List ℕ) → HasDigits base text (byte ∷ following) value → is_digit byte base ≡ true
    → value * base + digit_value byte < 2 ^ 32 → HasDigits base text following (value * base + digit_value byte)
digits_on base text byte value following has is fits =
    let one = count-digit base byte following is in
    let number : digits_value_after base value (take (1 + count base following) (byte ∷ following)) ≡ digits_value base (take (count base text) text) =
    rw one at has.number in
    let rest : drop (1 + count base following) (byte ∷ following) ≡ drop (count base text) text = rw one at has.rest in
    let next : 1 + count base following ≡ suc (count base following) = omega arith in
    record { number = rw next at number; rest = rw next at rest; some = omega (arith, one, has.some); short = omega (arith, has.short); fits = fits }

seen_large : (n : ℕ) (rest : List ℕ) → 2 ^ 32 ≤ n → seen_as fitting (Some (n, rest)) ≡ Some (None, rest)
seen_large n rest large = let test : ltb n (2 ^ 32) ≡ false = le-ltb n (2 ^ 32) large in rw test refl

found_digits : (base : ℕ) (text : List ℕ) → count base text ≢ 0 → digits_at base text ≡ Some (digits_value base (take (count base text) text), drop (count base text) text)
unfolding digits_at
found_digits base text some = let test : eqb (count base text) 0 ≡ false = ne_eqb _ _ some in rw test refl

-- a digit that makes the number too large
digits_large : (base : ℕ) (text : List ℕ) (byte value : ℕ) (following rest : List ℕ) → 1 ≤ base → HasDigits base text (byte ∷ following) value → is_digit byte base ≡ true
    → 2 ^ 32 ≤ value * base + digit_value byte → rest ≡ drop (count base following) following → seen_as fitting (digits_at base text) ≡ Some (None, rest)
digits_large base text byte value following rest one has is large are =
    let first = count-digit base byte following is in
    let next : 1 + count base following ≡ suc (count base following) = omega arith in
    let number : digits_value_after base value (take (1 + count base following) (byte ∷ following)) ≡ digits_value base (take (count base text) text) = rw first at has.number in
    let number' : digits_value_after base (value * base + digit_value byte) (take (count base following) following) ≡ digits_value base (take (count base text) text) = rw next at number in
    let following_is : drop (1 + count base following) (byte ∷ following) ≡ drop (count base text) text = rw first at has.rest in
    let following_is' : drop (count base following) following ≡ drop (count base text) text = rw next at following_is in
    let all : 2 ^ 32 ≤ digits_value base (take (count base text) text) = omega (arith, after-le base (value * base + digit_value byte) (take (count base following) following) one, number') in
    let some : count base text ≢ 0 = λ none. absurd (omega (arith, has.some, has.short, first, none)) in
    ap (seen_as fitting) (found_digits base text some) ∙ seen_large _ _ all ∙ ap (λ (r : List ℕ). Some (None, r)) (sym (are ∙ following_is'))

-- the digits that are left after the first byte of what was left
pub digits_step : (base : ℕ) (text left following : List ℕ) (byte value next : ℕ) → HasDigits base text left value → left ≡ byte ∷ following → is_digit byte base ≡ true
    → next ≡ value * base + digit_value byte → next ≤ 4294967295 → HasDigits base text following next
digits_step base text left following byte value next has first is sum small =
    let here : HasDigits base text (byte ∷ following) value = subst (λ (l : List ℕ). HasDigits base text l value) first has in
    subst (HasDigits base text following) (sym sum) (digits_on base text byte value following here is (omega arith))

pub digits_too_large : (base : ℕ) (text left following rest : List ℕ) (byte value next : ℕ) → 1 ≤ base → HasDigits base text left value → left ≡ byte ∷ following → is_digit byte base ≡ true
    → next ≡ value * base + digit_value byte → 4294967295 < next → rest ≡ drop (count base following) following → seen_as fitting (digits_at base text) ≡ Some (None, rest)
digits_too_large base text left following rest byte value next one has first is sum large are =
    let here : HasDigits base text (byte ∷ following) value = subst (λ (l : List ℕ). HasDigits base text l value) first has in
    digits_large base text byte value following rest one here is (omega arith) are
