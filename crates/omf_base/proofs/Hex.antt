-- The digits of a number in hexadecimal, written from the last one on into eight places.
use Rattle.std.proofs.Common.{◌≡◌, ℕ, zero, suc, ◌+◌, ◌-◌, ◌*◌, ◌/◌, ◌%◌, ◌^◌, ◌<◌, ◌≤◌, true, List, [], ◌∷◌, ◌++◌, length, take, drop, set, min, replicate, refl, sym, ap, ◌∙◌, add-one, arith, length-drop}
use Rattle.std.specs.Fmt.{digits, digits_onto, digit_glyph}
use Rattle.omf_base.specs.Digits.{hexadecimal}
use Rattle.std.proofs.lemmas.List.{take-replicate, drop-set, length-set, take-append-drop, drop-append-le, drop-replicate, length-replicate}
use Rattle.std.proofs.lemmas.Grind.{common_steps}
use Rattle.std.proofs.Math.Nat.{div-lt_iff_lt-mul, pow-suc}

-- a digit that isn't the first: the others are before it
pub digits_more : (fuel n : ℕ) (later : List ℕ) → 16 ≤ n → digits_onto (fuel + 1) 16 true n later ≡ digits_onto fuel 16 true (n / 16) (digit_glyph true (n % 16) ∷ later)
digits_more fuel n later more = rw add-one (grind (arith, common_steps))

-- the first digit
pub digits_last : (fuel n : ℕ) (later : List ℕ) → n < 16 → digits_onto (fuel + 1) 16 true n later ≡ digit_glyph true (n % 16) ∷ later
digits_last fuel n later less = rw add-one (grind (arith, common_steps))

-- the places from this one on hold the last digits of the value, the places before it zeros, and `rest` is the value without the digits
-- after this place
pub record HoldsDigits (value : ℕ) (places : List ℕ) (from rest : ℕ) : Type 0 where
  pub eight : length places ≡ 8
  pub within : from < 8
  pub left : rest < 16 ^ (from + 1)
  pub later : List ℕ
  pub shown : digits 16 true value ≡ digits_onto (57 + from) 16 true rest later
  pub written : drop from places ≡ digit_glyph true (rest % 16) ∷ later
  pub zeros : take from places ≡ replicate from 48

-- the last digit alone
pub first_digit : (value glyph : ℕ) → value < 2 ^ 32 → glyph ≡ digit_glyph true (value % 16) → HoldsDigits value (48 ∷ 48 ∷ 48 ∷ 48 ∷ 48 ∷ 48 ∷ 48 ∷ glyph ∷ []) 7 value
unfolding digits
first_digit value glyph fits is = record {
  eight = refl;
  within = omega arith;
  left = omega arith;
  later = [];
  shown = refl;
  written = ap (λ (g : ℕ). g ∷ []) is;
  zeros = refl;
}

-- more digits are left, so the place isn't the first of the eight
pub not_first : {value : ℕ} {places : List ℕ} {from rest : ℕ} → HoldsDigits value places from rest → 16 ≤ rest → 0 < from
not_first {from = zero} holds more = absurd (let left : _ < 16 = holds.left in omega arith)
not_first {from = suc n} holds more = omega arith

-- one more digit
pub next_digit : {value : ℕ} {places : List ℕ} {from rest : ℕ} (before glyph : ℕ) → from ≡ before + 1 → HoldsDigits value places from rest → 16 ≤ rest → glyph ≡ digit_glyph true (rest / 16 % 16) → HoldsDigits value (set places before glyph) before (rest / 16)
next_digit {value} {places} {from} {rest} before glyph is holds more shows =
    let grown : 16 ^ (from + 1) ≡ 16 ^ (before + 1) * 16 = ap (λ (n : ℕ). 16 ^ (n + 1)) is ∙ ap (λ (n : ℕ). 16 ^ n) (add-one (before + 1)) ∙ pow-suc 16 (before + 1) in
    let fuel : 57 + from ≡ 57 + before + 1 = omega arith in
    let placed = drop-set places before glyph (omega (arith, holds.within, holds.eight)) in
    record {
      eight = length-set places before glyph ∙ holds.eight;
      within = omega (arith, holds.within);
      left = (div-lt_iff_lt-mul {k = 16} (omega arith)).1 (omega (arith, holds.left, grown));
      later = drop from places;
      shown = holds.shown ∙ ap (λ (n : ℕ). digits_onto n 16 true rest holds.later) fuel ∙ digits_more (57 + before) rest holds.later more
          ∙ ap (digits_onto (57 + before) 16 true (rest / 16)) (sym holds.written);
      written = placed ∙ ap (λ (g : ℕ). g ∷ drop (before + 1) places) shows ∙ ap (λ (n : ℕ). digit_glyph true (rest / 16 % 16) ∷ drop n places) (sym is);
      zeros = grind (arith, common_steps, take-replicate);
    }

-- the digits are all there
pub all_digits : {value : ℕ} {places : List ℕ} {from rest : ℕ} → HoldsDigits value places from rest → rest < 16 → drop from places ≡ digits 16 true value
all_digits {value} {places} {from} {rest} holds less =
    let fuel : 57 + from ≡ 56 + from + 1 = omega arith in
    holds.written ∙ sym (holds.shown ∙ ap (λ (n : ℕ). digits_onto n 16 true rest holds.later) fuel ∙ digits_last (56 + from) rest holds.later less)

-- from the place where the zeros that are wanted begin, the places are those zeros and then what is printed
padded-places : (places printed : List ℕ) (from first wanted : ℕ) → length places ≡ 8 → drop from places ≡ printed → take from places ≡ replicate from 48 → first ≡ min from (8 - wanted) → from < 8 → wanted ≤ 8 → drop first places ≡ replicate (wanted - length printed) 48 ++ printed
padded-places places printed from first wanted eight shown zeros is within most =
    let whole : places ≡ replicate {A = ℕ} from 48 ++ printed = sym (take-append-drop from places) ∙ ap (λ (front : List ℕ). front ++ drop from places) zeros ∙ ap (λ (back : List ℕ). replicate from 48 ++ back) shown in
    let used : from + length printed ≡ 8 = omega (arith, ap length shown, length-drop from places) in
    let count : from - first ≡ wanted - length printed = omega arith in
    let reach : first ≤ length (replicate {A = ℕ} from 48) = rw length-replicate (omega arith) in
    ap (drop first) whole ∙ drop-append-le first (replicate from 48) printed reach
    ∙ ap (λ (front : List ℕ). front ++ printed) (drop-replicate first from 48) ∙ ap (λ (n : ℕ). replicate n 48 ++ printed) count

-- the same for the digits of a number: it is printed with that many digits at least
pub hexadecimal-places : (places : List ℕ) (from first wanted value : ℕ) → length places ≡ 8 → drop from places ≡ digits 16 true value → take from places ≡ replicate from 48 → first ≡ min from (8 - wanted) → from < 8 → wanted ≤ 8 → drop first places ≡ hexadecimal wanted value
unfolding hexadecimal
hexadecimal-places places from first wanted value eight shown zeros is within most = padded-places places (digits 16 true value) from first wanted eight shown zeros is within most
