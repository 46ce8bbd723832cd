-- Digits that are packed into bytes.
use Rattle.std.proofs.Common.{◌≡◌, ◌≢◌, ℕ, zero, suc, ◌+◌, ◌-◌, ◌*◌, ◌/◌, ◌^◌, ◌<◌, ◌≤◌, Bool, true, false, eqb, List, [], ◌∷◌, ◌++◌, length, take, drop, None, inl, inr, refl, sym, ap, subst, ◌∙◌, append_assoc, append-nil, arith}
use Rattle.std.specs.Prelude.{◌&&◌, replicate, ◌⊎◌}
use Rattle.std.specs.Char.{is_digit, digit_value}
use Rattle.std.specs.Str.Parse.{digits_value, digits_value_after, AllDigits}
use Rattle.std.proofs.Math.Nat.{mul-le-mul_left}
use Rattle.std.proofs.lemmas.Bool.{ltb-true, and_parts}
use Rattle.orca_operands.proofs.Quoted.{neq-eqb}
use Rattle.std.proofs.lemmas.Int.Digits.{digits_value-lt}
use Rattle.std.proofs.lemmas.List.{take-replicate, length-take, length-append, length-drop}
use Rattle.std.proofs.lemmas.List.Folds.{list_all-append}
use Rattle.asm_meaning.specs.Elements.{bytes_of_group_digits, packed_digits}
use Rattle.asm_meaning.specs.laws.Steps.{without_spaces}
use Rattle.orca_operands.specs.DigitsView.{are_digits, groups}

-- ---- padding

abbrev zeros : ℕ → List ℕ
zeros n = replicate n 0x30

pad : (k m : ℕ) (l : List ℕ) → k ≤ m → take k (l ++ zeros m) ≡ take k (l ++ zeros k)
pad k m [] less = take-replicate k m 0x30 less ∙ sym (take-replicate k k 0x30 (omega arith))
pad zero m (x ∷ l) less = refl
pad (suc k) m (x ∷ l) less =
    ap (λ (r : List ℕ). x ∷ r) (pad k m l (omega (arith, less)) ∙ sym (pad k (suc k) l (omega arith)))

-- ---- one byte

-- a given number of digits are missing of a byte
pub record GroupLeft (base each : ℕ) (digits left : List ℕ) (value count : ℕ) : Type 0 where
  pub number : digits_value_after base value (take count (left ++ zeros count)) ≡ digits_value base (take each (digits ++ zeros each))
  pub rest : drop count left ≡ drop each digits
  pub fine : are_digits base left ≡ true

pub group_more : (base each : ℕ) (digits left following : List ℕ) (byte value count k more : ℕ) → count ≡ k + 1 → left ≡ byte ∷ following → more ≡ digit_value byte → GroupLeft base each digits left value count
    → GroupLeft base each digits following (value * base + more) k
group_more base each digits left following byte value count k more is parts more_is g =
    let next : count ≡ suc k = omega (arith, is) in
    let g' = subst (λ (l : List ℕ). GroupLeft base each digits l value (suc k)) parts (subst (λ (n : ℕ). GroupLeft base each digits left value n) next g) in
    subst (λ (d : ℕ). GroupLeft base each digits following (value * base + d) k) (sym more_is) (record {
      number = ap (digits_value_after base (value * base + digit_value byte)) (sym (pad k (suc k) following (omega arith))) ∙ g'.number;
      rest = g'.rest;
      fine = (and_parts (is_digit byte base) (are_digits base following) g'.fine).1;
    })

after-le : (base n : ℕ) (digits : List ℕ) → 1 ≤ base → n ≤ digits_value_after base n digits
after-le base n [] one = omega arith
after-le base n (c ∷ digits) one =
    let more = after-le base (n * base + digit_value c) digits one in
    let product : n * 1 ≤ n * base = mul-le-mul_left n one in
    omega arith

all_digits : (base : ℕ) (l : List ℕ) → are_digits base l ≡ true → AllDigits base l
all_digits base [] is = tt
all_digits base (c ∷ l) is = let parts = and_parts (is_digit c base) (are_digits base l) is in (ltb-true (digit_value c) base parts.0, all_digits base l parts.1)

all_append : (base : ℕ) (a b : List ℕ) → AllDigits base a → AllDigits base b → AllDigits base (a ++ b)
all_append base [] b p q = q
all_append base (c ∷ a) b p q = (p.0, all_append base a b p.1 q)

all_take : (base k : ℕ) (l : List ℕ) → AllDigits base l → AllDigits base (take k l)
all_take base zero l p = tt
all_take base (suc k) [] p = tt
all_take base (suc k) (c ∷ l) p = (p.0, all_take base k l p.1)

all_zeros : (base n : ℕ) → 1 ≤ base → AllDigits base (zeros n)
all_zeros base zero one = tt
all_zeros base (suc n) one = (one, all_zeros base n one)

length-zeros : (n : ℕ) → length (zeros n) ≡ n
length-zeros zero = refl
length-zeros (suc n) = omega (arith, length-zeros n)

-- a byte is below 256, and so is what was read of it
total_small : (base each : ℕ) (digits : List ℕ) → 2 ≤ base → base ^ each ≡ 256 → are_digits base digits ≡ true → digits_value base (take each (digits ++ zeros each)) < 256
total_small base each digits two whole fine =
    let l = take each (digits ++ zeros each) in
    let all : AllDigits base l = all_take base each (digits ++ zeros each) (all_append base digits (zeros each) (all_digits base digits fine) (all_zeros base each (omega (arith, two)))) in
    let padded : length (zeros each) ≡ each = length-zeros each in
    let size : length l ≡ each = omega (arith, length-take each (digits ++ zeros each), length-append digits (zeros each), padded) in
    subst (λ (n : ℕ). digits_value base l < n) (ap (λ (n : ℕ). base ^ n) size ∙ whole) (digits_value-lt base l all)

pub value_small : (base each : ℕ) (digits left : List ℕ) (value count : ℕ) → 2 ≤ base → base ^ each ≡ 256 → are_digits base digits ≡ true → GroupLeft base each digits left value count → value < 256
value_small base each digits left value count two whole fine g =
    omega (arith, after-le base value (take count (left ++ zeros count)) (omega (arith, two)), g.number, total_small base each digits two whole fine)

pub product_small : (base each : ℕ) (digits left : List ℕ) (value count : ℕ) → (2 ≤ base) × (base ≤ 36) → base ^ each ≡ 256 → are_digits base digits ≡ true → GroupLeft base each digits left value count
    → value * base ≤ 9180
product_small base each digits left value count range whole fine g =
    let small = value_small base each digits left value count range.0 whole fine g in
    let most : value * base ≤ value * 36 = mul-le-mul_left value range.1 in
    omega (arith, small, most)

-- ---- all bytes

groups_by : (each n : ℕ) → (each ≡ 2) ⊎ (each ≡ 8) → 1 ≤ n → (n + (each - 1)) / each ≡ suc ((n - each + (each - 1)) / each)
groups_by each n (inl is) some = subst (λ (e : ℕ). (n + (e - 1)) / e ≡ suc ((n - e + (e - 1)) / e)) (sym is) (by_two n some)
  where
    by_two : (n : ℕ) → 1 ≤ n → (n + (2 - 1)) / 2 ≡ suc ((n - 2 + (2 - 1)) / 2)
    by_two n some = omega arith
groups_by each n (inr is) some = subst (λ (e : ℕ). (n + (e - 1)) / e ≡ suc ((n - e + (e - 1)) / e)) (sym is) (by_eight n some)
  where
    by_eight : (n : ℕ) → 1 ≤ n → (n + (8 - 1)) / 8 ≡ suc ((n - 8 + (8 - 1)) / 8)
    by_eight n some = omega arith

groups_more : (each : ℕ) (left : List ℕ) → (each ≡ 2) ⊎ (each ≡ 8) → 1 ≤ length left → groups each left ≡ suc (groups each (drop each left))
groups_more each left is some =
    groups_by each (length left) is some ∙ ap (λ (n : ℕ). suc ((n + (each - 1)) / each)) (sym (length-drop each left))

digits_drop : (base k : ℕ) (l : List ℕ) → are_digits base l ≡ true → are_digits base (drop k l) ≡ true
digits_drop base zero l is = is
digits_drop base (suc k) [] is = refl
digits_drop base (suc k) (c ∷ l) is = digits_drop base k l (and_parts (is_digit c base) (are_digits base l) is).1

-- these bytes were packed, and these digits are left
pub record PackedLeft (base each : ℕ) (digits out left : List ℕ) : Type 0 where
  pub text : out ++ bytes_of_group_digits base each (groups each left) left ≡ bytes_of_group_digits base each (groups each digits) digits
  pub fine : are_digits base left ≡ true

one_more : (base each n : ℕ) (l : List ℕ) → bytes_of_group_digits base each (suc n) l ≡ digits_value base (take each (l ++ zeros each)) ∷ bytes_of_group_digits base each n (drop each l)
unfolding bytes_of_group_digits
one_more base each n l = refl

pub packed_more : (base each : ℕ) (digits out new left rest : List ℕ) (byte : ℕ) → (each ≡ 2) ⊎ (each ≡ 8) → PackedLeft base each digits out left → 1 ≤ length left
    → byte ≡ digits_value base (take each (left ++ zeros each)) → rest ≡ drop each left → new ≡ out ++ byte ∷ [] → PackedLeft base each digits new rest
packed_more base each digits out new left rest byte each_is p some byte_is rest_is push =
    subst (λ (r : List ℕ). PackedLeft base each digits new r) (sym rest_is) (record {
      text =
          ap (λ (o : List ℕ). o ++ more) push ∙ append_assoc out (byte ∷ []) more ∙ ap (λ (b : ℕ). out ++ b ∷ more) byte_is
          ∙ ap (λ (l : List ℕ). out ++ l) (sym (ap (λ (n : ℕ). bytes_of_group_digits base each n left) (groups_more each left each_is some) ∙ one_more base each (groups each (drop each left)) left)) ∙ p.text;
      fine = digits_drop base each left p.fine;
    })
  where
    more : List ℕ
    more = bytes_of_group_digits base each (groups each (drop each left)) (drop each left)

-- ---- digits with spaces between them

-- these digits were found, and this text is left
pub record FoundLeft (base : ℕ) (text out left : List ℕ) : Type 0 where
  pub same : out ++ without_spaces left ≡ without_spaces text
  pub fine : are_digits base out ≡ true

kept : (byte : ℕ) (following : List ℕ) → byte ≢ 0x20 → without_spaces (byte ∷ following) ≡ byte ∷ without_spaces following
kept byte following other = let is : eqb byte 0x20 ≡ false = neq-eqb byte 0x20 other in rw is refl

found_none : (base each : ℕ) (l : List ℕ) → are_digits base l ≡ false → packed_digits base each l ≡ None
found_none base each [] is = absurd cc
found_none base each (c ∷ l) is = rw is refl

pub found_other : (base : ℕ) (text out left following : List ℕ) (byte : ℕ) → FoundLeft base text out left → left ≡ byte ∷ following → byte ≢ 0x20 → is_digit byte base ≡ false
    → (each : ℕ) → packed_digits base each (without_spaces text) ≡ None
found_other base text out left following byte f parts other is each =
    found_none base each (without_spaces text) (sym (ap (are_digits base) (ap (λ (l : List ℕ). out ++ l) (sym (kept byte following other)) ∙ ap (λ (l : List ℕ). out ++ without_spaces l) (sym parts) ∙ f.same))
    ∙ list_all-append (λ byte. is_digit byte base) out (byte ∷ without_spaces following) ∙ neither (are_digits base out) (is_digit byte base) (are_digits base (without_spaces following)) is)
  where
    neither : (a b c : Bool) → b ≡ false → (a && (b && c)) ≡ false
    neither true b c p = rw p refl
    neither false b c p = refl

whole : (base : ℕ) (text out left : List ℕ) → FoundLeft base text out left → left ≡ [] → out ≡ without_spaces text
whole base text out left f none = sym (append-nil out) ∙ ap (λ (l : List ℕ). out ++ without_spaces l) (sym none) ∙ f.same

pub some_length : (l : List ℕ) (b : Bool) → b ≡ eqb (length l) 0 → b ≡ false → 1 ≤ length l
some_length [] b is some = let clash : true ≡ false = sym is ∙ some in absurd cc
some_length (c ∷ l) b is some = omega arith
