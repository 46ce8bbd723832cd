-- What is written of a formula can be written: its numbers have 32 bits, its names 1 to 255 bytes, and at most 64 values
-- are pending.
use Rattle.std.proofs.Common.{◌≡◌, ℕ, zero, suc, ◌+◌, ◌-◌, ◌*◌, ◌/◌, ◌^◌, ◌<◌, ◌≤◌, Bool, true, false, cond, eqb, leb, ltb, List, Option, Some, None, Ok, refl, sym, subst, arith}
use Rattle.std.specs.Prelude.{ℤ, pos, negsuc, ◌&&◌, bit_and, bit_or, bit_xor, int_div, int_rem, neg_ℤ, FitsSigned, ◌%◌}
use Rattle.std.specs.Int.Bits.{and_lt}
use Rattle.std.proofs.Math.Nat.{div-le_self, mod-le}
use Rattle.std.proofs.Math.Facts.{Fits-of_lt, sfits_to_z}
use Rattle.std.proofs.lemmas.Nat.{or_lt, xor_lt}
use Rattle.std.specs.Int.{w32, bit_not}
use Rattle.omf_format.specs.Expression.{Operator, Location, Constant, Named, Offset, Tree, Leaf, Unary, Binary, IsTree, IsExpression, depth}
use Rattle.omf_format.specs.Value.{number_of_one, number_of_two, wrapped_to_32_bits, shifted_bits, truth, signed, divides}
use Rattle.omf_format.specs.laws.Steps.{bits_of, arithmetic, logical, comparison, bitwise}
use Rattle.orca_meaning.specs.Formula.{pending, with_location_less}
use Rattle.orca_meaning.specs.laws.Steps.{values_of}
use Rattle.asm_meaning.specs.Answer.{Answer}
use Rattle.asm_meaning.specs.Constant.{Constants, AreSmall, KnownValue, Number, Open, Divided, worth_of_two, known_value, with_values, Amount, Known, Written, amount}
use Rattle.asm_meaning.specs.laws.Steps.{number_or_open, worth_of_one, number_or, amount_by}
use Rattle.asm_meaning.specs.Formulas.{expression_text}

-- ---- known values in place of names

tree_by_value : (code : ℕ) (name : List ℕ) (o : Option ℕ) → ((n : ℕ) → o ≡ Some n → n < 2 ^ 32) → IsTree 0 (Leaf (Named code name)) → IsTree 0 (Leaf (number_or (Named code name) o))
tree_by_value code name None small is = is
tree_by_value code name (Some n) small is = small n refl

pub tree-with_values : (constants : Constants) → AreSmall constants → (t : Tree) → IsTree 0 t → IsTree 0 (with_values constants t)
tree-with_values constants small (Leaf (Operator code)) is = is
tree-with_values constants small (Leaf Location) is = is
tree-with_values constants small (Leaf (Constant n)) is = is
tree-with_values constants small (Leaf (Named code name)) is = by_code (eqb code 0x83)
  where
    by_code : (b : Bool) → IsTree 0 (Leaf (cond b (number_or (Named code name) (constants name)) (Named code name)))
    by_code true = tree_by_value code name (constants name) (small name) is
    by_code false = is
tree-with_values constants small (Leaf (Offset n)) is = is
tree-with_values constants small (Unary code a) is = (is.0, is.1, tree-with_values constants small a is.2)
tree-with_values constants small (Binary code a b) is = (is.0, is.1, tree-with_values constants small a is.2, tree-with_values constants small b is.3)

values_by_value : (here code : ℕ) (name : List ℕ) (o : Option ℕ) → values_of here (number_or (Named code name) o) ≡ 1
values_by_value here code name None = refl
values_by_value here code name (Some n) = refl

-- as many values are pending
pub pending-with_values : (constants : Constants) (here : ℕ) (t : Tree) → pending here (with_values constants t) ≡ pending here t
pending-with_values constants here (Leaf (Operator code)) = refl
pending-with_values constants here (Leaf Location) = refl
pending-with_values constants here (Leaf (Constant n)) = refl
pending-with_values constants here (Leaf (Named code name)) = by_code (eqb code 0x83)
  where
    by_code : (b : Bool) → values_of here (cond b (number_or (Named code name) (constants name)) (Named code name)) ≡ 1
    by_code true = values_by_value here code name (constants name)
    by_code false = refl
pending-with_values constants here (Leaf (Offset n)) = refl
pending-with_values constants here (Unary code a) = pending-with_values constants here a
pending-with_values constants here (Binary code a b) = rw (pending-with_values constants here a, pending-with_values constants here b) refl

-- the location counter less a number
pub tree-placed : (back : ℕ) (t : Tree) → back < 2 ^ 32 → IsTree 0 t → IsTree 0 (with_location_less back t)
tree-placed back (Leaf (Operator code)) less is = is
tree-placed back (Leaf Location) less is = (refl, refl, tt, less)
tree-placed back (Leaf (Constant n)) less is = is
tree-placed back (Leaf (Named code name)) less is = is
tree-placed back (Leaf (Offset n)) less is = is
tree-placed back (Unary code a) less is = (is.0, is.1, tree-placed back a less is.2)
tree-placed back (Binary code a b) less is = (is.0, is.1, tree-placed back a less is.2, tree-placed back b less is.3)

pub is_written : (t : Tree) → IsTree 0 t → depth t ≤ 64 → IsExpression 0 (expression_text t)
unfolding expression_text
is_written t is shallow = record { tree = t; spells = record { formed = is; shallow = shallow; spelled = refl } }

-- ---- the values of constants

abbrev Small : ℕ → Type 0
Small n = n < 2 ^ 32

small_cond : (b : Bool) (x y : ℕ) → Small x → Small y → Small (cond b x y)
small_cond true x y p q = p
small_cond false x y p q = q

small_truth : (b : Bool) → Small (truth b)
small_truth true = omega arith
small_truth false = omega arith

pub wrapped-lt : (n : ℕ) → Small (wrapped_to_32_bits n)
wrapped-lt n = omega arith

small_shifted : (n : ℕ) (count : ℤ) → Small n → Small (shifted_bits n count)
small_shifted n (pos k) small = small_cond (ltb k 32) (wrapped_to_32_bits (n * 2 ^ k)) 0 (wrapped-lt (n * 2 ^ k)) (omega arith)
small_shifted n (negsuc k) small = small_cond (ltb k 31) (n / 2 ^ (k + 1)) 0 (omega (arith, div-le_self n (2 ^ (k + 1)), small)) (omega arith)

small_negated : (n : ℕ) → Small (bits_of (neg_ℤ (pos n)))
small_negated zero = omega arith
small_negated (suc n) = omega arith

small_quotient : (z d : ℤ) → FitsSigned w32 z → Small (bits_of (int_div z d))
small_quotient (pos a) (pos b) fits = let small : a < 2 ^ 31 = fits.sfits in omega (arith, div-le_self a b)
small_quotient (pos a) (negsuc b) fits = small_negated (a / suc b)
small_quotient (negsuc a) (pos b) fits = small_negated (suc a / b)
small_quotient (negsuc a) (negsuc b) fits = let small : a < 2 ^ 31 = fits.sfits in omega (arith, div-le_self (suc a) (suc b))

small_remainder : (z d : ℤ) → FitsSigned w32 z → Small (bits_of (int_rem z d))
small_remainder (pos a) (pos b) fits = let small : a < 2 ^ 31 = fits.sfits in omega (arith, mod-le a b)
small_remainder (pos a) (negsuc b) fits = let small : a < 2 ^ 31 = fits.sfits in omega (arith, mod-le a (suc b))
small_remainder (negsuc a) (pos b) fits = small_negated (suc a % b)
small_remainder (negsuc a) (negsuc b) fits = small_negated (suc a % suc b)

small_arithmetic : (code a b : ℕ) → Small a → Small (arithmetic code a b)
small_arithmetic code a b p =
    small_cond (eqb code 0x01) (wrapped_to_32_bits (a + b)) _ (wrapped-lt (a + b)) (
    small_cond (eqb code 0x02) (wrapped_to_32_bits (a + (2 ^ 32 - b))) _ (wrapped-lt (a + (2 ^ 32 - b))) (
    small_cond (eqb code 0x03) (wrapped_to_32_bits (a * b)) _ (wrapped-lt (a * b)) (
    small_cond (eqb code 0x04) (bits_of (int_div (signed a) (signed b))) _ (small_quotient (signed a) (signed b) (sfits_to_z (Fits-of_lt p))) (
    small_cond (eqb code 0x05) (bits_of (int_rem (signed a) (signed b))) _ (small_remainder (signed a) (signed b) (sfits_to_z (Fits-of_lt p))) (small_shifted a (signed b) p)))))

small_logical : (code a b : ℕ) → Small (logical code a b)
small_logical code a b = small_cond (eqb code 0x08) _ _ (small_truth _) (small_cond (eqb code 0x09) _ _ (small_truth _) (small_truth _))

small_comparison : (code a b : ℕ) → Small (comparison code a b)
small_comparison code a b =
    small_cond (eqb code 0x0C) _ _ (small_truth _) (
    small_cond (eqb code 0x0D) _ _ (small_truth _) (
    small_cond (eqb code 0x0E) _ _ (small_truth _) (
    small_cond (eqb code 0x0F) _ _ (small_truth _) (
    small_cond (eqb code 0x10) _ _ (small_truth _) (small_truth _)))))

small_bitwise : (code a b : ℕ) → Small a → Small b → Small (bitwise code a b)
small_bitwise code a b p q =
    small_cond (eqb code 0x12) (bit_and a b) _ (and_lt 32 a b p q) (small_cond (eqb code 0x13) (bit_or a b) (bit_xor a b) (or_lt 32 a b p q) (xor_lt 32 a b p q))

pub number_of_two-lt : (code a b : ℕ) → a < 2 ^ 32 → b < 2 ^ 32 → number_of_two code a b < 2 ^ 32
unfolding number_of_two
number_of_two-lt code a b p q =
    small_cond (leb code 0x07) (arithmetic code a b) _ (small_arithmetic code a b p) (
    small_cond (leb code 0x0A) (logical code a b) _ (small_logical code a b) (
    small_cond (leb code 0x11) (comparison code a b) (bitwise code a b) (small_comparison code a b) (small_bitwise code a b p q)))

pub number_of_one-lt : (code a : ℕ) → number_of_one code a < 2 ^ 32
unfolding number_of_one
number_of_one-lt code a =
    small_cond (eqb code 0x06) (wrapped_to_32_bits (2 ^ 32 - a)) _ (wrapped-lt (2 ^ 32 - a)) (small_cond (eqb code 0x0B) _ (bit_not w32 a) (small_truth _) (omega arith))

-- the number of a known value has 32 bits
abbrev pub IsSmallWorth : KnownValue → Type 0
IsSmallWorth (Number n) = n < 2 ^ 32
IsSmallWorth Open = Unit {0}
IsSmallWorth Divided = Unit {0}

small_name : (o : Option ℕ) → ((n : ℕ) → o ≡ Some n → n < 2 ^ 32) → IsSmallWorth (number_or_open o)
small_name None small = tt
small_name (Some n) small = small n refl

small_one : (code : ℕ) (a : KnownValue) → IsSmallWorth (worth_of_one code a)
small_one code (Number a) = number_of_one-lt code a
small_one code Open = tt
small_one code Divided = tt

small_if : (b : Bool) (v w : KnownValue) → IsSmallWorth v → IsSmallWorth w → IsSmallWorth (cond b v w)
small_if true v w p q = p
small_if false v w p q = q

small_two : (code : ℕ) (a b : KnownValue) → IsSmallWorth a → IsSmallWorth b → IsSmallWorth (worth_of_two code a b)
small_two code (Number a) (Number b) p q = small_if (divides code && eqb b 0) Divided (Number (number_of_two code a b)) tt (number_of_two-lt code a b p q)
small_two code (Number a) Open p q = tt
small_two code (Number a) Divided p q = tt
small_two code Open b p q = tt
small_two code Divided (Number b) p q = tt
small_two code Divided Open p q = tt
small_two code Divided Divided p q = tt

pub small_worth : (constants : Constants) → AreSmall constants → (t : Tree) → IsTree 0 t → IsSmallWorth (known_value constants t)
unfolding known_value
small_worth constants small (Leaf (Operator code)) is = tt
small_worth constants small (Leaf Location) is = tt
small_worth constants small (Leaf (Constant n)) is = is
small_worth constants small (Leaf (Named code name)) is = small_if (eqb code 0x83) (number_or_open (constants name)) Open (small_name (constants name) (small name)) tt
small_worth constants small (Leaf (Offset n)) is = tt
small_worth constants small (Unary code a) is = small_one code (known_value constants a)
small_worth constants small (Binary code a b) is = small_two code (known_value constants a) (known_value constants b) (small_worth constants small a is.2) (small_worth constants small b is.3)

-- ---- amounts

abbrev amount_is : Amount → Answer Amount
amount_is x = Ok x

-- an amount that can be written, where the location counter counts as a given number of values
abbrev pub IsFineAmount : ℕ → Amount → Type 0
IsFineAmount here (Known n) = n < 2 ^ 32
IsFineAmount here (Written t) = IsTree 0 t × (pending here t ≤ 64)

pub fine_amount : (constants : Constants) → AreSmall constants → (here : ℕ) (t : Tree) (a : Amount) → IsTree 0 t → pending here t ≤ 64 → amount constants t ≡ Ok a → IsFineAmount here a
unfolding amount
fine_amount constants small here t a is shallow e = by_worth (known_value constants t) (small_worth constants small t is) e
  where
    same : (x : Amount) → amount_is x ≡ Ok a → x ≡ a
    same x e = cc

    by_worth : (w : KnownValue) → IsSmallWorth w → amount_by (with_values constants t) w ≡ Ok a → IsFineAmount here a
    by_worth (Number n) fits e = subst (IsFineAmount here) (same (Known n) e) fits
    by_worth Open fits e = subst (IsFineAmount here) (same (Written (with_values constants t)) e) (tree-with_values constants small t is, subst (λ (k : ℕ). k ≤ 64) (sym (pending-with_values constants here t)) shallow)
    by_worth Divided fits e = absurd cc
