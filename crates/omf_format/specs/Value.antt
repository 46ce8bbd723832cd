-- What an expression represents: its value in an environment (GS/OS Reference, appendix F, "Expressions").
use Rattle.std.specs.Prelude.{ℕ, ◌+◌, ◌-◌, ◌*◌, ◌/◌, ◌%◌, ◌^◌, Bool, not, ◌||◌, ◌&&◌, ℤ, pos, negsuc, List, length, Option, Result, Ok, Err, nat_lt, nat_le, ◌==◌, if◌then◌else◌, ok_or, bit_and, bit_or, bit_xor, int_lt, int_le, int_div, int_rem}
use Rattle.std.specs.Ordering.{int_eq}
use Rattle.std.specs.Int.{w32, cast_signed, cast_unsigned, bit_not}
use Rattle.omf_format.specs.declared.value.Value.{Value}
use Rattle.omf_format.specs.declared.value.Value.TheVariants.{Fixed, At}
use Rattle.omf_format.specs.declared.value.ValueFault.{ValueFault}
use Rattle.omf_format.specs.declared.value.ValueFault.TheVariants.{DivideByZero, NotRelocatable, Unknown}
use Rattle.omf_format.specs.Field.{◌>>=◌, is_shift}
use Rattle.omf_format.specs.Expression.{Term, Operator, Location, Constant, Named, Offset, Tree, Leaf, Unary, Binary, terms_of, terms_text}

-- ---- numbers of 32 bits

-- the number that 32 bits are in two's complement
abbrev pub signed : ℕ → ℤ
signed n = cast_signed w32 n

-- what is left of a number in 32 bits
abbrev pub wrapped_to_32_bits : ℕ → ℕ
wrapped_to_32_bits n = n % 2 ^ 32

-- 1 for what is true, and 0 for what isn't
abbrev pub truth : Bool → ℕ
truth b = if b then 1 else 0

-- every value but 0 counts as true
abbrev pub is_true : ℕ → Bool
is_true n = not (n == 0)

-- shifted left by a count of bits, or right where the count is negative; zeros are shifted in, and by 32 or more nothing is left
abbrev pub shifted_bits : ℕ → ℤ → ℕ
shifted_bits n (pos k) = if nat_lt k 32 then wrapped_to_32_bits (n * 2 ^ k) else 0
shifted_bits n (negsuc k) = if nat_lt k 31 then n / 2 ^ (k + 1) else 0

-- the operators of one number: negate, logical NOT, bit NOT
unfoldable pub number_of_one : ℕ → ℕ → ℕ
number_of_one code a =
    if code == 0x06 then wrapped_to_32_bits (2 ^ 32 - a)
    else if code == 0x0B then truth (not (is_true a))
    else bit_not w32 a

-- the operators of two numbers: $01 to $07 are add, subtract, multiply, divide (towards zero), modulo (with the dividend's sign) and shift,
-- where a divisor isn't 0; $08 to $0A are logical AND, OR and EOR; $0C to $11 are <=, >=, <>, <, > and =, all of signed numbers; $12 to $14
-- are bit AND, OR and EOR
unfoldable pub number_of_two : ℕ → ℕ → ℕ → ℕ
number_of_two code a b =
    if nat_le code 0x07 then (
    if code == 0x01 then wrapped_to_32_bits (a + b)
    else if code == 0x02 then wrapped_to_32_bits (a + (2 ^ 32 - b))
    else if code == 0x03 then wrapped_to_32_bits (a * b)
    else if code == 0x04 then cast_unsigned w32 (int_div (signed a) (signed b))
    else if code == 0x05 then cast_unsigned w32 (int_rem (signed a) (signed b))
    else shifted_bits a (signed b))
    else if nat_le code 0x0A then (
    if code == 0x08 then truth (is_true a && is_true b)
    else if code == 0x09 then truth (is_true a || is_true b)
    else truth ((is_true a && not (is_true b)) || (is_true b && not (is_true a))))
    else if nat_le code 0x11 then (
    if code == 0x0C then truth (int_le (signed a) (signed b))
    else if code == 0x0D then truth (int_le (signed b) (signed a))
    else if code == 0x0E then truth (not (a == b))
    else if code == 0x0F then truth (int_lt (signed a) (signed b))
    else if code == 0x10 then truth (int_lt (signed b) (signed a))
    else truth (a == b))
    else if code == 0x12 then bit_and a b
    else if code == 0x13 then bit_or a b
    else bit_xor a b

-- ---- operators on values

-- divide and modulo
abbrev pub divides : ℕ → Bool
divides code = code == 0x04 || code == 0x05

-- a place can be moved, or shifted, only where it has no shift yet
abbrev pub is_unshifted : ℤ → Bool
is_unshifted shift = int_eq shift (pos 0)

abbrev pub apply_one : ℕ → Value → Result Value ValueFault
apply_one code (Fixed a) = Ok (Fixed (number_of_one code a))
apply_one code (At file segment offset shift) = Err NotRelocatable

-- Add, subtract and shift are all that can be done with a place: it is moved by a number; the difference of two places of
-- one segment is a number; a shift is kept for later.
unfoldable pub apply_two : ℕ → Value → Value → Result Value ValueFault
apply_two code (Fixed a) (Fixed b) =
    if divides code && b == 0 then Err DivideByZero else Ok (Fixed (number_of_two code a b))
apply_two code (Fixed a) (At file segment offset shift) =
    if code == 0x01 && is_unshifted shift then Ok (At file segment (wrapped_to_32_bits (offset + a)) (pos 0)) else Err NotRelocatable
apply_two code (At file segment offset shift) (Fixed b) =
    if not (is_unshifted shift) then Err NotRelocatable
    else if code == 0x01 then Ok (At file segment (wrapped_to_32_bits (offset + b)) (pos 0))
    else if code == 0x02 then Ok (At file segment (wrapped_to_32_bits (offset + (2 ^ 32 - b))) (pos 0))
    else if code == 0x07 && is_shift (signed b) then Ok (At file segment offset (signed b))
    else Err NotRelocatable
apply_two code (At file segment offset shift) (At file' segment' offset' shift') =
    if code == 0x02 && is_unshifted shift && is_unshifted shift' && file == file' && segment == segment'
    then Ok (Fixed (wrapped_to_32_bits (offset + (2 ^ 32 - offset'))))
    else Err NotRelocatable

-- ---- trees

-- what names, the location counter and the segment's start represent; None is no answer
pub record Environment : Type 0 where
  pub label : (name : List ℕ) → (weak : Bool) → Option Value
  pub attribute : (term : ℕ) → (name : List ℕ) → Option ℕ
  pub location : Value
  pub start : Value

-- the value of an operand at this place: $82 is a weak name and $83 a name, and $84, $85 and $86 ask for its length, type and count; where
-- there is no answer, the fault has the place
unfoldable pub operand_value : Environment → ℕ → Term → Result Value ValueFault
operand_value env at (Operator code) = Err NotRelocatable
operand_value env at Location = Ok env.location
operand_value env at (Constant n) = Ok (Fixed n)
operand_value env at (Named code name) =
    if nat_le code 0x83 then ok_or (env.label name (code == 0x82)) (Unknown at)
    else ok_or (env.attribute code name) (Unknown at) >>= λ n. Ok (Fixed n)
operand_value env at (Offset n) = apply_two 0x01 env.start (Fixed n)

-- how many bytes the tree's terms take
abbrev pub size_of : ℕ → Tree → ℕ
size_of lab_len tree = length (terms_text lab_len (terms_of tree))

-- The value of a tree whose first byte is at this place: the left operand precedes the right one and both precede the operator, and the
-- first fault is the result.
abbrev pub value : Environment → ℕ → ℕ → Tree → Result Value ValueFault
value env lab_len at (Leaf term) = operand_value env at term
value env lab_len at (Unary code operand) = value env lab_len at operand >>= λ a. apply_one code a
value env lab_len at (Binary code left right) =
    value env lab_len at left >>= λ a.
    value env lab_len (at + size_of lab_len left) right >>= λ b.
    apply_two code a b
