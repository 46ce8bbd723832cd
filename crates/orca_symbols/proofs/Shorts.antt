-- The value of formulas of one or two numbers.
use Rattle.std.proofs.Common.{◌≡◌, ℕ, ◌<◌, List, [], ◌^◌, refl}
use Rattle.std.specs.Prelude.{Ok}
use Rattle.std.proofs.lemmas.Bool.{lt-leb}
use Rattle.omf_format.specs.declared.value.Value.TheVariants.{Fixed}
use Rattle.omf_format.specs.Expression.{Leaf, Binary, Constant}
use Rattle.omf_format.specs.Value.{operand_value, apply_two}
use Rattle.orca_meaning.specs.declared.operators.Operands.TheVariants.{Symbols}
use Rattle.orca_meaning.specs.declared.operators.Operator.{Operator}
use Rattle.orca_meaning.specs.Formula.{MeansAt, operator_code}
use Rattle.macro_meaning.specs.Condition.{Formula, answer_of}
use Rattle.orca_symbols.specs.Short.{HasNumber}

pub one_number : (text : List ℕ) (n : ℕ) → n < 2 ^ 32 → MeansAt Symbols text (Leaf (Constant n)) [] → HasNumber text n
unfolding answer_of operand_value
one_number text n small means = record { is = λ values. Formula (Leaf (Constant n)) means (rw (lt-leb (2 ^ 32) n small) refl) }

pub two_numbers : (text : List ℕ) (operator : Operator) (a b n : ℕ) → a < 2 ^ 32 → b < 2 ^ 32 → MeansAt Symbols text (Binary (operator_code operator) (Leaf (Constant a)) (Leaf (Constant b))) []
    → apply_two (operator_code operator) (Fixed a) (Fixed b) ≡ Ok (Fixed n) → HasNumber text n
unfolding answer_of operand_value
two_numbers text operator a b n small_a small_b means value =
    record { is = λ values. Formula (Binary (operator_code operator) (Leaf (Constant a)) (Leaf (Constant b))) means (rw (lt-leb (2 ^ 32) a small_a, lt-leb (2 ^ 32) b small_b, value) refl) }

pub three_numbers : (text : List ℕ) (operator second : Operator) (a b c m n : ℕ) → a < 2 ^ 32 → b < 2 ^ 32 → c < 2 ^ 32
    → MeansAt Symbols text (Binary (operator_code operator) (Leaf (Constant a)) (Binary (operator_code second) (Leaf (Constant b)) (Leaf (Constant c)))) []
    → apply_two (operator_code second) (Fixed b) (Fixed c) ≡ Ok (Fixed m) → apply_two (operator_code operator) (Fixed a) (Fixed m) ≡ Ok (Fixed n) → HasNumber text n
unfolding answer_of operand_value
three_numbers text operator second a b c m n small_a small_b small_c means inner value =
    record {
      is = λ values. Formula (Binary (operator_code operator) (Leaf (Constant a)) (Binary (operator_code second) (Leaf (Constant b)) (Leaf (Constant c)))) means
          (rw (lt-leb (2 ^ 32) a small_a, lt-leb (2 ^ 32) b small_b, lt-leb (2 ^ 32) c small_c, inner, value) refl);
    }
