-- How tokens are seen.
use Rattle.std.specs.Prelude.{ℕ, Bool, true, false, List, Option, Some, None}
use Rattle.orca_meaning.specs.declared.operators.Operands.{Operands}
use Rattle.orca_meaning.specs.declared.operators.Operands.TheVariants.{Labels, Symbols}
use Rattle.orca_meaning.specs.Token as meaning
use Rattle.orca_text.specs.declared.operand_tokens.Asked.{Asked}
use Rattle.orca_text.specs.declared.operand_tokens.Asked.TheVariants.{Length, Count}
use Rattle.orca_text.specs.declared.operand_tokens.FormulaOperand.{FormulaOperand}
use Rattle.orca_text.specs.declared.operand_tokens.FormulaOperand.TheVariants.{Here, Number, TooLarge, Label, LengthOf, CountOf}
use Rattle.orca_text.specs.declared.operand_tokens.OperandToken.{OperandToken}
use Rattle.orca_text.specs.declared.operand_tokens.OperandToken.TheVariants.{Value, Before, Opens}
use Rattle.orca_text.specs.declared.operand_tokens.OperatorToken.{OperatorToken}
use Rattle.orca_text.specs.declared.operand_tokens.OperatorToken.TheVariants.{Between, Closes}
use Rattle.orca_text.specs.Kept.{kept_value}

-- an operand of a formula, and whether it is a number that is too large, which 0 represents
abbrev pub operand : FormulaOperand → meaning.Operand × Bool
operand Here = (meaning.Here, false)
operand (Number n) = (meaning.Number n, false)
operand TooLarge = (meaning.Number 0, true)
operand (Label name) = (meaning.Label name, false)
operand (LengthOf name) = (meaning.LengthOf name, false)
operand (CountOf name) = (meaning.CountOf name, false)

-- a token where an operand is expected, and whether it is a number that is too large
abbrev pub operand_token : OperandToken → meaning.Token × Bool
operand_token (Value o) = kept_value (operand o)
operand_token (Before sign) = (meaning.Before sign, false)
operand_token Opens = (meaning.Opens, false)

-- a token where an operator is expected
abbrev pub operator_token : OperatorToken → meaning.Token
operator_token (Between operator) = meaning.Between operator
operator_token Closes = meaning.Closes

-- a number as an operand, none being one that is too large
abbrev pub number_operand : Option ℕ → meaning.Operand × Bool
number_operand (Some n) = (meaning.Number n, false)
number_operand None = (meaning.Number 0, true)

-- the letter of what is asked of a name: L: or C:
abbrev pub letter_of : Asked → ℕ
letter_of Length = 0x4C
letter_of Count = 0x43

-- the operand that asks this of a name
abbrev pub asked : Asked → List ℕ → meaning.Operand
asked Length name = meaning.LengthOf name
asked Count name = meaning.CountOf name

-- the name of which something is asked: of a statement a label, elsewhere a symbol
abbrev pub asked_name : Operands → List ℕ → meaning.Found (List ℕ)
asked_name Labels text = meaning.name_at text
asked_name Symbols text = meaning.symbol_at text
