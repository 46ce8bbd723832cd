-- Formulas as operands and in operands, and what is wrong with them (ORCA/M reference manual, "Expressions").
use Rattle.std.specs.Prelude.{ℕ, nat_lt, List, [], ◌∷◌, ◌++◌, Option, Some, None, Ok, Err, if◌then◌else◌}
use Rattle.omf_format.specs.Ascii as ascii
use Rattle.omf_format.specs.Field.{◌>>=◌}
use Rattle.omf_format.specs.Expression.{Tree, terms_of, terms_text}
use Rattle.orca_meaning.specs.declared.operators.Operands.TheVariants.{Labels}
use Rattle.orca_meaning.specs.Formula.{MeansAt, pending, has_large}
use Rattle.asm_meaning.specs.declared.faults.AsmCause.TheVariants.{BadOperand, BadNumber}
use Rattle.asm_meaning.specs.Answer.{Answer}
use Rattle.asm_meaning.specs.Constant.{Constants, known_value, required_number}

-- the whole text is a formula that means this expression, or it is none
abbrev pub IsFormula : List ℕ → Option Tree → Type 0
IsFormula text None = (tree : Tree) → MeansAt Labels text tree [] → ⊥
IsFormula text (Some tree) = MeansAt Labels text tree []

-- the formulas, one at least, that commas separate in a text
abbrev pub AreFormulas : List ℕ → List Tree → Type 0
AreFormulas text [] = ⊥
AreFormulas text (tree ∷ []) = MeansAt Labels text tree []
AreFormulas text (tree ∷ next ∷ trees) = (following : List ℕ) × MeansAt Labels text tree (ascii.comma ∷ following) × AreFormulas following (next ∷ trees)

-- at most 64 values are pending, and its numbers are at most 4,294,967,295
unfoldable pub checked_formula : Tree → Answer Tree
checked_formula tree = if nat_lt 64 (pending 1 tree) then Err BadOperand else if has_large tree then Err BadNumber else Ok tree

-- the formula that was found
abbrev pub formula_of : Option Tree → Answer Tree
formula_of None = Err BadOperand
formula_of (Some tree) = checked_formula tree

-- the number that a formula is, which has to be a constant
abbrev pub number_of : Constants → Tree → Answer ℕ
number_of constants tree = checked_formula tree >>= λ t. required_number (known_value constants t)

-- the bytes of the expression: its terms in postfix order, and the end
unfoldable pub expression_text : Tree → List ℕ
expression_text tree = terms_text 0 (terms_of tree) ++ 0x00 ∷ []
