-- How operands are seen.
use Rattle.std.specs.Prelude.{◌≡◌, ℕ, ◌<◌, ◌≤◌, Bool, true, List, [], ◌∷◌, Option, Some, None}
use Rattle.omf_format.specs.Expression.{Term, Tree, terms_of}
use Rattle.orca_meaning.specs.declared.lines.TextCause.{TextCause}
use Rattle.orca_meaning.specs.declared.lines.TextCause.TheVariants.{LineTooLong, TooManyLines, BadOperand, BadNumber, Memory}
use Rattle.orca_meaning.specs.declared.lines.TextFault.{TextFault}
use Rattle.orca_meaning.specs.declared.mnemonics.Mnemonic.{Mnemonic}
use Rattle.orca_meaning.specs.declared.operators.Operands.TheVariants.{Labels}
use Rattle.orca_meaning.specs.Formula.{MeansAt}
use Rattle.orca_meaning.specs.Line.{part}
use Rattle.orca_meaning.specs.Operation.{mnemonic_of}
use Rattle.orca_meaning.specs.Operand.{Meaning, IsGoodOperand, IsRefusedFor}
use Rattle.orca_text.specs.declared.line.SourceLine.{SourceLine}
use Rattle.orca_text.specs.declared.operand.Operand.{Operand}
use Rattle.orca_text.specs.FormulaAt.{IsFormulaAt}

-- the terms of the first tree
abbrev pub first_terms : List Tree → List Term
first_terms [] = []
first_terms (tree ∷ trees) = terms_of tree

-- the terms of the second tree, if there are two
abbrev pub second_terms : List Tree → Option (List Term)
second_terms [] = None
second_terms (first ∷ []) = None
second_terms (first ∷ second ∷ trees) = Some (terms_of second)

-- the operand has this meaning's form and prefix, and its formulas are the terms of its trees in postfix order
pub record IsWritten (operand : Operand) (meaning : Meaning) : Type 0 where
  pub form_is : operand.form ≡ meaning.form
  pub prefix_is : operand.prefix ≡ meaning.prefix
  pub first_is : operand.first ≡ first_terms meaning.trees
  pub second_is : operand.second ≡ second_terms meaning.trees

-- the operand of a text, in a line with this mnemonic or none
pub record IsRead (mnemonic : Option Mnemonic) (text : List ℕ) (operand : Operand) : Type 0 where
  pub meaning : Meaning
  pub good : IsGoodOperand mnemonic text meaning
  pub written : IsWritten operand meaning

-- a line's mnemonic, if it has one
abbrev pub line_mnemonic : SourceLine → Option Mnemonic
line_mnemonic line = mnemonic_of (part line.text line.operation)

-- the text of a line's operand
abbrev pub line_operand : SourceLine → List ℕ
line_operand line = part line.text line.operand

-- where a fault for this cause lies: in the line, or nowhere when out of memory
abbrev pub line_for : TextCause → ℕ → ℕ
line_for Memory line = 0
line_for _ line = line

-- a line's operand is refused for this fault
pub record IsOperandFault (line : SourceLine) (fault : TextFault) : Type 0 where
  pub file_is : fault.file ≡ line.file
  pub line_is : fault.line ≡ line_for fault.cause line.line
  pub cause_is : IsRefusedFor fault.cause (line_mnemonic line) (line_operand line)

-- ---- one formula or two

-- a comma is at the start, and after it a formula up to the end
pub record IsSecond (rest : List ℕ) (terms : List Term) (large : Bool) : Type 0 where
  pub following : List ℕ
  pub comma : rest ≡ 0x2C ∷ following
  pub formula : IsFormulaAt Labels following terms large []

-- no comma with a formula after it, up to the end, is at the start
abbrev pub HasNoSecond : List ℕ → Type 0
HasNoSecond rest = (following : List ℕ) (tree : Tree) → rest ≡ 0x2C ∷ following → MeansAt Labels following tree [] → ⊥

-- a formula is too deep, or has a number that is too large
abbrev pub IsRefusedHere : TextCause → ℕ → Bool → Type 0
IsRefusedHere LineTooLong most large = ⊥
IsRefusedHere TooManyLines most large = ⊥
IsRefusedHere BadOperand most large = 64 < most
IsRefusedHere BadNumber most large = (most ≤ 64) × (large ≡ true)
IsRefusedHere Memory most large = ⊥
