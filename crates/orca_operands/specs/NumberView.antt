-- What the formula of an operand is.
use Rattle.std.specs.Prelude.{◌≡◌, ℕ, List, Option, Result, Ok, Err}
use Rattle.omf_format.specs.Field.{◌>>=◌}
use Rattle.omf_format.specs.Expression.{Term, Tree}
use Rattle.asm_meaning.specs.declared.faults.AsmCause.{AsmCause}
use Rattle.asm_meaning.specs.Answer.{Answer}
use Rattle.asm_meaning.specs.Constant as meaning
use Rattle.asm_meaning.specs.Constant.{Constants, known_value, required_number, amount}
use Rattle.asm_meaning.specs.Formulas.{IsFormula, formula_of}
use Rattle.orca_operands.specs.declared.amount.Amount.{Amount}
use Rattle.orca_operands.specs.AmountView.{IsFormulaOf, amount_view, kept_answer}

-- the terms of the formula, or what is wrong with it
abbrev pub AreTermsOf : Option Tree → Result (List Term) AsmCause → Type 0
AreTermsOf found (Ok terms) = (tree : Tree) × (formula_of found ≡ Ok tree) × IsFormulaOf terms tree
AreTermsOf found (Err cause) = formula_of found ≡ Err cause

-- those of the formula that a text is
pub record IsTerms (text : List ℕ) (answer : Result (List Term) AsmCause) : Type 0 where
  pub found : Option Tree
  pub formula : IsFormula text found
  pub terms : AreTermsOf found answer

-- what it amounts to
abbrev pub amount_found : Constants → Option Tree → Answer meaning.Amount
amount_found constants found = formula_of found >>= amount constants

-- the answer is what the formula amounts to that the text is, or what is wrong with it
pub record HasAmount (constants : Constants) (text : List ℕ) (answer : Result Amount AsmCause) : Type 0 where
  pub found : Option Tree
  pub formula : IsFormula text found
  pub amount' : amount_view answer ≡ kept_answer 0 (amount_found constants found)

-- the number that it is
abbrev pub number_found : Constants → Option Tree → Answer ℕ
number_found constants found = formula_of found >>= λ tree. required_number (known_value constants tree)

-- the answer is the number that the text is, or what is wrong with it
pub record HasNumber (constants : Constants) (text : List ℕ) (answer : Answer ℕ) : Type 0 where
  pub found : Option Tree
  pub formula : IsFormula text found
  pub number : answer ≡ number_found constants found
