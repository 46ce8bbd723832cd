-- A formula at the start of a text, as it is kept.
use Rattle.std.specs.Prelude.{◌≡◌, ℕ, Bool, List}
use Rattle.omf_format.specs.Expression.{Term, Tree, terms_of}
use Rattle.orca_meaning.specs.declared.operators.Operands.{Operands}
use Rattle.orca_meaning.specs.Formula.{MeansAt, has_large}
use Rattle.orca_text.specs.Kept.{kept_terms}

-- a formula is there, and these are the terms of what it means, in postfix order; in them 0 represents each number
-- that is too large, and `large` says whether there is one
pub record IsFormulaAt (operands : Operands) (text : List ℕ) (terms : List Term) (large : Bool) (rest : List ℕ) : Type 0 where
  pub tree : Tree
  pub means : MeansAt operands text tree rest
  pub kept : terms ≡ kept_terms (terms_of tree)
  pub large_is : large ≡ has_large tree

-- no formula is at the start
abbrev pub HasNoFormula : Operands → List ℕ → Type 0
HasNoFormula operands text = (tree : Tree) (rest : List ℕ) → MeansAt operands text tree rest → ⊥
