-- The expressions of EQU and GEQU.
use Rattle.std.proofs.Common.{◌≡◌, ℕ, ◌^◌, ◌<◌, ◌≤◌, List, sym, ap, subst, ◌∙◌, arith}
use Rattle.omf_format.specs.Expression.{Tree, Leaf, Constant, IsTree, IsExpression, depth}
use Rattle.asm_meaning.specs.laws.AmountLaws.{is_written}
use Rattle.asm_meaning.specs.Constant as meaning
use Rattle.asm_meaning.specs.Constant.{tree_of_amount}
use Rattle.asm_meaning.specs.Formulas.{expression_text}
use Rattle.orca_operands.specs.AmountView as view
use Rattle.orca_operands.specs.AmountView.{AmountBytes, kept_of}

abbrev number : ℕ → AmountBytes
number n = view.Number n

-- a number's expression is that of the amount that it is
pub number_spelled : (n : ℕ) (bytes : List ℕ) (meant : meaning.Amount) → bytes ≡ expression_text (Leaf (Constant n)) → number n ≡ kept_of 0 meant → bytes ≡ expression_text (tree_of_amount meant)
number_spelled n bytes (meaning.Known m) is e = is ∙ ap (λ (k : ℕ). expression_text (Leaf (Constant k))) (same n m e)
  where
    same : (x y : ℕ) → number x ≡ number y → x ≡ y
    same x y e = cc
number_spelled n bytes (meaning.Written tree) is e = absurd cc

pub number_fine : (n : ℕ) (bytes : List ℕ) → n < 2 ^ 32 → bytes ≡ expression_text (Leaf (Constant n)) → IsExpression 0 bytes
number_fine n bytes fits is = subst (IsExpression 0) (sym is) (is_written (Leaf (Constant n)) fits (omega arith))

pub tree_fine : (tree : Tree) (bytes : List ℕ) → IsTree 0 tree → depth tree ≤ 64 → bytes ≡ expression_text tree → IsExpression 0 bytes
tree_fine tree bytes formed shallow is = subst (IsExpression 0) (sym is) (is_written tree formed shallow)
