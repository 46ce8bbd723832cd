-- Whether a text is a formula, and what it amounts to.
use Rattle.std.proofs.Common.{◌≡◌, ℕ, ◌<◌, ◌≤◌, Bool, true, false, cond, eqb, ltb, List, [], ◌∷◌, length, Some, None, Ok, Err, refl, sym, ap, subst, ◌∙◌, arith}
use Rattle.std.proofs.lemmas.Bool.{lt-ltb, ltb-false}
use Rattle.omf_format.specs.Field.{◌>>=◌}
use Rattle.omf_format.specs.Expression.{Term, Tree, AreTerms, terms_of, terms_text}
use Rattle.omf_format.specs.laws.TreeLaws.{tree_has_terms}
use Rattle.orca_meaning.specs.declared.operators.Operands.TheVariants.{Labels}
use Rattle.orca_meaning.specs.Formula.{pending, has_large}
use Rattle.orca_meaning.specs.laws.FormulaLaws.{formed, one_tree, pending-one}
use Rattle.orca_text.specs.FormulaAt.{IsFormulaAt, HasNoFormula}
use Rattle.orca_text.specs.Peak.{peak}
use Rattle.orca_text.proofs.OperandIs.{peak_is, terms_are}
use Rattle.asm_meaning.specs.declared.faults.AsmCause.{AsmCause}
use Rattle.asm_meaning.specs.declared.faults.AsmCause.TheVariants.{BadOperand, BadNumber, UnknownConstant, DivideByZero}
use Rattle.std.specs.Prelude.{Result, IfOk}
use Rattle.asm_meaning.specs.laws.AmountLaws.{tree-with_values, pending-with_values}
use Rattle.asm_meaning.specs.Answer.{Answer}
use Rattle.orca_operands.specs.FineView.{IsFineAmount}
use Rattle.asm_meaning.specs.Constant as meaning
use Rattle.asm_meaning.specs.Constant.{Constants, with_values, known_value, required_number, amount, AreSmall}
use Rattle.asm_meaning.specs.laws.Steps.{amount_by}
use Rattle.asm_meaning.specs.Formulas.{checked_formula, formula_of}
use Rattle.orca_operands.specs.declared.amount.Amount.{Amount}
use Rattle.orca_operands.specs.declared.amount.Amount.TheVariants as amounts
use Rattle.orca_operands.specs.AmountView as view
use Rattle.orca_operands.specs.AmountView.{IsFormulaOf, AmountBytes, kept_answer, amount_view}
use Rattle.orca_operands.proofs.ByFormulas.{empty_list}
use Rattle.orca_operands.specs.NumberView.{IsTerms, HasAmount, HasNumber}

abbrev bad : AsmCause → Answer Tree
bad cause = Err cause

-- no formula at the start
pub no_formula : (text : List ℕ) → HasNoFormula Labels text → IsTerms text (Err BadOperand)
no_formula text none = record { found = None; formula = λ tree means. none tree [] means; terms = refl }

-- more than a formula
pub more_after : (text rest : List ℕ) (terms : List Term) (large : Bool) → IsFormulaAt Labels text terms large rest → eqb (length rest) 0 ≡ false → IsTerms text (Err BadOperand)
more_after text rest terms large f some = record { found = None; formula = λ tree means. not_empty rest some (one_tree Labels text f.tree tree rest [] f.means means).1; terms = refl }
  where
    not_empty : (l : List ℕ) → eqb (length l) 0 ≡ false → l ≡ [] → ⊥
    not_empty [] is e = absurd cc
    not_empty (x ∷ l) is e = absurd cc

whole : (text rest : List ℕ) (terms : List Term) (large : Bool) → eqb (length rest) 0 ≡ true → IsFormulaAt Labels text terms large rest → IsFormulaAt Labels text terms large []
whole text rest terms large none f = subst (IsFormulaAt Labels text terms large) (empty_list rest none) f

-- too deep
pub too_deep : (text rest : List ℕ) (terms : List Term) (large : Bool) → eqb (length rest) 0 ≡ true → IsFormulaAt Labels text terms large rest → 64 < peak 1 0 0 terms → IsTerms text (Err BadOperand)
unfolding checked_formula
too_deep text rest terms large none f0 deep =
    let f = whole text rest terms large none f0 in
    let p : pending 1 f.tree ≡ peak 1 0 0 terms = sym (peak_is 1 text terms large [] f) in
    let test : ltb 64 (pending 1 f.tree) ≡ true = lt-ltb 64 (pending 1 f.tree) (omega arith) in
    record { found = Some f.tree; formula = f.means; terms = ap (λ (b : Bool). cond b (bad BadOperand) (cond (has_large f.tree) (bad BadNumber) (Ok f.tree))) test }

shallow : (text : List ℕ) (terms : List Term) (large : Bool) (f : IsFormulaAt Labels text terms large []) → (64 < peak 1 0 0 terms → ⊥) → ltb 64 (pending 1 f.tree) ≡ false
shallow text terms large f few = by_test (ltb 64 (pending 1 f.tree)) refl
  where
    by_test : (b : Bool) → ltb 64 (pending 1 f.tree) ≡ b → b ≡ false
    by_test true e = absurd (few (omega (arith, Rattle.std.proofs.lemmas.Bool.ltb-true 64 (pending 1 f.tree) e, peak_is 1 text terms large [] f)))
    by_test false e = refl

-- a number is too large
pub too_large : (text rest : List ℕ) (terms : List Term) (large : Bool) → eqb (length rest) 0 ≡ true → IsFormulaAt Labels text terms large rest → (64 < peak 1 0 0 terms → ⊥) → large ≡ true → IsTerms text (Err BadNumber)
unfolding checked_formula
too_large text rest terms large none f0 few is =
    let f = whole text rest terms large none f0 in
    record {
      found = Some f.tree;
      formula = f.means;
      terms = ap (λ (b : Bool). cond b (bad BadOperand) (cond (has_large f.tree) (bad BadNumber) (Ok f.tree))) (shallow text terms large f few)
          ∙ ap (λ (b : Bool). cond b (bad BadNumber) (Ok f.tree)) (sym f.large_is ∙ is);
    }

-- a formula
pub good_formula : (text rest : List ℕ) (terms : List Term) (large : Bool) → length text ≤ 255 → eqb (length rest) 0 ≡ true → IsFormulaAt Labels text terms large rest → (64 < peak 1 0 0 terms → ⊥) → large ≡ false
    → IsTerms text (Ok terms)
unfolding checked_formula
good_formula text rest terms large short none f0 few small =
    let f = whole text rest terms large none f0 in
    let no_large : has_large f.tree ≡ false = sym f.large_is ∙ small in
    record {
      found = Some f.tree;
      formula = f.means;
      terms = (
        f.tree,
        ap (λ (b : Bool). cond b (bad BadOperand) (cond (has_large f.tree) (bad BadNumber) (Ok f.tree))) (shallow text terms large f few)
            ∙ ap (λ (b : Bool). cond b (bad BadNumber) (Ok f.tree)) no_large,
        record { terms_are = terms_are text terms large [] f small; formed = formed Labels text f.tree [] short f.means no_large; shallow = omega (arith, ltb-false 64 (pending 1 f.tree) (shallow text terms large f few), pending-one f.tree) },
      );
    }

-- its terms can be written
pub terms_formed : (text : List ℕ) (terms : List Term) → IsTerms text (Ok terms) → AreTerms 0 terms
terms_formed text terms is = subst (AreTerms 0) (sym is.terms.2.terms_are) (tree_has_terms 0 is.terms.0 is.terms.2.formed)

-- ---- amounts

abbrev kept_number : ℕ → Answer AmountBytes
kept_number n = Ok (view.Number n)

abbrev kept_text : List ℕ → Answer AmountBytes
kept_text text = Ok (view.Text text)

abbrev kept_fault : AsmCause → Answer AmountBytes
kept_fault cause = Err cause

abbrev number_fault : AsmCause → Answer ℕ
number_fault cause = Err cause

-- what is written can be written
pub amount_fine : (constants : Constants) (text : List ℕ) (terms : List Term) (answer : Result Amount AsmCause) → AreSmall constants → IsTerms text (Ok terms)
    → ((tree : Tree) → IsFormulaOf terms tree → amount_view answer ≡ kept_answer 0 (amount constants tree)) → IfOk answer IsFineAmount
unfolding amount
amount_fine constants text terms (Err cause) small is meant = tt
amount_fine constants text terms (Ok (amounts.Known n)) small is meant = tt
amount_fine constants text terms (Ok (amounts.Written v)) small is meant = by_worth (known_value constants tree) (meant tree is.terms.2)
  where
    tree : Tree
    tree = is.terms.0

    same : (x y : List ℕ) → kept_text x ≡ kept_text y → x ≡ y
    same x y e = cc

    by_worth : (w : meaning.KnownValue) → kept_text v.items ≡ kept_answer 0 (amount_by (with_values constants tree) w) → IsFineAmount (amounts.Written v)
    by_worth (meaning.Number n) e = absurd cc
    by_worth meaning.Open e = (
      with_values constants tree,
      tree-with_values constants small tree is.terms.2.formed,
      omega (arith, pending-one (with_values constants tree), pending-with_values constants 1 tree, pending-one tree, is.terms.2.shallow),
      same v.items (terms_text 0 (terms_of (with_values constants tree))) e,
    )
    by_worth meaning.Divided e = absurd cc

-- ---- numbers

-- what a known value amounts to determines the number
known_number : (tree : Tree) (w : meaning.KnownValue) (n : ℕ) → kept_number n ≡ kept_answer 0 (amount_by tree w) → required_number w ≡ Ok n
known_number tree (meaning.Number m) n e = same m n e
  where
    same : (x y : ℕ) → kept_number y ≡ kept_number x → required_number (meaning.Number x) ≡ Ok y
    same x y e = cc
known_number tree meaning.Open n e = absurd cc
known_number tree meaning.Divided n e = absurd cc

open_number : (tree : Tree) (w : meaning.KnownValue) (text : List ℕ) → kept_text text ≡ kept_answer 0 (amount_by tree w) → required_number w ≡ Err UnknownConstant
open_number tree (meaning.Number m) text e = absurd cc
open_number tree meaning.Open text e = refl
open_number tree meaning.Divided text e = absurd cc

bad_number : (tree : Tree) (w : meaning.KnownValue) (cause : AsmCause) → kept_fault cause ≡ kept_answer 0 (amount_by tree w) → required_number w ≡ Err cause
bad_number tree (meaning.Number m) cause e = absurd cc
bad_number tree meaning.Open cause e = absurd cc
bad_number tree meaning.Divided cause e = same cause e
  where
    same : (x : AsmCause) → kept_fault x ≡ kept_fault DivideByZero → required_number meaning.Divided ≡ Err x
    same x e = cc

by_formula : (constants : Constants) (kept : Answer AmountBytes) (number : Answer ℕ) (formula : Answer Tree) → ((tree : Tree) → kept ≡ kept_answer 0 (amount constants tree) → required_number (known_value constants tree) ≡ number)
    → ((cause : AsmCause) → kept ≡ kept_fault cause → number ≡ Err cause) → kept ≡ kept_answer 0 (formula >>= amount constants) → number ≡ (formula >>= λ tree. required_number (known_value constants tree))
by_formula constants kept number (Ok tree) good wrong e = sym (good tree e)
by_formula constants kept number (Err cause) good wrong e = wrong cause e

pub number_known : (constants : Constants) (text : List ℕ) (n : ℕ) → HasAmount constants text (Ok (amounts.Known n)) → HasNumber constants text (Ok n)
unfolding amount
number_known constants text n is = record {
  found = is.found;
  formula = is.formula;
  number = by_formula constants (kept_number n) (Ok n) (formula_of is.found) (λ tree e. known_number (with_values constants tree) (known_value constants tree) n e) (λ cause e. absurd cc) is.amount';
}

pub number_open : (constants : Constants) (text : List ℕ) (v : Rattle.std.specs.Global.Vec ℕ) → HasAmount constants text (Ok (amounts.Written v)) → HasNumber constants text (Err UnknownConstant)
unfolding amount
number_open constants text v is = record {
  found = is.found;
  formula = is.formula;
  number = by_formula constants (kept_text v.items) (Err UnknownConstant) (formula_of is.found) (λ tree e. open_number (with_values constants tree) (known_value constants tree) v.items e) (λ cause e. absurd cc) is.amount';
}

pub number_bad : (constants : Constants) (text : List ℕ) (cause : AsmCause) → HasAmount constants text (Err cause) → HasNumber constants text (Err cause)
unfolding amount
number_bad constants text cause is = record {
  found = is.found;
  formula = is.formula;
  number = by_formula constants (kept_fault cause) (Err cause) (formula_of is.found) (λ tree e. bad_number (with_values constants tree) (known_value constants tree) cause e) (λ other e. same other e) is.amount';
}
  where
    same : (other : AsmCause) → kept_fault cause ≡ kept_fault other → number_fault cause ≡ number_fault other
    same other e = cc
