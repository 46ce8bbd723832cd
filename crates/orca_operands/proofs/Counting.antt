-- The repeat counts of elements.
use Rattle.std.proofs.Common.{◌≡◌, ◌≢◌, ℕ, ◌^◌, Bool, true, false, ltb, leb, List, ◌∷◌, Option, Some, None, refl, sym, ap, subst, ◌∙◌}
use Rattle.std.specs.Prelude.{IfSome, IfNone}
use Rattle.std.proofs.lemmas.Bool.{ltb-true, ltb-false, le-leb, lt-leb}
use Rattle.omf_format.specs.Expression.{Tree, Term}
use Rattle.orca_meaning.specs.declared.operators.Operands.TheVariants.{Labels}
use Rattle.orca_meaning.specs.Formula.{MeansAt}
use Rattle.orca_meaning.specs.laws.FormulaLaws.{one_tree}
use Rattle.orca_meaning.specs.Token.{Found, seen_as, digits_at}
use Rattle.orca_text.specs.FormulaAt.{IsFormulaAt, HasNoFormula}
use Rattle.orca_text.specs.Kept.{fitting}
use Rattle.asm_meaning.specs.Answer.{Answer}
use Rattle.asm_meaning.specs.Constant.{Constants}
use Rattle.asm_meaning.specs.Elements.{Repeat, Digits, Computed, after_parenthesis, IsRepeatAt, count_of}
use Rattle.asm_meaning.specs.laws.Steps.{IsRepeatBy}
use Rattle.orca_operands.specs.DcView.{IsComputed, IsCounted, HasCount, count_by}

pub if_some : {A : Type 0} (P Q : A → Type 0) (o : Option A) → IfSome o P → ((x : A) → P x → Q x) → IfSome o Q
if_some P Q None is step = tt
if_some P Q (Some x) is step = step x is

pub if_none : {A : Type 0} (P Q : Type 0) (o : Option A) → IfNone o P → (P → Q) → IfNone o Q
if_none P Q None is step = step is
if_none P Q (Some x) is step = tt

-- ---- a formula in parentheses

pub computed_is : (cs : Constants) (text following : List ℕ) (answer : Answer ℕ) (rest : List ℕ) → after_parenthesis text ≡ Some following → IsComputed cs following answer rest → HasCount cs text answer rest
computed_is cs text following answer rest opens c = record {
  repeat = Computed c.tree;
  is = subst (λ (o : Option (List ℕ)). IsRepeatBy o (digits_at 10 text) text (Computed c.tree) rest) (sym opens) (c.tree, c.means, refl);
  gives = c.gives;
}

pub computed_none : (text following : List ℕ) → after_parenthesis text ≡ Some following → ((tree : Tree) (rest : List ℕ) → MeansAt Labels following tree (0x29 ∷ rest) → ⊥) → (repeat : Repeat) (rest : List ℕ) → IsRepeatAt text repeat rest → ⊥
computed_none text following opens none repeat rest is =
    let there = subst (λ (o : Option (List ℕ)). IsRepeatBy o (digits_at 10 text) text repeat rest) opens is in
    none there.0 rest there.1

pub no_computed : (following : List ℕ) → HasNoFormula Labels following → (tree : Tree) (rest : List ℕ) → MeansAt Labels following tree (0x29 ∷ rest) → ⊥
no_computed following none tree rest is = none tree (0x29 ∷ rest) is

pub not_closed : (following : List ℕ) (terms : List Term) (large : Bool) (r : List ℕ) → IsFormulaAt Labels following terms large r → ((s : List ℕ) → r ≢ 0x29 ∷ s) → (tree : Tree) (rest : List ℕ) → MeansAt Labels following tree (0x29 ∷ rest) → ⊥
not_closed following terms large r f other tree rest is = other rest (one_tree Labels following f.tree tree r (0x29 ∷ rest) f.means is).1

-- ---- digits

fitting_by : (cs : Constants) (n : ℕ) → count_by (fitting n) ≡ count_of cs (Digits n)
fitting_by cs n = by_size (ltb n (2 ^ 32)) refl
  where
    by_size : (b : Bool) → ltb n (2 ^ 32) ≡ b → count_by (fitting n) ≡ count_of cs (Digits n)
    by_size true is = let other : leb (2 ^ 32) n ≡ false = lt-leb (2 ^ 32) n (ltb-true n (2 ^ 32) is) in rw (is, other) refl
    by_size false is = let other : leb (2 ^ 32) n ≡ true = le-leb (2 ^ 32) n (ltb-false n (2 ^ 32) is) in rw (is, other) refl

pub counted : (text : List ℕ) (n : Option ℕ) (answer : Answer ℕ) (rest : List ℕ) → seen_as fitting (digits_at 10 text) ≡ Some (n, rest) → answer ≡ count_by n → IsCounted text answer rest
counted text n answer rest seen is = by_digits (digits_at 10 text) refl seen
  where
    same : (x y : Option ℕ × List ℕ) → Some x ≡ Some y → x ≡ y
    same x y e = cc

    by_digits : (d : Found ℕ) → digits_at 10 text ≡ d → seen_as fitting d ≡ Some (n, rest) → IsCounted text answer rest
    by_digits None e seen = absurd cc
    by_digits (Some (m, s)) e seen =
        let both = same (fitting m, s) (n, rest) seen in
        let left : s ≡ rest = ap (λ (x : Option ℕ × List ℕ). x.1) both in
        let right : fitting m ≡ n = ap (λ (x : Option ℕ × List ℕ). x.0) both in
        record { n = m; is = e ∙ ap (λ (r : List ℕ). there m r) left; gives = λ cs. is ∙ ap count_by (sym right) ∙ fitting_by cs m }
      where
        there : ℕ → List ℕ → Found ℕ
        there m r = Some (m, r)

pub digits_are : (cs : Constants) (text : List ℕ) (answer : Answer ℕ) (rest : List ℕ) → after_parenthesis text ≡ None → IsCounted text answer rest → HasCount cs text answer rest
digits_are cs text answer rest none c = record {
  repeat = Digits c.n;
  is = subst (λ (o : Option (List ℕ)). IsRepeatBy o (digits_at 10 text) text (Digits c.n) rest) (sym none)
      (subst (λ (d : Found ℕ). IsRepeatBy None d text (Digits c.n) rest) (sym c.is) (refl, refl));
  gives = c.gives cs;
}
