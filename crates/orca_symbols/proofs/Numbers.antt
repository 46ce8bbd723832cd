-- The value of a formula.
use Rattle.std.proofs.Common.{◌≡◌, ◌≢◌, ◌≤◌, ◌<◌, ℕ, Bool, true, false, ltb, eqb, List, [], ◌∷◌, ◌++◌, length, refl, sym, ap, subst, ◌∙◌, append-nil, arith}
use Rattle.std.specs.Prelude.{Result, Ok, Err, IfOk, ◌&&◌}
use Rattle.std.specs.List.{list_all}
use Rattle.std.proofs.Common.{◌⊎◌, inl, inr}
use Rattle.std.specs.Prelude.{IsTrue, ◌↔◌}
use Rattle.std.proofs.lemmas.Bool.{lt-ltb, le-ltb, cases_lt, eqb-true}
use Rattle.omf_format.specs.declared.value.Value.{Value}
use Rattle.omf_format.specs.declared.value.ValueFault.{ValueFault}
use Rattle.omf_format.specs.declared.expression.ExprFault.{ExprFault}
use Rattle.omf_format.specs.Expression.{Term, Operator, Location, Constant, Named, Offset, Tree, terms_of, terms_text, depth, Spells, Expression, BeginsWith, AreTerms}
use Rattle.omf_format.specs.laws.TreeLaws.{tree_has_terms}
use Rattle.omf_format.specs.Value.{Environment, value}
use Rattle.orca_meaning.specs.declared.operators.Operands.TheVariants.{Symbols}
use Rattle.orca_meaning.specs.Formula.{MeansAt, has_large}
use Rattle.orca_meaning.specs.laws.FormulaLaws.{formed, one_tree, pending-one}
use Rattle.macro_meaning.specs.declared.faults.MacroCause.TheVariants.{NoSuchSymbol, BadSetting}
use Rattle.macro_meaning.specs.Condition.{Answer, symbol_environment, answer_of, IsNumber, Formula, NoFormula}
use Rattle.macro_meaning.specs.laws.Steps.{is_declared, number_of}
use Rattle.macro_meaning.specs.Symbol.{Values}
use Rattle.orca_text.specs.FormulaAt.{IsFormulaAt, HasNoFormula}
use Rattle.orca_text.specs.Kept.{kept_terms}
use Rattle.orca_text.specs.Peak.{peak}
use Rattle.orca_text.proofs.OperandIs.{peak_is, terms_are}

pub no_formula : (values : Values) (text : List ℕ) → HasNoFormula Symbols text → IsNumber values text (Err BadSetting)
no_formula values text none = NoFormula (λ tree means. none tree [] means) refl

pub more_after : (values : Values) (text : List ℕ) (terms : List Term) (large : Bool) (rest : List ℕ) → IsFormulaAt Symbols text terms large rest → rest ≢ [] → IsNumber values text (Err BadSetting)
more_after values text terms large rest f some = NoFormula (λ tree means. some (sym (one_tree Symbols text tree f.tree [] rest means f.means).1)) refl

-- what is kept of terms asks for the same symbols
declared_kept : (values : Values) (terms : List Term) → list_all (is_declared values) (kept_terms terms) ≡ list_all (is_declared values) terms
declared_kept values [] = refl
declared_kept values (Operator code ∷ terms) = declared_kept values terms
declared_kept values (Location ∷ terms) = declared_kept values terms
declared_kept values (Constant n ∷ terms) = declared_kept values terms
declared_kept values (Named code name ∷ terms) = ap (λ (b : Bool). is_declared values (Named code name) && b) (declared_kept values terms)
declared_kept values (Offset n ∷ terms) = declared_kept values terms

means_all : (text : List ℕ) (rest : List ℕ) (tree : Tree) → rest ≡ [] → MeansAt Symbols text tree rest → MeansAt Symbols text tree []
means_all text rest tree e means = subst (MeansAt Symbols text tree) e means

pub undeclared : (values : Values) (text : List ℕ) (terms : List Term) (large : Bool) (rest : List ℕ) → IsFormulaAt Symbols text terms large rest → rest ≡ [] → list_all (is_declared values) terms ≡ false
    → IsNumber values text (Err NoSuchSymbol)
unfolding answer_of
undeclared values text terms large rest f e lacks =
    let none : list_all (is_declared values) (terms_of f.tree) ≡ false = sym (declared_kept values (terms_of f.tree)) ∙ ap (list_all (is_declared values)) (sym f.kept) ∙ lacks in
    Formula f.tree (means_all text rest f.tree e f.means) (rw none refl)

pub too_large : (values : Values) (text : List ℕ) (terms : List Term) (large : Bool) (rest : List ℕ) → IsFormulaAt Symbols text terms large rest → rest ≡ [] → list_all (is_declared values) terms ≡ true → large ≡ true
    → IsNumber values text (Err BadSetting)
unfolding answer_of
too_large values text terms large rest f e has is =
    let all : list_all (is_declared values) (terms_of f.tree) ≡ true = sym (declared_kept values (terms_of f.tree)) ∙ ap (list_all (is_declared values)) (sym f.kept) ∙ has in
    let big : has_large f.tree ≡ true = sym f.large_is ∙ is in
    Formula f.tree (means_all text rest f.tree e f.means) (rw (all, big) refl)

pub too_deep : (values : Values) (text : List ℕ) (terms : List Term) (large : Bool) (rest : List ℕ) → IsFormulaAt Symbols text terms large rest → rest ≡ [] → list_all (is_declared values) terms ≡ true → large ≡ false
    → 64 < peak 1 0 0 terms → IsNumber values text (Err BadSetting)
unfolding answer_of
too_deep values text terms large rest f e has is deep =
    let all : list_all (is_declared values) (terms_of f.tree) ≡ true = sym (declared_kept values (terms_of f.tree)) ∙ ap (list_all (is_declared values)) (sym f.kept) ∙ has in
    let small : has_large f.tree ≡ false = sym f.large_is ∙ is in
    let size : peak 1 0 0 terms ≡ depth f.tree = peak_is 1 text terms large rest f ∙ pending-one f.tree in
    let much : ltb 64 (depth f.tree) ≡ true = lt-ltb 64 (depth f.tree) (subst (λ (k : ℕ). 64 < k) size deep) in
    Formula f.tree (means_all text rest f.tree e f.means) (rw (all, small, much) refl)

pub fine_terms : (text : List ℕ) (terms : List Term) (large : Bool) (rest : List ℕ) → length text ≤ 255 → IsFormulaAt Symbols text terms large rest → large ≡ false → AreTerms 0 terms
fine_terms text terms large rest short f is =
    let small : has_large f.tree ≡ false = sym f.large_is ∙ is in
    subst (AreTerms 0) (sym (terms_are text terms large rest f is)) (tree_has_terms 0 f.tree (formed Symbols text f.tree rest short f.means small))

pub has_value : (values : Values) (text : List ℕ) (terms : List Term) (large : Bool) (rest : List ℕ) (answer : Answer) → length text ≤ 255 → IsFormulaAt Symbols text terms large rest → rest ≡ []
    → list_all (is_declared values) terms ≡ true → large ≡ false → peak 1 0 0 terms ≤ 64
    → ((tree : Tree) → Spells 0 (terms_text 0 terms ++ 0x00 ∷ []) tree → answer ≡ number_of (value (symbol_environment values) 0 0 tree)) → IsNumber values text answer
unfolding answer_of
has_value values text terms large rest answer short f e has is shallow value_is =
    let all : list_all (is_declared values) (terms_of f.tree) ≡ true = sym (declared_kept values (terms_of f.tree)) ∙ ap (list_all (is_declared values)) (sym f.kept) ∙ has in
    let small : has_large f.tree ≡ false = sym f.large_is ∙ is in
    let size : peak 1 0 0 terms ≡ depth f.tree = peak_is 1 text terms large rest f ∙ pending-one f.tree in
    let few : depth f.tree ≤ 64 = subst (λ (k : ℕ). k ≤ 64) size shallow in
    let much : ltb 64 (depth f.tree) ≡ false = le-ltb 64 (depth f.tree) few in
    let same : terms ≡ terms_of f.tree = terms_are text terms large rest f is in
    let spells : Spells 0 (terms_text 0 terms ++ 0x00 ∷ []) f.tree =
    record { formed = formed Symbols text f.tree rest short f.means small; shallow = few; spelled = ap (λ (t : List Term). terms_text 0 t ++ 0x00 ∷ []) same } in
    Formula f.tree (means_all text rest f.tree e f.means) (value_is f.tree spells ∙ rw (all, small, much) refl)

-- ---- through bytes

begins_whole : (bytes : List ℕ) (tree : Tree) → Spells 0 bytes tree → BeginsWith 0 bytes bytes
begins_whole bytes tree spells = record { expression = record { tree = tree; spells = spells }; rest = []; parts = sym (append-nil bytes) }

abbrev pub spelled : List ℕ → Expression
spelled text = record { text = text; lab_len = 0 }

pub evaluated : (env : Environment) (bytes written : List ℕ) (e : Expression) (r : Result Expression ExprFault) (v : Result Value ValueFault) → bytes ≡ written → r ≡ Ok e
    → ((text : List ℕ) → BeginsWith 0 bytes text → r ≡ Ok (spelled text)) → ((tree : Tree) → Spells e.lab_len e.text tree → v ≡ value env e.lab_len 0 tree)
    → (tree : Tree) → Spells 0 written tree → number_of v ≡ number_of (value env 0 0 tree)
evaluated env bytes written e r v same found only is tree spells =
    let here : Spells 0 bytes tree = subst (λ (b : List ℕ). Spells 0 b tree) (sym same) spells in
    let all : r ≡ Ok (spelled bytes) = only bytes (begins_whole bytes tree here) in
    let e_is : spelled bytes ≡ e = same_ok r (spelled bytes) e all found in
    ap number_of (subst (λ (x : Expression). Spells x.lab_len x.text tree → v ≡ value env x.lab_len 0 tree) (sym e_is) (is tree) here)
  where
    same_ok : (r : Result Expression ExprFault) (a b : Expression) → r ≡ Ok a → r ≡ Ok b → a ≡ b
    same_ok r a b p q = cc

pub not_refused : (bytes written : List ℕ) (fault : ExprFault) (r : Result Expression ExprFault) → bytes ≡ written → r ≡ Err fault
    → ((text : List ℕ) → BeginsWith 0 bytes text → r ≡ Ok (spelled text)) → (tree : Tree) → Spells 0 written tree → ⊥
not_refused bytes written fault r same is only tree spells =
    let here : Spells 0 bytes tree = subst (λ (b : List ℕ). Spells 0 b tree) (sym same) spells in
    clash (spelled bytes) (sym (only bytes (begins_whole bytes tree here)) ∙ is)
  where
    clash : (e : Expression) → Ok e ≡ Err fault → ⊥
    clash e x = cc

pub empty_rest : (rest : List ℕ) → eqb (length rest) 0 ≡ true → rest ≡ []
empty_rest [] is = refl
empty_rest (x ∷ rest) is = let none : length (x ∷ rest) ≡ 0 = eqb-true (length (x ∷ rest)) 0 is in absurd (omega (arith, none))

pub some_rest : (rest : List ℕ) → eqb (length rest) 0 ≡ false → rest ≢ []
some_rest [] is e = absurd cc
some_rest (x ∷ rest) is e = absurd cc

pub written_is : (bytes items : List ℕ) (terms formula : List Term) → bytes ≡ items → items ≡ terms_text 0 terms ++ 0x00 ∷ [] → terms ≡ formula → bytes ≡ terms_text 0 formula ++ 0x00 ∷ []
written_is bytes items terms formula a b e = a ∙ b ∙ ap (λ (t : List Term). terms_text 0 t ++ 0x00 ∷ []) e

pub not_deep : (b : Bool) (k : ℕ) → (IsTrue b ↔ (64 < k)) → b ≡ false → k ≤ 64
not_deep b k both is = by_cases (cases_lt 64 k)
  where
    by_cases : (64 < k) ⊎ (k ≤ 64) → k ≤ 64
    by_cases (inr few) = few
    by_cases (inl more) = let yes_it : b ≡ true = both.1 more in absurd cc

pub all_values : {E : Type 0} (values : Values) (text : List ℕ) (terms : List Term) (large : Bool) (rest : List ℕ) (r : Result Answer E) → length text ≤ 255 → IsFormulaAt Symbols text terms large rest → rest ≡ []
    → list_all (is_declared values) terms ≡ true → large ≡ false → peak 1 0 0 terms ≤ 64
    → IfOk r (λ answer. (tree : Tree) → Spells 0 (terms_text 0 terms ++ 0x00 ∷ []) tree → answer ≡ number_of (value (symbol_environment values) 0 0 tree)) → IfOk r (λ answer. IsNumber values text answer)
all_values values text terms large rest (Ok answer) short f e has is shallow value_is = has_value values text terms large rest answer short f e has is shallow value_is
all_values values text terms large rest (Err none) short f e has is shallow value_is = tt
