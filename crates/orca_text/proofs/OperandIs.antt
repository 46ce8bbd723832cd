-- What was read is the operand of the text, or the text is none.
use Rattle.std.proofs.Common.{◌≡◌, ℕ, ◌+◌, ◌-◌, ◌^◌, ◌<◌, ◌≤◌, max, Bool, true, false, eqb, ltb, List, [], ◌∷◌, ◌++◌, length, Option, Some, None, refl, sym, ap, subst, ◌∙◌, append-nil, append_assoc, arith}
use Rattle.std.specs.Prelude.{◌||◌, IfOk, IfErr, Result, Ok, Err}
use Rattle.std.specs.List.{list_any}
use Rattle.std.specs.Option.{option_map}
use Rattle.std.proofs.lemmas.Bool.{eqb-true, eqb-false, leb-false, lt-ltb}
use Rattle.std.proofs.lemmas.List.{map-append}
use Rattle.omf_format.specs.Expression as expression
use Rattle.omf_format.specs.Expression.{Term, Tree, terms_of}
use Rattle.orca_meaning.specs.declared.forms.Form.{Form}
use Rattle.orca_meaning.specs.declared.forms.Form.TheVariants.{Nothing, Accumulator, Pair}
use Rattle.orca_meaning.specs.declared.forms.Index.{Index}
use Rattle.orca_meaning.specs.declared.forms.Opening.{Opening}
use Rattle.orca_meaning.specs.declared.forms.Opening.TheVariants.{Open, Hash, Round, Square}
use Rattle.orca_meaning.specs.declared.forms.Prefix.{Prefix}
use Rattle.orca_meaning.specs.declared.forms.Prefix.TheVariants.{Bare}
use Rattle.orca_meaning.specs.declared.lines.TextCause.{TextCause}
use Rattle.orca_meaning.specs.declared.lines.TextCause.TheVariants.{LineTooLong, TooManyLines, BadOperand, BadNumber, Memory}
use Rattle.orca_meaning.specs.declared.mnemonics.Mnemonic.{Mnemonic}
use Rattle.orca_meaning.specs.declared.operators.Operands.TheVariants.{Labels}
use Rattle.orca_meaning.specs.declared.operators.Operands.{Operands}
use Rattle.orca_meaning.specs.Token as token
use Rattle.orca_meaning.specs.Formula.{Formula, Single, Group, Signed, Joined, tree_of, sign_code, operator_code, pending, has_large, MeansAt}
use Rattle.orca_meaning.specs.laws.FormulaLaws.{one_tree, sign_has_one, operator_has_two}
use Rattle.orca_meaning.specs.Operand.{Meaning, is_accumulator, opening, prefix, body, form_after, plain_form, whole_index, IsOperand, IsMissing, IsInAccumulator, IsOne, IsTwo, AreShallow, IsBadOperand, IsRefusedFor}
use Rattle.orca_meaning.specs.laws.Steps.{is_large, values_here}
use Rattle.orca_meaning.specs.laws.OperandLaws.{one_operand}
use Rattle.orca_text.specs.declared.operand.Operand.{Operand}
use Rattle.orca_text.specs.FormulaAt.{IsFormulaAt, HasNoFormula}
use Rattle.orca_text.specs.Kept.{kept_term, kept_terms}
use Rattle.orca_text.specs.OperandView.{IsRead, IsRefusedHere, IsSecond, HasNoSecond}
use Rattle.orca_text.specs.Peak.{peak}

-- ---- pending values

peak_tree : (here now most : ℕ) (f : Formula) (more : List Term)
    → peak here now most (kept_terms (terms_of (tree_of f)) ++ more) ≡ peak here (now + 1) (max most (now + pending here (tree_of f))) more
peak_tree here now most (Single token.Here) more = refl
peak_tree here now most (Single (token.Number n)) more = refl
peak_tree here now most (Single (token.Label name)) more = refl
peak_tree here now most (Single (token.LengthOf name)) more = refl
peak_tree here now most (Single (token.CountOf name)) more = refl
peak_tree here now most (Group inner) more = peak_tree here now most inner more
peak_tree here now most (Signed sign operand) more =
    let code = sign_code sign in
    let terms = terms_of (tree_of operand) in
    let last = expression.Operator code ∷ more in
    let p = pending here (tree_of operand) in
    let split : kept_terms (terms ++ expression.Operator code ∷ []) ++ more ≡ kept_terms terms ++ last =
    ap (λ (l : List Term). l ++ more) (map-append kept_term terms (expression.Operator code ∷ [])) ∙ append_assoc (kept_terms terms) (expression.Operator code ∷ []) more in
    let count : now + 1 - expression.operand_count code + 1 ≡ now + 1 = omega (arith, sign_has_one sign) in
    let most_is : max (max most (now + p)) 0 ≡ max most (now + p) = omega arith in
    ap (peak here now most) split ∙ peak_tree here now most operand last
    ∙ ap (λ (k : ℕ). peak here k (max (max most (now + p)) 0) more) count ∙ ap (λ (m : ℕ). peak here (now + 1) m more) most_is
peak_tree here now most (Joined operator left right) more =
    let code = operator_code operator in
    let first = terms_of (tree_of left) in
    let second = terms_of (tree_of right) in
    let last = expression.Operator code ∷ more in
    let p = pending here (tree_of left) in
    let q = pending here (tree_of right) in
    let split_right : kept_terms (second ++ expression.Operator code ∷ []) ++ more ≡ kept_terms second ++ last =
    ap (λ (l : List Term). l ++ more) (map-append kept_term second (expression.Operator code ∷ [])) ∙ append_assoc (kept_terms second) (expression.Operator code ∷ []) more in
    let split : kept_terms (first ++ (second ++ expression.Operator code ∷ [])) ++ more ≡ kept_terms first ++ (kept_terms second ++ last) =
    ap (λ (l : List Term). l ++ more) (map-append kept_term first (second ++ expression.Operator code ∷ [])) ∙ append_assoc (kept_terms first) (kept_terms (second ++ expression.Operator code ∷ [])) more
    ∙ ap (λ (l : List Term). kept_terms first ++ l) split_right in
    let count : now + 1 + 1 - expression.operand_count code + 1 ≡ now + 1 = omega (arith, operator_has_two operator) in
    let most_is : max (max (max most (now + p)) (now + 1 + q)) 0 ≡ max most (now + max p (q + 1)) = omega arith in
    ap (peak here now most) split ∙ peak_tree here now most left (kept_terms second ++ last) ∙ peak_tree here (now + 1) (max most (now + p)) right last
    ∙ ap (λ (k : ℕ). peak here k (max (max (max most (now + p)) (now + 1 + q)) 0) more) count ∙ ap (λ (m : ℕ). peak here (now + 1) m more) most_is

pub peak_is : {o : Operands} (here : ℕ) (text : List ℕ) (terms : List Term) (large : Bool) (rest : List ℕ) (f : IsFormulaAt o text terms large rest) → peak here 0 0 terms ≡ pending here f.tree
peak_is here text terms large rest f =
    let whole : peak here 0 0 (kept_terms (terms_of f.tree)) ≡ pending here f.tree =
    subst (λ (t : Tree). peak here 0 0 (kept_terms (terms_of t)) ≡ pending here t) f.means.means
    (ap (peak here 0 0) (sym (append-nil (kept_terms (terms_of (tree_of f.means.formula))))) ∙ peak_tree here 0 0 f.means.formula []
    ∙ max_zero (pending here (tree_of f.means.formula))) in
    ap (peak here 0 0) f.kept ∙ whole
  where
    max_zero : (n : ℕ) → max 0 (0 + n) ≡ n
    max_zero n = omega arith

-- ---- numbers that fit

kept_fitting : (term : Term) → is_large term ≡ false → kept_term term ≡ term
kept_fitting (expression.Operator code) small = refl
kept_fitting expression.Location small = refl
kept_fitting (expression.Constant n) small =
    let test : ltb n (2 ^ 32) ≡ true = lt-ltb n (2 ^ 32) (leb-false (2 ^ 32) n small) in
    rw test refl
kept_fitting (expression.Named code name) small = refl
kept_fitting (expression.Offset n) small = refl

or_parts : (a b : Bool) → (a || b) ≡ false → (a ≡ false) × (b ≡ false)
or_parts true b e = absurd cc
or_parts false b e = (refl, e)

kept_all : (terms : List Term) → list_any is_large terms ≡ false → kept_terms terms ≡ terms
kept_all [] small = refl
kept_all (term ∷ terms) small =
    let both = or_parts (is_large term) (list_any is_large terms) small in
    ap (λ (t : Term). t ∷ kept_terms terms) (kept_fitting term both.0) ∙ ap (λ (l : List Term). term ∷ l) (kept_all terms both.1)

pub terms_are : {o : Operands} (text : List ℕ) (terms : List Term) (large : Bool) (rest : List ℕ) (f : IsFormulaAt o text terms large rest) → large ≡ false → terms ≡ terms_of f.tree
terms_are text terms large rest f small = f.kept ∙ kept_all (terms_of f.tree) (sym f.large_is ∙ small)

-- ---- operands

abbrev written : Form → Prefix → List Tree → Meaning
written form prefix trees = record { form = form; prefix = prefix; trees = trees }

pub nothing_read : (m : Option Mnemonic) (text : List ℕ) (o : Operand) → text ≡ [] → (o.form ≡ Nothing) × (o.prefix ≡ Bare) × (o.first ≡ []) × (o.second ≡ None) → IsRead m text o
nothing_read m text o none is = record {
  meaning = written Nothing Bare [];
  good = record { is = IsMissing none refl; shallow = tt; small = refl };
  written = record { form_is = is.0; prefix_is = is.1; first_is = is.2; second_is = is.3 };
}

pub accumulator_read : (m : Option Mnemonic) (text : List ℕ) (o : Operand) → is_accumulator m text ≡ true → (o.form ≡ Accumulator) × (o.prefix ≡ Bare) × (o.first ≡ []) × (o.second ≡ None) → IsRead m text o
accumulator_read m text o acc is = record {
  meaning = written Accumulator Bare [];
  good = record { is = IsInAccumulator acc refl; shallow = tt; small = refl };
  written = record { form_is = is.0; prefix_is = is.1; first_is = is.2; second_is = is.3 };
}

-- the operand has one formula, and this form
pub record IsOneOf (m : Option Mnemonic) (text : List ℕ) (form : Form) (p : Prefix) (terms : List Term) (large : Bool) : Type 0 where
  pub tree : Tree
  pub is : IsOperand m text (written form p (tree ∷ []))
  pub peak_of : peak (values_here m) 0 0 terms ≡ pending (values_here m) tree
  pub large_of : large ≡ has_large tree
  pub terms_of_it : large ≡ false → terms ≡ terms_of tree

pub is_one : (m : Option Mnemonic) (text at : List ℕ) (o : Opening) (p : Prefix) (form : Form) (terms : List Term) (large : Bool) (rest : List ℕ) → is_accumulator m text ≡ false
    → o ≡ opening m text → p ≡ prefix m text → at ≡ body m text → IsFormulaAt Labels at terms large rest → Some form ≡ form_after o rest → IsOneOf m text form p terms large
is_one m text at o p form terms large rest not_a o_is p_is at_is f form_is = record {
  tree = f.tree;
  is = IsOne not_a f.tree rest form (subst (λ (t : List ℕ). MeansAt Labels t f.tree rest) at_is f.means) (subst (λ (x : Opening). form_after x rest ≡ Some form) o_is (sym form_is))
      (ap (λ (x : Prefix). written form x (f.tree ∷ [])) p_is);
  peak_of = peak_is (values_here m) at terms large rest f;
  large_of = f.large_is;
  terms_of_it = terms_are at terms large rest f;
}

or_none : (b : Bool) → (b || false) ≡ b
or_none true = refl
or_none false = refl

pub one_read : (m : Option Mnemonic) (text : List ℕ) (form : Form) (p : Prefix) (terms : List Term) (large : Bool) (here : ℕ) (r : Result Operand TextCause) → here ≡ values_here m → IsOneOf m text form p terms large
    → IfOk r (λ o. (o.form ≡ form) × (o.prefix ≡ p) × (o.first ≡ terms) × (o.second ≡ None) × (peak here 0 0 terms ≤ 64) × (large ≡ false)) → IfOk r (IsRead m text)
one_read m text form p terms large here (Ok o) here_is one is = record {
  meaning = written form p (one.tree ∷ []);
  good = record {
    is = one.is;
    shallow = (omega (arith, is.4, one.peak_of, ap (λ (h : ℕ). peak h 0 0 terms) here_is), tt);
    small = or_none (has_large one.tree) ∙ sym one.large_of ∙ is.5;
  };
  written = record { form_is = is.0; prefix_is = is.1; first_is = is.2 ∙ one.terms_of_it is.5; second_is = is.3 };
}
one_read m text form p terms large here (Err cause) here_is one is = is

-- an operand whose trees are too deep is none
too_deep : (m : Option Mnemonic) (text : List ℕ) (meaning : Meaning) → IsOperand m text meaning → (AreShallow m meaning.trees → ⊥) → IsBadOperand m text
too_deep m text meaning is deep other is' shallow = deep (subst (λ (x : Meaning). AreShallow m x.trees) (one_operand m text other meaning is' is) shallow)

pub one_refused : (m : Option Mnemonic) (text : List ℕ) (form : Form) (p : Prefix) (terms : List Term) (large : Bool) (here : ℕ) (r : Result Operand TextCause) → here ≡ values_here m → IsOneOf m text form p terms large
    → IfErr r (λ cause. IsRefusedHere cause (peak here 0 0 terms) large) → IfErr r (λ cause. IsRefusedFor cause m text)
one_refused m text form p terms large here (Ok o) here_is one is = is
one_refused m text form p terms large here (Err LineTooLong) here_is one is = absurd is
one_refused m text form p terms large here (Err TooManyLines) here_is one is = absurd is
one_refused m text form p terms large here (Err Memory) here_is one is = absurd is
one_refused m text form p terms large here (Err BadOperand) here_is one is =
    too_deep m text (written form p (one.tree ∷ [])) one.is (λ shallow. absurd (omega (arith, is, shallow.0, one.peak_of, ap (λ (h : ℕ). peak h 0 0 terms) here_is)))
one_refused m text form p terms large here (Err BadNumber) here_is one is = record {
  meaning = written form p (one.tree ∷ []);
  is = one.is;
  shallow = (omega (arith, is.0, one.peak_of, ap (λ (h : ℕ). peak h 0 0 terms) here_is), tt);
  large = or_none (has_large one.tree) ∙ sym one.large_of ∙ is.1;
}

-- the operand has two formulas
pub record IsTwoOf (m : Option Mnemonic) (text : List ℕ) (p : Prefix) (first second : List Term) (large larger : Bool) : Type 0 where
  pub tree : Tree
  pub other : Tree
  pub is : IsOperand m text (written Pair p (tree ∷ other ∷ []))
  pub peak_of : peak (values_here m) 0 0 first ≡ pending (values_here m) tree
  pub peak_of_other : peak (values_here m) 0 0 second ≡ pending (values_here m) other
  pub large_of : large ≡ has_large tree
  pub large_of_other : larger ≡ has_large other
  pub terms_of_it : large ≡ false → first ≡ terms_of tree
  pub terms_of_other : larger ≡ false → second ≡ terms_of other

no_index : (x : Option Index) → None ≡ option_map plain_form x → x ≡ None
no_index None e = refl
no_index (Some i) e = absurd cc

pub is_two : (m : Option Mnemonic) (text at : List ℕ) (o : Opening) (p : Prefix) (first second : List Term) (large larger : Bool) (rest : List ℕ) → is_accumulator m text ≡ false
    → o ≡ opening m text → p ≡ prefix m text → at ≡ body m text → IsFormulaAt Labels at first large rest → None ≡ form_after o rest → o ≡ Open → IsSecond rest second larger
    → IsTwoOf m text p first second large larger
is_two m text at o p first second large larger rest not_a o_is p_is at_is f no_form o_open s =
    let none : None ≡ option_map plain_form (whole_index rest) = subst (λ (x : Opening). None ≡ form_after x rest) o_open no_form in
    let index : whole_index (0x2C ∷ s.following) ≡ None = subst (λ (t : List ℕ). whole_index t ≡ None) s.comma (no_index (whole_index rest) none) in
    let here : MeansAt Labels (body m text) f.tree (0x2C ∷ s.following) =
    subst (λ (r : List ℕ). MeansAt Labels (body m text) f.tree r) s.comma (subst (λ (t : List ℕ). MeansAt Labels t f.tree rest) at_is f.means) in
    record {
      tree = f.tree;
      other = s.formula.tree;
      is = IsTwo not_a (sym o_is ∙ o_open) f.tree s.formula.tree s.following here index s.formula.means (ap (λ (x : Prefix). written Pair x (f.tree ∷ s.formula.tree ∷ [])) p_is);
      peak_of = peak_is (values_here m) at first large rest f;
      peak_of_other = peak_is (values_here m) s.following second larger [] s.formula;
      large_of = f.large_is;
      large_of_other = s.formula.large_is;
      terms_of_it = terms_are at first large rest f;
      terms_of_other = terms_are s.following second larger [] s.formula;
    }

both_large : (a b : Bool) → (a || (b || false)) ≡ (a || b)
both_large true b = refl
both_large false b = or_none b

larges : (m : Option Mnemonic) (text : List ℕ) (p : Prefix) (first second : List Term) (large larger : Bool) (two : IsTwoOf m text p first second large larger)
    → list_any has_large (two.tree ∷ two.other ∷ []) ≡ (large || larger)
larges m text p first second large larger two = both_large (has_large two.tree) (has_large two.other) ∙ ap (λ (b : Bool). b || has_large two.other) (sym two.large_of) ∙ ap (λ (b : Bool). large || b) (sym two.large_of_other)

pub two_read : (m : Option Mnemonic) (text : List ℕ) (p : Prefix) (first second : List Term) (large larger : Bool) (here : ℕ) (r : Result Operand TextCause) → here ≡ values_here m → IsTwoOf m text p first second large larger
    → IfOk r (λ o. (o.form ≡ Pair) × (o.prefix ≡ p) × (o.first ≡ first) × (o.second ≡ Some second) × (max (peak here 0 0 first) (peak here 0 0 second) ≤ 64) × ((large || larger) ≡ false)) → IfOk r (IsRead m text)
two_read m text p first second large larger here (Ok o) here_is two is =
    let small = or_parts large larger is.5 in
    record {
      meaning = written Pair p (two.tree ∷ two.other ∷ []);
      good = record {
        is = two.is;
        shallow = (omega (arith, is.4, two.peak_of, ap (λ (h : ℕ). peak h 0 0 first) here_is), (omega (arith, is.4, two.peak_of_other, ap (λ (h : ℕ). peak h 0 0 second) here_is), tt));
        small = larges m text p first second large larger two ∙ is.5;
      };
      written = record { form_is = is.0; prefix_is = is.1; first_is = is.2 ∙ two.terms_of_it small.0; second_is = is.3 ∙ ap (λ (l : List Term). Some l) (two.terms_of_other small.1) };
    }
two_read m text p first second large larger here (Err cause) here_is two is = is

pub two_refused : (m : Option Mnemonic) (text : List ℕ) (p : Prefix) (first second : List Term) (large larger : Bool) (here : ℕ) (r : Result Operand TextCause) → here ≡ values_here m → IsTwoOf m text p first second large larger
    → IfErr r (λ cause. IsRefusedHere cause (max (peak here 0 0 first) (peak here 0 0 second)) (large || larger)) → IfErr r (λ cause. IsRefusedFor cause m text)
two_refused m text p first second large larger here (Ok o) here_is two is = is
two_refused m text p first second large larger here (Err LineTooLong) here_is two is = absurd is
two_refused m text p first second large larger here (Err TooManyLines) here_is two is = absurd is
two_refused m text p first second large larger here (Err Memory) here_is two is = absurd is
two_refused m text p first second large larger here (Err BadOperand) here_is two is =
    too_deep m text (written Pair p (two.tree ∷ two.other ∷ [])) two.is
    (λ shallow. absurd (omega (arith, is, shallow.0, shallow.1.0, two.peak_of, two.peak_of_other, ap (λ (h : ℕ). peak h 0 0 first) here_is, ap (λ (h : ℕ). peak h 0 0 second) here_is)))
two_refused m text p first second large larger here (Err BadNumber) here_is two is = record {
  meaning = written Pair p (two.tree ∷ two.other ∷ []);
  is = two.is;
  shallow = (omega (arith, is.0, two.peak_of, ap (λ (h : ℕ). peak h 0 0 first) here_is), (omega (arith, is.0, two.peak_of_other, ap (λ (h : ℕ). peak h 0 0 second) here_is), tt));
  large = larges m text p first second large larger two ∙ is.1;
}

-- ---- no operand

clash : (b : Bool) → b ≡ true → b ≡ false → ⊥
clash b p q = let e : true ≡ false = sym p ∙ q in absurd cc

-- there is no formula where one has to be
pub no_first : (m : Option Mnemonic) (text at : List ℕ) → 0 < length text → is_accumulator m text ≡ false → at ≡ body m text → HasNoFormula Labels at → IsBadOperand m text
no_first m text at some not_a at_is none meaning (IsMissing nothing is) shallow = absurd (omega (arith, some, ap length nothing))
no_first m text at some not_a at_is none meaning (IsInAccumulator acc is) shallow = clash _ acc not_a
no_first m text at some not_a at_is none meaning (IsOne other tree rest form means following is) shallow = none tree rest (subst (λ (t : List ℕ). MeansAt Labels t tree rest) (sym at_is) means)
no_first m text at some not_a at_is none meaning (IsTwo other bare first second following means index means' is) shallow =
    none first (0x2C ∷ following) (subst (λ (t : List ℕ). MeansAt Labels t first (0x2C ∷ following)) (sym at_is) means)

-- what follows the formula makes no form, and no pair
pub no_form : (m : Option Mnemonic) (text at : List ℕ) (o : Opening) (terms : List Term) (large : Bool) (rest : List ℕ) → 0 < length text → is_accumulator m text ≡ false
    → o ≡ opening m text → at ≡ body m text → IsFormulaAt Labels at terms large rest → None ≡ form_after o rest → (o ≡ Open → HasNoSecond rest) → IsBadOperand m text
no_form m text at o terms large rest some not_a o_is at_is f none no_second meaning (IsMissing nothing is) shallow = absurd (omega (arith, some, ap length nothing))
no_form m text at o terms large rest some not_a o_is at_is f none no_second meaning (IsInAccumulator acc is) shallow = clash _ acc not_a
no_form m text at o terms large rest some not_a o_is at_is f none no_second meaning (IsOne other tree rest' form means following is) shallow =
    let same : rest' ≡ rest = (one_tree Labels (body m text) tree f.tree rest' rest means (subst (λ (t : List ℕ). MeansAt Labels t f.tree rest) at_is f.means)).1 in
    let here : form_after o rest ≡ Some form = subst (λ (r : List ℕ). form_after o r ≡ Some form) same (subst (λ (x : Opening). form_after x rest' ≡ Some form) (sym o_is) following) in
    let e : None ≡ Some form = none ∙ here in
    absurd cc
no_form m text at o terms large rest some not_a o_is at_is f none no_second meaning (IsTwo other bare first second following means index means' is) shallow =
    let same : 0x2C ∷ following ≡ rest = (one_tree Labels (body m text) first f.tree (0x2C ∷ following) rest means (subst (λ (t : List ℕ). MeansAt Labels t f.tree rest) at_is f.means)).1 in
    no_second (o_is ∙ bare) following second (sym same) means'

-- ---- the second formula

comma_same : (a b : List ℕ) → 0x2C ∷ a ≡ 0x2C ∷ b → a ≡ b
comma_same a b e = cc

pub no_second_formula : (rest following : List ℕ) → rest ≡ 0x2C ∷ following → HasNoFormula Labels following → HasNoSecond rest
no_second_formula rest following comma none other tree is means =
    none tree [] (subst (λ (t : List ℕ). MeansAt Labels t tree []) (comma_same other following (sym is ∙ comma)) means)

pub second_goes_on : (rest following : List ℕ) (terms : List Term) (large : Bool) (more : List ℕ) → rest ≡ 0x2C ∷ following → IsFormulaAt Labels following terms large more → (length more ≡ 0 → ⊥) → HasNoSecond rest
second_goes_on rest following terms large more comma f some other tree is means =
    let here : MeansAt Labels following tree [] = subst (λ (t : List ℕ). MeansAt Labels t tree []) (comma_same other following (sym is ∙ comma)) means in
    some (ap length (one_tree Labels following f.tree tree more [] f.means here).1)

pub some_left : (b : Bool) (n : ℕ) → b ≡ eqb n 0 → b ≡ false → n ≡ 0 → ⊥
some_left b n is other = eqb-false n 0 (sym is ∙ other)

-- after another opening there is no second formula
pub not_hash : (o : Opening) (rest : List ℕ) → o ≡ Hash → o ≡ Open → HasNoSecond rest
not_hash o rest is bare = let e : Hash ≡ Open = sym is ∙ bare in absurd cc

pub not_round : (o : Opening) (rest : List ℕ) → o ≡ Round → o ≡ Open → HasNoSecond rest
not_round o rest is bare = let e : Round ≡ Open = sym is ∙ bare in absurd cc

pub not_square : (o : Opening) (rest : List ℕ) → o ≡ Square → o ≡ Open → HasNoSecond rest
not_square o rest is bare = let e : Square ≡ Open = sym is ∙ bare in absurd cc

pub empty_text : (text : List ℕ) → true ≡ eqb (length text) 0 → text ≡ []
empty_text [] is = refl
empty_text (byte ∷ text) is = let none : length (byte ∷ text) ≡ 0 = eqb-true _ _ (sym is) in absurd (omega arith)
