-- The laws of operands: a text is one operand at most.
use Rattle.std.proofs.Common.{◌≡◌, ℕ, Bool, true, false, List, [], ◌∷◌, ◌++◌, Option, Some, None, refl, sym, ap, subst, ◌∙◌, arith}
use Rattle.std.specs.Option.{option_map}
use Rattle.omf_format.specs.Expression.{Tree}
use Rattle.orca_meaning.specs.declared.forms.Form.{Form}
use Rattle.orca_meaning.specs.declared.forms.Form.TheVariants.{Pair}
use Rattle.orca_meaning.specs.declared.forms.Opening.{Opening}
use Rattle.orca_meaning.specs.declared.forms.Opening.TheVariants.{Open}
use Rattle.orca_meaning.specs.declared.forms.Index.{Index}
use Rattle.orca_meaning.specs.declared.forms.Prefix.{Prefix}
use Rattle.orca_meaning.specs.declared.mnemonics.Mnemonic.{Mnemonic}
use Rattle.orca_meaning.specs.declared.operators.Operands.{Operands}
use Rattle.orca_meaning.specs.declared.operators.Operands.TheVariants.{Labels}
use Rattle.orca_meaning.specs.Token.{Token, Value, Before, Between, Opens, Closes, Stand}
use Rattle.orca_meaning.specs.Formula.{Formula, Single, Group, Signed, Joined, tokens_of, MeansAt}
use Rattle.orca_meaning.specs.laws.FormulaLaws.{one_tree}
use Rattle.orca_meaning.specs.laws.TokenLaws.{token-shorter}
use Rattle.orca_meaning.specs.Operand.{Meaning, is_accumulator, opening, prefix, body, form_after, plain_form, whole_index, IsOperand, IsMissing, IsInAccumulator, IsOne, IsTwo}

-- a formula has a token at least
pub record HasToken (tokens : List Token) : Type 0 where
  pub first : Token
  pub others : List Token
  pub is : tokens ≡ first ∷ others

has_token_before : (a b : List Token) → HasToken a → HasToken (a ++ b)
has_token_before a b has = record { first = has.first; others = has.others ++ b; is = ap (λ (l : List Token). l ++ b) has.is }

has_token : (f : Formula) → HasToken (tokens_of f)
has_token (Single operand) = record { first = Value operand; others = []; is = refl }
has_token (Group inner) = record { first = Opens; others = tokens_of inner ++ Closes ∷ []; is = refl }
has_token (Signed sign operand) = record { first = Before sign; others = tokens_of operand; is = refl }
has_token (Joined operator left right) = has_token_before (tokens_of left) (Between operator ∷ tokens_of right) (has_token left)

-- no formula is at the start of an empty text
pub none_in_nothing : (o : Operands) (tree : Tree) (rest : List ℕ) → MeansAt o [] tree rest → ⊥
none_in_nothing o tree rest is =
    let has = has_token is.formula in
    let stand : Stand o true [] (has.first ∷ has.others) rest = subst (λ (l : List Token). Stand o true [] l rest) has.is is.stands.spelled in
    absurd (omega (arith, token-shorter o true [] has.first stand.0 stand.1))

nothing_has_no_formula : (mnemonic : Option Mnemonic) (text : List ℕ) (tree : Tree) (rest : List ℕ) → text ≡ [] → MeansAt Labels (body mnemonic text) tree rest → ⊥
nothing_has_no_formula mnemonic text tree rest none is =
    none_in_nothing Labels tree rest (subst (λ (t : List ℕ). MeansAt Labels (body mnemonic t) tree rest) none is)

nothing_is_no_accumulator : (mnemonic : Option Mnemonic) (text : List ℕ) → text ≡ [] → is_accumulator mnemonic text ≡ true → ⊥
nothing_is_no_accumulator mnemonic text none is = by_mnemonic mnemonic (subst (λ (t : List ℕ). is_accumulator mnemonic t ≡ true) none is)
  where
    no_and : (b : Bool) → Rattle.std.specs.Prelude.◌&&◌ b false ≡ true → ⊥
    no_and true e = absurd cc
    no_and false e = absurd cc

    by_mnemonic : (m : Option Mnemonic) → is_accumulator m [] ≡ true → ⊥
    by_mnemonic None e = absurd cc
    by_mnemonic (Some m) e = no_and _ e

clash : (b : Bool) → b ≡ true → b ≡ false → ⊥
clash b p q = let e : true ≡ false = sym p ∙ q in absurd cc

same_form : (a b : Form) (r : Option Form) → r ≡ Some a → r ≡ Some b → a ≡ b
same_form a b r p q = cc

abbrev meaning : Form → Prefix → List Tree → Meaning
meaning form prefix trees = record { form = form; prefix = prefix; trees = trees }

-- one formula or two
one_or_two : (o : Opening) (first second : Tree) (rest r s following : List ℕ) (form : Form) (text : List ℕ) → o ≡ Open → MeansAt Labels text first rest → form_after o rest ≡ Some form
    → MeansAt Labels text second (0x2C ∷ following) → whole_index (0x2C ∷ following) ≡ None → ⊥
one_or_two o first second rest r s following form text bare is one is' none =
    let same : rest ≡ 0x2C ∷ following = (one_tree Labels text first second rest (0x2C ∷ following) is is').1 in
    let here : option_map plain_form (whole_index (0x2C ∷ following)) ≡ Some form =
    subst (λ (t : List ℕ). option_map plain_form (whole_index t) ≡ Some form) same (subst (λ (x : Opening). form_after x rest ≡ Some form) bare one) in
    let wrong : option_map plain_form None ≡ Some form = subst (λ (x : Option Index). option_map plain_form x ≡ Some form) none here in
    absurd cc

-- a text is one operand at most
pub one_operand : (mnemonic : Option Mnemonic) (text : List ℕ) (a b : Meaning) → IsOperand mnemonic text a → IsOperand mnemonic text b → a ≡ b
one_operand m text a b (IsMissing none is) (IsMissing none' is') = is ∙ sym is'
one_operand m text a b (IsMissing none is) (IsInAccumulator acc is') = absurd (nothing_is_no_accumulator m text none acc)
one_operand m text a b (IsMissing none is) (IsOne not_a tree rest form means following is') = absurd (nothing_has_no_formula m text tree rest none means)
one_operand m text a b (IsMissing none is) (IsTwo not_a bare first second following means index means' is') = absurd (nothing_has_no_formula m text first (0x2C ∷ following) none means)
one_operand m text a b (IsInAccumulator acc is) (IsMissing none is') = absurd (nothing_is_no_accumulator m text none acc)
one_operand m text a b (IsInAccumulator acc is) (IsInAccumulator acc' is') = is ∙ sym is'
one_operand m text a b (IsInAccumulator acc is) (IsOne not_a tree rest form means following is') = absurd (clash _ acc not_a)
one_operand m text a b (IsInAccumulator acc is) (IsTwo not_a bare first second following means index means' is') = absurd (clash _ acc not_a)
one_operand m text a b (IsOne not_a tree rest form means following is) (IsMissing none is') = absurd (nothing_has_no_formula m text tree rest none means)
one_operand m text a b (IsOne not_a tree rest form means following is) (IsInAccumulator acc is') = absurd (clash _ acc not_a)
one_operand m text a b (IsOne not_a tree rest form means following is) (IsOne not_a' tree' rest' form' means' following' is') =
    let same = one_tree Labels (body m text) tree tree' rest rest' means means' in
    let forms : form ≡ form' = same_form form form' (form_after (opening m text) rest) following (subst (λ (r : List ℕ). form_after (opening m text) r ≡ Some form') (sym same.1) following') in
    let trees : tree ≡ tree' = same.0 in
    is ∙ ap (λ (t : Tree). meaning form (prefix m text) (t ∷ [])) trees ∙ ap (λ (x : Form). meaning x (prefix m text) (tree' ∷ [])) forms ∙ sym is'
one_operand m text a b (IsOne not_a tree rest form means following is) (IsTwo not_a' bare first second following' means' index means'' is') =
    absurd (one_or_two (opening m text) tree first rest [] [] following' form (body m text) bare means following means' index)
one_operand m text a b (IsTwo not_a bare first second following means index means' is) (IsMissing none is') = absurd (nothing_has_no_formula m text first (0x2C ∷ following) none means)
one_operand m text a b (IsTwo not_a bare first second following means index means' is) (IsInAccumulator acc is') = absurd (clash _ acc not_a)
one_operand m text a b (IsTwo not_a bare first second following means index means' is) (IsOne not_a' tree rest form means'' following' is') =
    absurd (one_or_two (opening m text) tree first rest [] [] following form (body m text) bare means'' following' means index)
one_operand m text a b (IsTwo not_a bare first second following means index means' is) (IsTwo not_a' bare' first' second' following' means'' index' means''' is') =
    let front = one_tree Labels (body m text) first first' (0x2C ∷ following) (0x2C ∷ following') means means'' in
    let lists : 0x2C ∷ following ≡ 0x2C ∷ following' = front.1 in
    let rest : following ≡ following' = cc in
    let back = one_tree Labels following second second' [] [] means' (subst (λ (t : List ℕ). MeansAt Labels t second' []) (sym rest) means''') in
    is ∙ ap (λ (t : Tree). meaning Pair (prefix m text) (t ∷ second ∷ [])) front.0 ∙ ap (λ (t : Tree). meaning Pair (prefix m text) (first' ∷ t ∷ [])) back.0 ∙ sym is'
