-- The laws of formulas: a text is the text of one tree at most, and the tree's terms spell an expression.
use Rattle.std.proofs.Common.{◌≡◌, ℕ, ◌^◌, ◌≤◌, Bool, true, false, cond, eqb, leb, List, [], ◌∷◌, ◌++◌, length, refl, sym, ap, subst, ◌∙◌, append_assoc, append-nil}
use Rattle.std.specs.Prelude.{◌||◌}
use Rattle.std.specs.List.{list_any}
use Rattle.std.proofs.lemmas.Bool.{leb-false}
use Rattle.std.proofs.lemmas.List.Folds.{list_any-append}
use Rattle.omf_format.specs.Expression as expression
use Rattle.omf_format.specs.Expression.{Term, Constant, Location, Tree, Leaf, Unary, Binary, terms_of, terms_text, depth, IsTree, IsExpression, operand_count}
use Rattle.orca_meaning.specs.declared.operators.Operands.{Operands}
use Rattle.orca_meaning.specs.declared.operators.Operator as operators
use Rattle.orca_meaning.specs.declared.operators.Operator.TheVariants.{Multiply, Divide, Shift, Add, Subtract, Less, Greater, LessOrEqual, GreaterOrEqual, NotEqual, Equal, And, Or, Eor}
use Rattle.orca_meaning.specs.declared.operators.Sign as signs
use Rattle.orca_meaning.specs.declared.operators.Sign.TheVariants.{Negate, Not}
use Rattle.orca_meaning.specs.Token.{Operand, Here, Number, Label, LengthOf, CountOf, Token, Value, Before, Between, Opens, Closes}
use Rattle.orca_meaning.specs.Formula.{Formula, Single, Group, Signed, Joined, sign_code, operator_code, term_of, tree_of, tokens_of, StandsAt, MeansAt, pending, with_location_less, has_large}
use Rattle.orca_meaning.specs.laws.Steps.{is_large}
use Rattle.orca_meaning.specs.laws.Complete.{complete, one_form}
use Rattle.orca_meaning.specs.laws.Front.{Compared, Longer, Shorter, compared, taken, formula_ends}
use Rattle.orca_meaning.specs.laws.TokenLaws.{HasFineName, HaveFineNames, fine_names}

-- ---- one tree

-- trees that wait for an operator, the last first
abbrev one_under : ℕ → List Tree → List Tree
one_under code [] = []
one_under code (t ∷ trees) = Unary code t ∷ trees

abbrev two_under : ℕ → List Tree → List Tree
two_under code [] = []
two_under code (u ∷ []) = []
two_under code (u ∷ t ∷ trees) = Binary code t u ∷ trees

abbrev built : Term → List Tree → List Tree
built (expression.Operator code) trees = cond (eqb (operand_count code) 1) (one_under code trees) (two_under code trees)
built expression.Location trees = Leaf expression.Location ∷ trees
built (expression.Constant n) trees = Leaf (expression.Constant n) ∷ trees
built (expression.Named code name) trees = Leaf (expression.Named code name) ∷ trees
built (expression.Offset n) trees = Leaf (expression.Offset n) ∷ trees

abbrev all_built : List Term → List Tree → List Tree
all_built [] trees = trees
all_built (term ∷ terms) trees = all_built terms (built term trees)

pub sign_has_one : (sign : signs.Sign) → operand_count (sign_code sign) ≡ 1
sign_has_one Negate = refl
sign_has_one Not = refl

pub operator_has_two : (operator : operators.Operator) → operand_count (operator_code operator) ≡ 2
operator_has_two Multiply = refl
operator_has_two Divide = refl
operator_has_two Shift = refl
operator_has_two Add = refl
operator_has_two Subtract = refl
operator_has_two Less = refl
operator_has_two Greater = refl
operator_has_two LessOrEqual = refl
operator_has_two GreaterOrEqual = refl
operator_has_two NotEqual = refl
operator_has_two Equal = refl
operator_has_two And = refl
operator_has_two Or = refl
operator_has_two Eor = refl

built_single : (operand : Operand) (trees : List Tree) → built (term_of operand) trees ≡ Leaf (term_of operand) ∷ trees
built_single Here trees = refl
built_single (Number n) trees = refl
built_single (Label name) trees = refl
built_single (LengthOf name) trees = refl
built_single (CountOf name) trees = refl

built_tree : (f : Formula) (more : List Term) (trees : List Tree) → all_built (terms_of (tree_of f) ++ more) trees ≡ all_built more (tree_of f ∷ trees)
built_tree (Single operand) more trees = ap (all_built more) (built_single operand trees)
built_tree (Group inner) more trees = built_tree inner more trees
built_tree (Signed sign operand) more trees =
    let code = sign_code sign in
    let one : eqb (operand_count code) 1 ≡ true = ap (λ (n : ℕ). eqb n 1) (sign_has_one sign) in
    rw (append_assoc (terms_of (tree_of operand)) (expression.Operator code ∷ []) more, built_tree operand (expression.Operator code ∷ more) trees, one) refl
built_tree (Joined operator left right) more trees =
    let code = operator_code operator in
    let two : eqb (operand_count code) 1 ≡ false = ap (λ (n : ℕ). eqb n 1) (operator_has_two operator) in
    rw (
      append_assoc (terms_of (tree_of left)) (terms_of (tree_of right) ++ expression.Operator code ∷ []) more,
      append_assoc (terms_of (tree_of right)) (expression.Operator code ∷ []) more,
      built_tree left (terms_of (tree_of right) ++ (expression.Operator code ∷ more)) trees,
      built_tree right (expression.Operator code ∷ more) (tree_of left ∷ trees),
      two,
    ) refl

-- formulas with the same terms mean the same tree
pub same_tree : (f g : Formula) → terms_of (tree_of f) ≡ terms_of (tree_of g) → tree_of f ≡ tree_of g
same_tree f g same =
    let first : all_built (terms_of (tree_of f)) [] ≡ tree_of f ∷ [] = ap (λ (x : List Term). all_built x []) (sym (append-nil (terms_of (tree_of f)))) ∙ built_tree f [] [] in
    let second : all_built (terms_of (tree_of g)) [] ≡ tree_of g ∷ [] = ap (λ (x : List Term). all_built x []) (sym (append-nil (terms_of (tree_of g)))) ∙ built_tree g [] [] in
    let lists : tree_of f ∷ [] ≡ tree_of g ∷ [] = sym first ∙ ap (λ (x : List Term). all_built x []) same ∙ second in
    cc

same_formula : (o : Operands) (text : List ℕ) (f g : Formula) (r s : List ℕ) → StandsAt o text f r → StandsAt o text g s
    → (terms_of (tree_of f) ≡ terms_of (tree_of g)) × (r ≡ s)
same_formula o text f g r s p q = by_order (compared o true text (tokens_of f) (tokens_of g) r s p.spelled q.spelled)
  where
    by_order : Compared o true (tokens_of f) (tokens_of g) r s → (terms_of (tree_of f) ≡ terms_of (tree_of g)) × (r ≡ s)
    by_order (Longer [] is stand) = (one_form f g p.formed q.formed (sym (is ∙ append-nil (tokens_of f))), sym stand)
    by_order (Longer (t ∷ more) is stand) =
        let all = taken (tokens_of g) (terms_of (tree_of g)) (complete g q.formed) in
        absurd (formula_ends o text f r all.last (tokens_of g) t more s p is stand all.ran)
    by_order (Shorter t more is stand) =
        let all = taken (tokens_of f) (terms_of (tree_of f)) (complete f p.formed) in
        absurd (formula_ends o text g s all.last (tokens_of f) t more r q is stand all.ran)

-- a text begins with a formula of at most one tree, and leaves one rest
pub one_tree : (o : Operands) (text : List ℕ) (t u : Tree) (r s : List ℕ) → MeansAt o text t r → MeansAt o text u s → (t ≡ u) × (r ≡ s)
one_tree o text t u r s p q =
    let same = same_formula o text p.formula q.formula r s p.stands q.stands in
    (sym p.means ∙ same_tree p.formula q.formula same.0 ∙ q.means, same.1)

-- ---- an expression

or_false : (a b : Bool) → (a || b) ≡ false → (a ≡ false) × (b ≡ false)
or_false true b e = absurd cc
or_false false b e = (refl, e)

names_append : (most : ℕ) (a b : List Token) → HaveFineNames most (a ++ b) → HaveFineNames most a × HaveFineNames most b
names_append most [] b is = (tt, is)
names_append most (Value operand ∷ a) b is = let both = names_append most a b is.1 in ((is.0, both.0), both.1)
names_append most (Before sign ∷ a) b is = names_append most a b is
names_append most (Between operator ∷ a) b is = names_append most a b is
names_append most (Opens ∷ a) b is = names_append most a b is
names_append most (Closes ∷ a) b is = names_append most a b is

leaf_formed : (operand : Operand) → HasFineName 255 operand → list_any is_large (term_of operand ∷ []) ≡ false → IsTree 0 (Leaf (term_of operand))
leaf_formed Here fine small = tt
leaf_formed (Number n) fine small = leb-false (2 ^ 32) n (or_false (leb (2 ^ 32) n) false small).0
leaf_formed (Label name) fine small = (refl, fine)
leaf_formed (LengthOf name) fine small = (refl, fine)
leaf_formed (CountOf name) fine small = (refl, fine)

sign_formed : (sign : signs.Sign) → expression.IsTerm 0 (expression.Operator (sign_code sign))
sign_formed Negate = refl
sign_formed Not = refl

operator_formed : (operator : operators.Operator) → expression.IsTerm 0 (expression.Operator (operator_code operator))
operator_formed Multiply = refl
operator_formed Divide = refl
operator_formed Shift = refl
operator_formed Add = refl
operator_formed Subtract = refl
operator_formed Less = refl
operator_formed Greater = refl
operator_formed LessOrEqual = refl
operator_formed GreaterOrEqual = refl
operator_formed NotEqual = refl
operator_formed Equal = refl
operator_formed And = refl
operator_formed Or = refl
operator_formed Eor = refl

tree_formed : (f : Formula) → HaveFineNames 255 (tokens_of f) → has_large (tree_of f) ≡ false → IsTree 0 (tree_of f)
tree_formed (Single operand) fine small = leaf_formed operand fine.0 small
tree_formed (Group inner) fine small = tree_formed inner (names_append 255 (tokens_of inner) (Closes ∷ []) fine).0 small
tree_formed (Signed sign operand) fine small =
    let terms = terms_of (tree_of operand) in
    let both = or_false (list_any is_large terms) _ (sym (list_any-append is_large terms (expression.Operator (sign_code sign) ∷ [])) ∙ small) in
    (sign_formed sign, sign_has_one sign, tree_formed operand fine both.0)
tree_formed (Joined operator left right) fine small =
    let first = terms_of (tree_of left) in
    let second = terms_of (tree_of right) in
    let last = expression.Operator (operator_code operator) ∷ [] in
    let names = names_append 255 (tokens_of left) (Between operator ∷ tokens_of right) fine in
    let both = or_false (list_any is_large first) _ (sym (list_any-append is_large first (second ++ last)) ∙ small) in
    let other = or_false (list_any is_large second) _ (sym (list_any-append is_large second last) ∙ both.1) in
    (operator_formed operator, operator_has_two operator, tree_formed left names.0 both.0, tree_formed right names.1 other.0)

-- the tree of a formula in a line, with numbers that fit, is one that can be written
pub formed : (o : Operands) (text : List ℕ) (tree : Tree) (rest : List ℕ) → length text ≤ 255 → MeansAt o text tree rest → has_large tree ≡ false → IsTree 0 tree
formed o text tree rest short is small =
    let names = fine_names o true 255 text (tokens_of is.formula) rest short is.stands.spelled in
    subst (IsTree 0) is.means (tree_formed is.formula names (ap has_large is.means ∙ small))

-- with at most 64 pending values its terms spell an expression
pub spells : (o : Operands) (text : List ℕ) (tree : Tree) (rest : List ℕ) → length text ≤ 255 → MeansAt o text tree rest → has_large tree ≡ false → depth tree ≤ 64
    → IsExpression 0 (terms_text 0 (terms_of tree) ++ 0x00 ∷ [])
spells o text tree rest short is small shallow =
    record { tree = tree; spells = record { formed = formed o text tree rest short is small; shallow = shallow; spelled = refl } }

-- ---- pending values

pub pending-one : (tree : Tree) → pending 1 tree ≡ depth tree
pending-one (Leaf (expression.Operator code)) = refl
pending-one (Leaf expression.Location) = refl
pending-one (Leaf (expression.Constant n)) = refl
pending-one (Leaf (expression.Named code name)) = refl
pending-one (Leaf (expression.Offset n)) = refl
pending-one (Unary code operand) = pending-one operand
pending-one (Binary code left right) = rw (pending-one left, pending-one right) refl

pub pending-two : (back : ℕ) (tree : Tree) → pending 2 tree ≡ depth (with_location_less back tree)
pending-two back (Leaf (expression.Operator code)) = refl
pending-two back (Leaf expression.Location) = refl
pending-two back (Leaf (expression.Constant n)) = refl
pending-two back (Leaf (expression.Named code name)) = refl
pending-two back (Leaf (expression.Offset n)) = refl
pending-two back (Unary code operand) = pending-two back operand
pending-two back (Binary code left right) = rw (pending-two back left, pending-two back right) refl
