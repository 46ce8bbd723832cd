-- A formula's tokens are read to its postfix form.
use Rattle.std.proofs.Common.{◌≡◌, ℕ, ◌<◌, ◌≤◌, true, false, List, [], ◌∷◌, ◌++◌, Option, Some, refl, sym, ap, ◌∙◌, append_assoc, append-nil, arith}
use Rattle.std.proofs.lemmas.Bool.{le-leb, lt-leb}
use Rattle.std.proofs.lemmas.List.{append-nil}
use Rattle.omf_format.specs.Expression.{Term, Operator, terms_of}
use Rattle.orca_meaning.specs.declared.operators.Operator as declared_operator
use Rattle.orca_meaning.specs.declared.operators.Operator.TheVariants.{Multiply, Divide, Shift, Add, Subtract, Less, Greater, LessOrEqual, GreaterOrEqual, NotEqual, Equal, And, Or, Eor}
use Rattle.orca_meaning.specs.Token.{Token, Between, Closes}
use Rattle.orca_meaning.specs.Formula.{sign_code, operator_code, operator_level, term_of, Formula, Single, Group, Signed, Joined, level_of, BindsByLevel, tokens_of, tree_of}
use Rattle.orca_meaning.specs.laws.Machine.{Wait, Bracket, Pending, State, state, reduced, closed, step, and_then, run, ended, finish, start, postfix}

-- the levels of operators between two
pub operator_levels : (operator : declared_operator.Operator) → (2 ≤ operator_level operator) × (operator_level operator ≤ 6)
operator_levels Multiply = (omega arith, omega arith)
operator_levels Divide = (omega arith, omega arith)
operator_levels Shift = (omega arith, omega arith)
operator_levels Add = (omega arith, omega arith)
operator_levels Subtract = (omega arith, omega arith)
operator_levels Less = (omega arith, omega arith)
operator_levels Greater = (omega arith, omega arith)
operator_levels LessOrEqual = (omega arith, omega arith)
operator_levels GreaterOrEqual = (omega arith, omega arith)
operator_levels NotEqual = (omega arith, omega arith)
operator_levels Equal = (omega arith, omega arith)
operator_levels And = (omega arith, omega arith)
operator_levels Or = (omega arith, omega arith)
operator_levels Eor = (omega arith, omega arith)

formula_level : (f : Formula) → level_of f ≤ 6
formula_level (Single operand) = omega arith
formula_level (Group inner) = omega arith
formula_level (Signed sign operand) = omega arith
formula_level (Joined operator left right) = (operator_levels operator).1

-- the operator on top is looser, or none is there
abbrev pub IsLooser : ℕ → List Wait → Type 0
IsLooser level [] = Unit {0}
IsLooser level (Bracket ∷ ws) = Unit {0}
IsLooser level (Pending m code ∷ ws) = level < m

-- the operator on top is looser, or none is there, where the level is one of operators between two
abbrev pub IsRoom : ℕ → List Wait → Type 0
IsRoom level ws = 2 ≤ level → IsLooser level ws

abbrev pub AreTight : ℕ → List Wait → Type 0
AreTight level [] = Unit {0}
AreTight level (Bracket ∷ ws) = ⊥
AreTight level (Pending m code ∷ ws) = (m ≤ level) × AreTight level ws

abbrev pub codes : List Wait → List Term
codes [] = []
codes (Bracket ∷ ws) = codes ws
codes (Pending m code ∷ ws) = Operator code ∷ codes ws

pub stuck : (level : ℕ) (out : List Term) (ws : List Wait) → IsLooser level ws → reduced level out ws ≡ (out, ws)
unfolding reduced
stuck level out [] is = refl
stuck level out (Bracket ∷ ws) is = refl
stuck level out (Pending m code ∷ ws) is = rw (lt-leb m level is) refl

pub reduce_all : (level : ℕ) (out : List Term) (extras ws : List Wait) → AreTight level extras → IsLooser level ws
    → reduced level out (extras ++ ws) ≡ (out ++ codes extras, ws)
unfolding reduced
reduce_all level out [] ws tight is = stuck level out ws is ∙ ap (λ (o : List Term). (o, ws)) (sym (append-nil out))
reduce_all level out (Bracket ∷ extras) ws tight is = absurd tight
reduce_all level out (Pending m code ∷ extras) ws tight is =
    rw (le-leb m level tight.0) (reduce_all level (out ++ Operator code ∷ []) extras ws tight.1 is
    ∙ ap (λ (o : List Term). (o, ws)) (append_assoc out (Operator code ∷ []) (codes extras)))

AreTight-append : (level : ℕ) (a b : List Wait) → AreTight level a → AreTight level b → AreTight level (a ++ b)
AreTight-append level [] b p q = q
AreTight-append level (Bracket ∷ a) b p q = absurd p
AreTight-append level (Pending m code ∷ a) b p q = (p.0, AreTight-append level a b p.1 q)

AreTight-more : (level more : ℕ) (a : List Wait) → level ≤ more → AreTight level a → AreTight more a
AreTight-more level more [] le p = tt
AreTight-more level more (Bracket ∷ a) le p = absurd p
AreTight-more level more (Pending m code ∷ a) le p = (omega arith, AreTight-more level more a le p.1)

codes-append : (a b : List Wait) → codes (a ++ b) ≡ codes a ++ codes b
codes-append [] b = refl
codes-append (Bracket ∷ a) b = codes-append a b
codes-append (Pending m code ∷ a) b = ap (λ (c : List Term). Operator code ∷ c) (codes-append a b)

IsRoom-less : (less level : ℕ) (ws : List Wait) → less ≤ level → IsRoom level ws → IsRoom less ws
IsRoom-less less level [] le room = λ two. tt
IsRoom-less less level (Bracket ∷ ws) le room = λ two. tt
IsRoom-less less level (Pending m code ∷ ws) le room = λ two. let top : level < m = room (omega arith) in omega arith

-- what reading a formula leaves
pub record Left (f : Formula) (out : List Term) (ws : List Wait) (more : List Token) : Type 0 where
  pub out' : List Term
  pub extras : List Wait
  pub tight : AreTight (level_of f) extras
  pub same : out' ++ codes extras ≡ out ++ terms_of (tree_of f)
  pub goes : run (state out ws true) (tokens_of f ++ more) ≡ run (state out' (extras ++ ws) false) more

reads : (f : Formula) (out : List Term) (ws : List Wait) (more : List Token) → BindsByLevel f → IsRoom (level_of f) ws → Left f out ws more
unfolding run step and_then closed
reads (Single operand) out ws more is room =
    record { out' = out ++ term_of operand ∷ []; extras = []; tight = tt; same = append-nil (out ++ term_of operand ∷ []); goes = refl }
reads (Group inner) out ws more is room =
    let first = reads inner out (Bracket ∷ ws) (Closes ∷ more) is (λ two. tt) in
    let few : AreTight 6 first.extras = AreTight-more (level_of inner) 6 first.extras (formula_level inner) first.tight in
    let all = reduce_all 6 first.out' first.extras (Bracket ∷ ws) few tt in
    let shut : closed (reduced 6 first.out' (first.extras ++ Bracket ∷ ws)) ≡ Some (state (out ++ terms_of (tree_of inner)) ws false) =
    ap closed all ∙ ap (λ (o : List Term). closed (o, Bracket ∷ ws)) first.same in
    record {
      out' = out ++ terms_of (tree_of inner);
      extras = [];
      tight = tt;
      same = append-nil (out ++ terms_of (tree_of inner));
      goes = rw (append_assoc (tokens_of inner) (Closes ∷ []) more) (first.goes ∙ ap (λ (s : Option State). and_then s (λ s'. run s' more)) shut);
    }
reads (Signed sign operand) out ws more is room =
    let code = sign_code sign in
    let first = reads operand out (Pending 1 code ∷ ws) more is.1 (λ two. absurd (omega (arith, is.0))) in
    record {
      out' = first.out';
      extras = first.extras ++ Pending 1 code ∷ [];
      tight = AreTight-append 1 first.extras (Pending 1 code ∷ []) (AreTight-more (level_of operand) 1 first.extras is.0 first.tight) (omega arith, tt);
      same = ap (λ (c : List Term). first.out' ++ c) (codes-append first.extras (Pending 1 code ∷ [])) ∙ sym (append_assoc first.out' (codes first.extras) (Operator code ∷ [])) ∙ ap (λ (o : List Term). o ++ Operator code ∷ []) first.same ∙ append_assoc out (terms_of (tree_of operand)) (Operator code ∷ []);
      goes = rw (append_assoc first.extras (Pending 1 code ∷ []) ws) first.goes;
    }
reads (Joined operator left right) out ws more is room =
    let level = operator_level operator in
    let code = operator_code operator in
    let bounds = operator_levels operator in
    let l = reads left out ws (Between operator ∷ (tokens_of right ++ more)) is.2 (IsRoom-less (level_of left) level ws is.0 room) in
    let tight : AreTight level l.extras = AreTight-more (level_of left) level l.extras is.0 l.tight in
    let all : reduced level l.out' (l.extras ++ ws) ≡ (out ++ terms_of (tree_of left), ws) = reduce_all level l.out' l.extras ws tight (room bounds.0) ∙ ap (λ (o : List Term). (o, ws)) l.same in
    let r = reads right (out ++ terms_of (tree_of left)) (Pending level code ∷ ws) more is.3 (λ two. is.1) in
    let middle : run (state l.out' (l.extras ++ ws) false) (Between operator ∷ (tokens_of right ++ more)) ≡ run (state (out ++ terms_of (tree_of left)) (Pending level code ∷ ws) true) (tokens_of right ++ more) =
    ap (λ (x : List Term × List Wait). run (state x.0 (Pending level code ∷ x.1) true) (tokens_of right ++ more)) all in
    record {
      out' = r.out';
      extras = r.extras ++ Pending level code ∷ [];
      tight = AreTight-append level r.extras (Pending level code ∷ []) (AreTight-more (level_of right) level r.extras (omega (arith, is.1)) r.tight) (omega arith, tt);
      same = ap (λ (c : List Term). r.out' ++ c) (codes-append r.extras (Pending level code ∷ [])) ∙ sym (append_assoc r.out' (codes r.extras) (Operator code ∷ [])) ∙ ap (λ (o : List Term). o ++ Operator code ∷ []) r.same
          ∙ append_assoc (out ++ terms_of (tree_of left)) (terms_of (tree_of right)) (Operator code ∷ []) ∙ append_assoc out (terms_of (tree_of left)) (terms_of (tree_of right) ++ Operator code ∷ []);
      goes = rw (append_assoc (tokens_of left) (Between operator ∷ tokens_of right) more, append_assoc r.extras (Pending level code ∷ []) ws) (l.goes ∙ middle ∙ r.goes);
    }

-- the tokens of a formula are read to its postfix form
pub complete : (f : Formula) → BindsByLevel f → postfix (tokens_of f) ≡ Some (terms_of (tree_of f))
unfolding postfix run finish ended
complete f is =
    let r = reads f [] [] [] is (λ two. tt) in
    let few : AreTight 6 r.extras = AreTight-more (level_of f) 6 r.extras (formula_level f) r.tight in
    let all : reduced 6 r.out' (r.extras ++ []) ≡ (terms_of (tree_of f), []) = reduce_all 6 r.out' r.extras [] few tt ∙ ap (λ (o : List Term). (o, [])) r.same in
    let whole : run start (tokens_of f ++ []) ≡ Some (state r.out' (r.extras ++ []) false) = r.goes in
    let front : run start (tokens_of f) ≡ Some (state r.out' (r.extras ++ []) false) = rw (append-nil (tokens_of f)) at whole in
    ap finish front ∙ ap ended all

-- two formulas that are written alike have one postfix form
pub one_form : (f g : Formula) → BindsByLevel f → BindsByLevel g → tokens_of f ≡ tokens_of g → terms_of (tree_of f) ≡ terms_of (tree_of g)
one_form f g p q same = some_is (terms_of (tree_of f)) (terms_of (tree_of g)) (sym (complete f p) ∙ ap postfix same ∙ complete g q)
  where
    some_is : (a b : List Term) → Some a ≡ Some b → a ≡ b
    some_is a b e = cc
