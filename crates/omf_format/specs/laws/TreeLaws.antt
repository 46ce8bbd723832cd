-- The laws of trees: the terms of a tree lead from any number of pending values to one more; terms that lead to one value are those of a
-- tree; and no two trees have the same terms.
use Rattle.std.proofs.Common.{◌≡◌, ℕ, ◌+◌, ◌≤◌, max, Bool, true, false, cond, eqb, List, [], ◌∷◌, ◌++◌, length, refl, sym, ap, subst, ◌∙◌, append_assoc, arith, inl, inr}
use Rattle.std.specs.Prelude.{◌||◌}
use Rattle.std.proofs.lemmas.Bool.{eq-eqb, ne_eqb, cases_eq}
use Rattle.std.proofs.lemmas.List.{append-nil}
use Rattle.omf_format.specs.Expression.{Term, Operator, Location, Constant, Named, Offset, operand_count, IsTerm, AreTerms, Tree, Leaf, Unary, Binary, IsOperand, IsTree, terms_of, depth, operands_of, pending_after, Lead}
use Rattle.omf_format.specs.laws.TermLaws.{AreTerms-append}

-- ---- from a tree to its terms

pub operand_is_term : (l : ℕ) (term : Term) → IsOperand l term → IsTerm l term
operand_is_term l (Operator code) is = absurd is
operand_is_term l Location is = is
operand_is_term l (Constant n) is = is
operand_is_term l (Named code name) is = is
operand_is_term l (Offset n) is = is

pub operand_takes_none : (l : ℕ) (term : Term) → IsOperand l term → operands_of term ≡ 0
operand_takes_none l (Operator code) is = absurd is
operand_takes_none l Location is = refl
operand_takes_none l (Constant n) is = refl
operand_takes_none l (Named code name) is = refl
operand_takes_none l (Offset n) is = refl

pub tree_has_terms : (l : ℕ) (t : Tree) → IsTree l t → AreTerms l (terms_of t)
tree_has_terms l (Leaf term) is = (operand_is_term l term is, tt)
tree_has_terms l (Unary code t) is = AreTerms-append l (terms_of t) (Operator code ∷ []) (tree_has_terms l t is.2) (is.0, tt)
tree_has_terms l (Binary code t u) is =
    AreTerms-append l (terms_of t) (terms_of u ++ Operator code ∷ []) (tree_has_terms l t is.2)
    (AreTerms-append l (terms_of u) (Operator code ∷ []) (tree_has_terms l u is.3) (is.0, tt))

-- a term with its operands there and room for its value
pub lead_on : (pending following last : ℕ) (term : Term) (more : List Term) → operands_of term ≤ pending → pending_after pending term ≡ following → following ≤ 64 → Lead following more last → Lead pending (term ∷ more) last
lead_on pending following last term more some is room on =
    (some, omega (arith, is), subst (λ (p : ℕ). Lead p more last) (sym is) on)

pub tree_leads : (l : ℕ) (t : Tree) (pending last : ℕ) (more : List Term) → IsTree l t → pending + depth t ≤ 64 → Lead (pending + 1) more last → Lead pending (terms_of t ++ more) last
tree_leads l (Leaf term) pending last more is room on =
    let none = operand_takes_none l term is in
    lead_on pending (pending + 1) last term more (omega (arith, none)) (omega (arith, none)) (omega arith) on
tree_leads l (Unary code t) pending last more is room on =
    let one : operand_count code ≡ 1 = is.1 in
    let after = lead_on (pending + 1) (pending + 1) last (Operator code) more (omega (arith, one)) (omega (arith, one)) (omega (arith, depth_some t)) on in
    rw (append_assoc (terms_of t) (Operator code ∷ []) more) (tree_leads l t pending last (Operator code ∷ more) is.2 room after)
  where
    depth_some : (t : Tree) → 1 ≤ depth t
    depth_some (Leaf term) = omega arith
    depth_some (Unary code t) = depth_some t
    depth_some (Binary code t u) = omega (arith, depth_some t)
tree_leads l (Binary code t u) pending last more is room on =
    let two : operand_count code ≡ 2 = is.1 in
    let after = lead_on (pending + 1 + 1) (pending + 1) last (Operator code) more (omega (arith, two)) (omega (arith, two)) (omega arith) on in
    let right = tree_leads l u (pending + 1) last (Operator code ∷ more) is.3 (omega arith) after in
    let left = tree_leads l t pending last (terms_of u ++ (Operator code ∷ more)) is.2 (omega arith) right in
    rw (append_assoc (terms_of t) (terms_of u ++ Operator code ∷ []) more, append_assoc (terms_of u) (Operator code ∷ []) more) left

-- ---- from terms to a tree

-- trees whose values are pending, the last first
abbrev pub IsForest : ℕ → List Tree → Type 0
IsForest l [] = Unit {0}
IsForest l (t ∷ trees) = IsTree l t × (length trees + depth t ≤ 64) × IsForest l trees

abbrev pub forest_terms : List Tree → List Term
forest_terms [] = []
forest_terms (t ∷ trees) = forest_terms trees ++ terms_of t

-- the trees after a term
pub record Grown (l : ℕ) (trees : List Tree) (term : Term) : Type 0 where
  pub grown : List Tree
  pub forest : IsForest l grown
  pub count : length grown ≡ pending_after (length trees) term
  pub same : forest_terms grown ≡ forest_terms trees ++ term ∷ []

grow_operand : (l : ℕ) (trees : List Tree) (term : Term) → IsForest l trees → IsOperand l term → pending_after (length trees) term ≤ 64 → Grown l trees term
grow_operand l trees term forest is room =
    let none = operand_takes_none l term is in
    record { grown = Leaf term ∷ trees; forest = (is, omega (arith, none), forest); count = omega (arith, none); same = refl }

-- an operator has one operand or two
pub operand_counts : (code : ℕ) → (operand_count code ≡ 1 → ⊥) → operand_count code ≡ 2
operand_counts code other = by_cases (eqb code 0x06 || eqb code 0x0B || eqb code 0x15) refl
  where
    by_cases : (b : Bool) → (eqb code 0x06 || eqb code 0x0B || eqb code 0x15) ≡ b → operand_count code ≡ 2
    by_cases true e = absurd (other (rw e refl))
    by_cases false e = rw e refl

grow_unary : (l : ℕ) (trees : List Tree) (code : ℕ) → operand_count code ≡ 1 → IsForest l trees → IsTerm l (Operator code) → 1 ≤ length trees → Grown l trees (Operator code)
grow_unary l [] code one forest term some = absurd (omega arith)
grow_unary l (t ∷ trees) code one forest term some = record {
  grown = Unary code t ∷ trees;
  forest = ((term, one, forest.0), forest.1, forest.2);
  count = omega (arith, one);
  same = sym (append_assoc (forest_terms trees) (terms_of t) (Operator code ∷ []));
}

grow_binary : (l : ℕ) (trees : List Tree) (code : ℕ) → operand_count code ≡ 2 → IsForest l trees → IsTerm l (Operator code) → 2 ≤ length trees → Grown l trees (Operator code)
grow_binary l [] code two forest term some = absurd (omega arith)
grow_binary l (t ∷ []) code two forest term some = absurd (omega arith)
grow_binary l (u ∷ t ∷ trees) code two forest term some =
    let room : length trees + max (depth t) (depth u + 1) ≤ 64 = omega (arith, forest.1, forest.2.1) in
    record {
      grown = Binary code t u ∷ trees;
      forest = ((term, two, forest.2.0, forest.0), room, forest.2.2);
      count = omega (arith, two);
      same = sym (append_assoc (forest_terms trees) (terms_of t) (terms_of u ++ Operator code ∷ [])) ∙ sym (append_assoc (forest_terms trees ++ terms_of t) (terms_of u) (Operator code ∷ []));
    }

grow_operator : (l : ℕ) (trees : List Tree) (code : ℕ) → IsForest l trees → IsTerm l (Operator code) → operand_count code ≤ length trees → Grown l trees (Operator code)
grow_operator l trees code forest term some =
    elim (cases_eq (operand_count code) 1) [
      | inl one ↦ grow_unary l trees code one forest term (omega (arith, one))
      | inr other ↦ let two = operand_counts code other in grow_binary l trees code two forest term (omega (arith, two))
    ]

pub grow : (l : ℕ) (trees : List Tree) (term : Term) → IsForest l trees → IsTerm l term → operands_of term ≤ length trees → pending_after (length trees) term ≤ 64 → Grown l trees term
grow l trees (Operator code) forest is some room = grow_operator l trees code forest is some
grow l trees Location forest is some room = grow_operand l trees Location forest is room
grow l trees (Constant n) forest is some room = grow_operand l trees (Constant n) forest is room
grow l trees (Named code name) forest is some room = grow_operand l trees (Named code name) forest is room
grow l trees (Offset n) forest is some room = grow_operand l trees (Offset n) forest is room

-- the trees after terms
pub record Forest (l : ℕ) (terms : List Term) (last : ℕ) : Type 0 where
  pub trees : List Tree
  pub forest : IsForest l trees
  pub count : length trees ≡ last
  pub same : forest_terms trees ≡ terms

pub forest_of : (l : ℕ) (before : List Term) (trees : List Tree) (terms : List Term) (last : ℕ) → IsForest l trees → forest_terms trees ≡ before → AreTerms l terms → Lead (length trees) terms last → Forest l (before ++ terms) last
forest_of l before trees [] last forest is terms leads = record { trees = trees; forest = forest; count = leads; same = is ∙ sym (append-nil before) }
forest_of l before trees (term ∷ more) last forest is terms leads =
    let g = grow l trees term forest terms.0 leads.0 leads.1 in
    let on : Lead (length g.grown) more last = subst (λ (p : ℕ). Lead p more last) (sym g.count) leads.2 in
    let is' : forest_terms g.grown ≡ before ++ term ∷ [] = g.same ∙ ap (λ (b : List Term). b ++ term ∷ []) is in
    rw (← append_assoc before (term ∷ []) more) (forest_of l (before ++ term ∷ []) g.grown more last g.forest is' terms.1 on)

-- terms that lead to one value are those of a tree
pub record TreeOf (l : ℕ) (terms : List Term) : Type 0 where
  pub tree : Tree
  pub formed : IsTree l tree
  pub shallow : depth tree ≤ 64
  pub same : terms_of tree ≡ terms

last_tree : (l : ℕ) (terms : List Term) (trees : List Tree) → IsForest l trees → length trees ≡ 1 → forest_terms trees ≡ terms → TreeOf l terms
last_tree l terms [] forest one same = absurd (omega arith)
last_tree l terms (t ∷ []) forest one same = record { tree = t; formed = forest.0; shallow = omega (arith, forest.1); same = same }
last_tree l terms (t ∷ u ∷ trees) forest one same = absurd (omega arith)

pub tree_of : (l : ℕ) (terms : List Term) → AreTerms l terms → Lead 0 terms 1 → TreeOf l terms
tree_of l terms are leads =
    let f = forest_of l [] [] terms 1 tt refl are leads in
    last_tree l terms f.trees f.forest f.count f.same

-- ---- one tree

-- a term on trees that are pending, the last first
abbrev join_one : ℕ → List Tree → List Tree
join_one code [] = []
join_one code (t ∷ trees) = Unary code t ∷ trees

abbrev join_two : ℕ → List Tree → List Tree
join_two code [] = []
join_two code (u ∷ []) = []
join_two code (u ∷ t ∷ trees) = Binary code t u ∷ trees

abbrev join : Term → List Tree → List Tree
join (Operator code) trees = cond (eqb (operand_count code) 1) (join_one code trees) (join_two code trees)
join Location trees = Leaf Location ∷ trees
join (Constant n) trees = Leaf (Constant n) ∷ trees
join (Named code name) trees = Leaf (Named code name) ∷ trees
join (Offset n) trees = Leaf (Offset n) ∷ trees

abbrev join_all : List Term → List Tree → List Tree
join_all [] trees = trees
join_all (term ∷ terms) trees = join_all terms (join term trees)

join_operand : (l : ℕ) (term : Term) (trees : List Tree) → IsOperand l term → join term trees ≡ Leaf term ∷ trees
join_operand l (Operator code) trees is = absurd is
join_operand l Location trees is = refl
join_operand l (Constant n) trees is = refl
join_operand l (Named code name) trees is = refl
join_operand l (Offset n) trees is = refl

join_tree : (l : ℕ) (t : Tree) (more : List Term) (trees : List Tree) → IsTree l t → join_all (terms_of t ++ more) trees ≡ join_all more (t ∷ trees)
join_tree l (Leaf term) more trees is = ap (join_all more) (join_operand l term trees is)
join_tree l (Unary code t) more trees is =
    let one : eqb (operand_count code) 1 ≡ true = eq-eqb _ _ is.1 in
    rw (append_assoc (terms_of t) (Operator code ∷ []) more, join_tree l t (Operator code ∷ more) trees is.2, one) refl
join_tree l (Binary code t u) more trees is =
    let two : eqb (operand_count code) 1 ≡ false = ne_eqb _ _ (λ e. absurd (omega (arith, is.1))) in
    rw (
      append_assoc (terms_of t) (terms_of u ++ Operator code ∷ []) more,
      append_assoc (terms_of u) (Operator code ∷ []) more,
      join_tree l t (terms_of u ++ (Operator code ∷ more)) trees is.2,
      join_tree l u (Operator code ∷ more) (t ∷ trees) is.3,
      two,
    ) refl

pub tree-same : (l : ℕ) (t u : Tree) → IsTree l t → IsTree l u → terms_of t ≡ terms_of u → t ≡ u
tree-same l t u is is' same =
    let first : join_all (terms_of t) [] ≡ t ∷ [] = ap (λ (x : List Term). join_all x []) (sym (append-nil (terms_of t))) ∙ join_tree l t [] [] is in
    let second : join_all (terms_of u) [] ≡ u ∷ [] = ap (λ (x : List Term). join_all x []) (sym (append-nil (terms_of u))) ∙ join_tree l u [] [] is' in
    let lists : t ∷ [] ≡ u ∷ [] = sym first ∙ ap (λ (x : List Term). join_all x []) same ∙ second in
    cc
