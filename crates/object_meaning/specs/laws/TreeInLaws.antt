-- The tree of an expression's bytes is the one that they spell.
use Rattle.std.proofs.Common.{◌≡◌, ℕ, ◌+◌, List, [], ◌∷◌, ◌++◌, length, map, Some, refl, sym, ap, ◌∙◌, append_assoc}
use Rattle.std.proofs.lemmas.List.{append-nil}
use Rattle.omf_format.specs.Expression.{Term, Operator, Location, Constant, Named, Offset, Tree, Leaf, Unary, Binary, IsOperand, IsTree, terms_of, term_text, placed_terms, operand_count, Spells}
use Rattle.omf_format.specs.laws.ExpressionLaws.{terms_are}
use Rattle.object_meaning.specs.Terms.{with_term, trees_after, tree_in}
use Rattle.object_meaning.specs.laws.Steps.{last_tree}

placed-terms : (l at : ℕ) (terms : List Term) → map (λ placed. placed.1) (placed_terms l at terms) ≡ terms
placed-terms l at [] = refl
placed-terms l at (t ∷ terms) = ap (λ (ts : List Term). t ∷ ts) (placed-terms l (at + length (term_text l t)) terms)

leaf_after : (l : ℕ) (trees : List Tree) (term : Term) → IsOperand l term → with_term trees term ≡ Leaf term ∷ trees
leaf_after l trees (Operator code) is = absurd is
leaf_after l trees Location is = refl
leaf_after l trees (Constant n) is = refl
leaf_after l trees (Named code name) is = refl
leaf_after l trees (Offset n) is = refl

one_after : (code : ℕ) (a : Tree) (trees : List Tree) → operand_count code ≡ 1 → with_term (a ∷ trees) (Operator code) ≡ Unary code a ∷ trees
one_after code a trees is = rw is refl

two_after : (code : ℕ) (a b : Tree) (trees : List Tree) → operand_count code ≡ 2 → with_term (b ∷ a ∷ trees) (Operator code) ≡ Binary code a b ∷ trees
two_after code a b trees is = rw is refl

-- the terms of a tree leave the tree
pub tree_after : (l : ℕ) (t : Tree) (trees : List Tree) (more : List Term) → IsTree l t → trees_after trees (terms_of t ++ more) ≡ trees_after (t ∷ trees) more
tree_after l (Leaf term) trees more is = ap (λ (ts : List Tree). trees_after ts more) (leaf_after l trees term is)
tree_after l (Unary code a) trees more is =
    ap (trees_after trees) (append_assoc (terms_of a) (Operator code ∷ []) more)
    ∙ tree_after l a trees (Operator code ∷ more) is.2
    ∙ ap (λ (ts : List Tree). trees_after ts more) (one_after code a trees is.1)
tree_after l (Binary code a b) trees more is =
    ap (trees_after trees) (append_assoc (terms_of a) (terms_of b ++ Operator code ∷ []) more)
    ∙ tree_after l a trees ((terms_of b ++ Operator code ∷ []) ++ more) is.2
    ∙ ap (trees_after (a ∷ trees)) (append_assoc (terms_of b) (Operator code ∷ []) more)
    ∙ tree_after l b (a ∷ trees) (Operator code ∷ more) is.3
    ∙ ap (λ (ts : List Tree). trees_after ts more) (two_after code a b trees is.1)

pub tree_in-again : (l : ℕ) (text : List ℕ) (t : Tree) → Spells l text t → tree_in l text ≡ Some t
unfolding tree_in
tree_in-again l text t is =
    ap (λ (ts : List (ℕ × Term)). last_tree (trees_after [] (map (λ placed. placed.1) ts))) (terms_are l text t is)
    ∙ ap (λ (ts : List Term). last_tree (trees_after [] ts)) (placed-terms l 0 (terms_of t) ∙ sym (append-nil (terms_of t)))
    ∙ ap last_tree (tree_after l t [] [] is.formed)
