-- The terms of an expression and its tree.
use Rattle.std.proofs.Common.{◌≡◌, ℕ, ◌+◌, ◌≤◌, Bool, true, false, cond, eqb, List, [], ◌∷◌, ◌++◌, length, drop, Option, Some, None, refl, sym, ap, subst, ◌∙◌, arith, length-append}
use Rattle.std.specs.Prelude.{◌&&◌, ◌||◌, slice_get}
use Rattle.std.specs.List.{list_all, list_any}
use Rattle.std.proofs.lemmas.Bool.{eqb-true}
use Rattle.omf_format.specs.Expression.{Term, Operator, Location, Constant, Named, Offset, AreTerms, Tree, Leaf, Unary, Binary, IsTree, terms_of, term_text, placed_terms, terms_in, Spells, Expression}
use Rattle.omf_format.specs.laws.ExpressionLaws.{terms_are}
use Rattle.omf_format.specs.laws.TreeLaws.{tree_has_terms, tree-same}
use Rattle.list_meaning.specs.Listed as listed
use Rattle.list_meaning.specs.Listing.{simple_of, weak_of, number_of}
use Rattle.list_lines.specs.FormulaView.{terms_alone, all_terms, any_term, term_at, moved_by, simple_four, weak_two, number_two, is_leaf}

-- ---- terms without their places

pub bare_placed : (l at : ℕ) (terms : List Term) → terms_alone (placed_terms l at terms) ≡ terms
bare_placed l at [] = refl
bare_placed l at (t ∷ terms) = ap (λ (ts : List Term). t ∷ ts) (bare_placed l (at + length (term_text l t)) terms)

pub bare_are : (l : ℕ) (text : List ℕ) (tree : Tree) → Spells l text tree → terms_alone (terms_in l 0 text) ≡ terms_of tree
bare_are l text tree is = ap terms_alone (terms_are l text tree is) ∙ bare_placed l 0 (terms_of tree)

all_bare : (test : Term → Bool) (placed : List (ℕ × Term)) → all_terms test placed ≡ list_all test (terms_alone placed)
all_bare test [] = refl
all_bare test (p ∷ placed) = ap (λ (b : Bool). test p.1 && b) (all_bare test placed)

any_bare : (test : Term → Bool) (placed : List (ℕ × Term)) → any_term test placed ≡ list_any test (terms_alone placed)
any_bare test [] = refl
any_bare test (p ∷ placed) = ap (λ (b : Bool). test p.1 || b) (any_bare test placed)

pub all_are : (test : Term → Bool) (l : ℕ) (text : List ℕ) (tree : Tree) → Spells l text tree → all_terms test (terms_in l 0 text) ≡ list_all test (terms_of tree)
all_are test l text tree is = all_bare test (terms_in l 0 text) ∙ ap (list_all test) (bare_are l text tree is)

pub any_is : (test : Term → Bool) (l : ℕ) (text : List ℕ) (tree : Tree) → Spells l text tree → any_term test (terms_in l 0 text) ≡ list_any test (terms_of tree)
any_is test l text tree is = any_bare test (terms_in l 0 text) ∙ ap (list_any test) (bare_are l text tree is)

-- ---- one term more

pub front_term : (placed : List (ℕ × Term)) (p : ℕ × Term) → Some p ≡ slice_get placed 0 → placed ≡ p ∷ drop 1 placed
front_term [] p e = absurd cc
front_term (q ∷ placed) p e = let same : p ≡ q = cc in ap (λ (x : ℕ × Term). x ∷ placed) (sym same)

pub no_term : (placed : List (ℕ × Term)) → None ≡ slice_get placed 0 → placed ≡ []
no_term [] e = refl
no_term (q ∷ placed) e = absurd cc

and_on : (a b c : Bool) → ((a && b) && c) ≡ (a && (b && c))
and_on true b c = refl
and_on false b c = refl

or_on : (a b c : Bool) → ((a || b) || c) ≡ (a || (b || c))
or_on true b c = refl
or_on false b c = refl

pub all_on : (test : Term → Bool) (known more : Bool) (old new : List (ℕ × Term)) (at : ℕ) (term : Term) → Some (at, term) ≡ slice_get old 0 → new ≡ drop 1 old → more ≡ (known && test term)
    → (more && all_terms test new) ≡ (known && all_terms test old)
all_on test known more old new at term e after is =
    ap (λ (b : Bool). b && all_terms test new) is ∙ and_on known (test term) (all_terms test new)
    ∙ ap (λ (ps : List (ℕ × Term)). known && (test term && all_terms test ps)) after ∙ ap (λ (ps : List (ℕ × Term)). known && all_terms test ps) (sym (front_term old (at, term) e))

pub any_on : (test : Term → Bool) (known more : Bool) (old new : List (ℕ × Term)) (at : ℕ) (term : Term) → Some (at, term) ≡ slice_get old 0 → new ≡ drop 1 old → more ≡ (known || test term)
    → (more || any_term test new) ≡ (known || any_term test old)
any_on test known more old new at term e after is =
    ap (λ (b : Bool). b || any_term test new) is ∙ or_on known (test term) (any_term test new)
    ∙ ap (λ (ps : List (ℕ × Term)). known || (test term || any_term test ps)) after ∙ ap (λ (ps : List (ℕ × Term)). known || any_term test ps) (sym (front_term old (at, term) e))

pub all_end : (test : Term → Bool) (known : Bool) (left : List (ℕ × Term)) → None ≡ slice_get left 0 → (known && all_terms test left) ≡ known
all_end test known left e = ap (λ (ps : List (ℕ × Term)). known && all_terms test ps) (no_term left e) ∙ and_true known
  where
    and_true : (x : Bool) → (x && true) ≡ x
    and_true true = refl
    and_true false = refl

pub any_end : (test : Term → Bool) (known : Bool) (left : List (ℕ × Term)) → None ≡ slice_get left 0 → (known || any_term test left) ≡ known
any_end test known left e = ap (λ (ps : List (ℕ × Term)). known || any_term test ps) (no_term left e) ∙ or_false known
  where
    or_false : (x : Bool) → (x || false) ≡ x
    or_false true = refl
    or_false false = refl

-- ---- the first terms

first_bare : (placed : List (ℕ × Term)) → term_at placed 0 ≡ slice_get (terms_alone placed) 0
first_bare [] = refl
first_bare (p ∷ placed) = refl

drop_bare : (placed : List (ℕ × Term)) → terms_alone (drop 1 placed) ≡ drop 1 (terms_alone placed)
drop_bare [] = refl
drop_bare (p ∷ placed) = refl

abbrev first : List Term → Option Term
first terms = slice_get terms 0

abbrev seen_four : List Term → Option listed.Wanted
seen_four ts = simple_four (first ts) (first (drop 1 ts)) (first (drop 1 (drop 1 ts))) (first (drop 1 (drop 1 (drop 1 ts))))

some_terms : (t : Tree) → 1 ≤ length (terms_of t)
some_terms (Leaf term) = omega arith
some_terms (Unary code a) = omega (arith, length-append (terms_of a) (Operator code ∷ []))
some_terms (Binary code a b) = omega (arith, length-append (terms_of a) (terms_of b ++ Operator code ∷ []), length-append (terms_of b) (Operator code ∷ []))

two_terms : (t : Tree) → is_leaf t ≡ false → 2 ≤ length (terms_of t)
two_terms (Leaf term) e = absurd cc
two_terms (Unary code a) e = omega (arith, length-append (terms_of a) (Operator code ∷ []), some_terms a)
two_terms (Binary code a b) e = omega (arith, length-append (terms_of a) (terms_of b ++ Operator code ∷ []), length-append (terms_of b) (Operator code ∷ []), some_terms a)

abbrev is_pair : Tree → Bool
is_pair (Binary operator (Leaf (Named code name)) (Leaf (Constant n))) = true
is_pair _ = false

two_none : (x y : Term) → simple_four (Some x) (Some y) None None ≡ None
two_none (Named code name) (Operator c) = refl
two_none (Named code name) Location = refl
two_none (Named code name) (Constant n) = refl
two_none (Named code name) (Named c m) = refl
two_none (Named code name) (Offset n) = refl
two_none (Operator c) y = refl
two_none Location y = refl
two_none (Constant n) y = refl
two_none (Offset n) y = refl

four_none : (x y z w : Term) → simple_four (Some x) (Some y) (Some z) (Some w) ≡ None
four_none (Named code name) (Constant n) (Operator c) w = refl
four_none (Named code name) (Constant n) Location w = refl
four_none (Named code name) (Constant n) (Constant m) w = refl
four_none (Named code name) (Constant n) (Named c m) w = refl
four_none (Named code name) (Constant n) (Offset m) w = refl
four_none (Named code name) (Operator c) z w = refl
four_none (Named code name) Location z w = refl
four_none (Named code name) (Named c m) z w = refl
four_none (Named code name) (Offset m) z w = refl
four_none (Operator c) y z w = refl
four_none Location y z w = refl
four_none (Constant n) y z w = refl
four_none (Offset n) y z w = refl

pair_only : (l : ℕ) (t : Tree) (code : ℕ) (name : List ℕ) (n operator : ℕ) → IsTree l t → is_pair t ≡ false → terms_of t ≡ Named code name ∷ Constant n ∷ Operator operator ∷ []
    → (operator ≡ 1 → ⊥) × (operator ≡ 2 → ⊥)
pair_only l t code name n operator is not are =
    let formed : AreTerms l (Named code name ∷ Constant n ∷ Operator operator ∷ []) = subst (AreTerms l) are (tree_has_terms l t is) in
    (λ one. clash 1 one (refl, refl, formed.0, formed.1.0), λ two. clash 2 two (refl, refl, formed.0, formed.1.0))
  where
    clash : (k : ℕ) → operator ≡ k → IsTree l (Binary k (Leaf (Named code name)) (Leaf (Constant n))) → ⊥
    clash k e formed =
        let same : t ≡ Binary k (Leaf (Named code name)) (Leaf (Constant n)) =
        tree-same l t (Binary k (Leaf (Named code name)) (Leaf (Constant n))) is formed (are ∙ ap (λ (o : ℕ). Named code name ∷ Constant n ∷ Operator o ∷ []) e) in
        let wrong : false ≡ true = sym not ∙ ap is_pair same in absurd cc

moved_none : (name : List ℕ) (n operator : ℕ) → (operator ≡ 1 → ⊥) → (operator ≡ 2 → ⊥) → moved_by name n operator ≡ None
moved_none name n operator one two = by (eqb operator 1) (eqb operator 2) refl refl
  where
    by : (a b : Bool) → eqb operator 1 ≡ a → eqb operator 2 ≡ b → cond a (Some (listed.Moved name true n)) (cond b (Some (listed.Moved name false n)) None) ≡ None
    by true b p q = absurd (one (eqb-true operator 1 p))
    by false true p q = absurd (two (eqb-true operator 2 q))
    by false false p q = refl

none_if : (b : Bool) (found : Option listed.Wanted) → found ≡ None → cond b found None ≡ None
none_if true found e = e
none_if false found e = refl

three_none : (l : ℕ) (t : Tree) (x y z : Term) → IsTree l t → is_pair t ≡ false → terms_of t ≡ x ∷ y ∷ z ∷ [] → simple_four (Some x) (Some y) (Some z) None ≡ None
three_none l t (Named code name) (Constant n) (Operator operator) is not are =
    let other = pair_only l t code name n operator is not are in none_if (eqb code 0x83) (moved_by name n operator) (moved_none name n operator other.0 other.1)
three_none l t (Named code name) (Constant n) Location is not are = refl
three_none l t (Named code name) (Constant n) (Constant m) is not are = refl
three_none l t (Named code name) (Constant n) (Named c m) is not are = refl
three_none l t (Named code name) (Constant n) (Offset m) is not are = refl
three_none l t (Named code name) (Operator c) z is not are = refl
three_none l t (Named code name) Location z is not are = refl
three_none l t (Named code name) (Named c m) z is not are = refl
three_none l t (Named code name) (Offset m) z is not are = refl
three_none l t (Operator c) y z is not are = refl
three_none l t Location y z is not are = refl
three_none l t (Constant n) y z is not are = refl
three_none l t (Offset n) y z is not are = refl

seen_none : (l : ℕ) (t : Tree) (ts : List Term) → IsTree l t → is_leaf t ≡ false → is_pair t ≡ false → terms_of t ≡ ts → seen_four ts ≡ None
seen_none l t [] is no_leaf not are = absurd (omega (arith, ap length are, some_terms t))
seen_none l t (x ∷ []) is no_leaf not are = absurd (omega (arith, ap length are, two_terms t no_leaf))
seen_none l t (x ∷ y ∷ []) is no_leaf not are = two_none x y
seen_none l t (x ∷ y ∷ z ∷ []) is no_leaf not are = three_none l t x y z is not are
seen_none l t (x ∷ y ∷ z ∷ w ∷ ts) is no_leaf not are = four_none x y z w

moved_same : (code operator : ℕ) (name : List ℕ) (n : ℕ) → cond (eqb code 0x83) (moved_by name n operator) None ≡ simple_of (Binary operator (Leaf (Named code name)) (Leaf (Constant n)))
unfolding simple_of
moved_same code operator name n = by (eqb code 0x83)
  where
    by : (b : Bool) → cond b (moved_by name n operator) None ≡ cond (b && eqb operator 1) (Some (listed.Moved name true n)) (cond (b && eqb operator 2) (Some (listed.Moved name false n)) None)
    by true = refl
    by false = refl

pub simple_is : (l : ℕ) (t : Tree) → IsTree l t → seen_four (terms_of t) ≡ simple_of t
unfolding simple_of
simple_is l (Leaf (Operator code)) is = refl
simple_is l (Leaf Location) is = refl
simple_is l (Leaf (Constant n)) is = refl
simple_is l (Leaf (Named code name)) is = refl
simple_is l (Leaf (Offset n)) is = refl
simple_is l (Unary code a) is = seen_none l (Unary code a) (terms_of (Unary code a)) is refl refl refl
simple_is l (Binary operator (Leaf (Named code name)) (Leaf (Constant n))) is = moved_same code operator name n
simple_is l (Binary operator (Leaf (Named code name)) (Leaf (Operator c))) is = seen_none l (Binary operator (Leaf (Named code name)) (Leaf (Operator c))) (terms_of (Binary operator (Leaf (Named code name)) (Leaf (Operator c)))) is refl refl refl
simple_is l (Binary operator (Leaf (Named code name)) (Leaf Location)) is = seen_none l (Binary operator (Leaf (Named code name)) (Leaf Location)) (terms_of (Binary operator (Leaf (Named code name)) (Leaf Location))) is refl refl refl
simple_is l (Binary operator (Leaf (Named code name)) (Leaf (Named c m))) is = seen_none l (Binary operator (Leaf (Named code name)) (Leaf (Named c m))) (terms_of (Binary operator (Leaf (Named code name)) (Leaf (Named c m)))) is refl refl refl
simple_is l (Binary operator (Leaf (Named code name)) (Leaf (Offset n))) is = seen_none l (Binary operator (Leaf (Named code name)) (Leaf (Offset n))) (terms_of (Binary operator (Leaf (Named code name)) (Leaf (Offset n)))) is refl refl refl
simple_is l (Binary operator (Leaf (Named code name)) (Unary c b)) is = seen_none l (Binary operator (Leaf (Named code name)) (Unary c b)) (terms_of (Binary operator (Leaf (Named code name)) (Unary c b))) is refl refl refl
simple_is l (Binary operator (Leaf (Named code name)) (Binary c b d)) is = seen_none l (Binary operator (Leaf (Named code name)) (Binary c b d)) (terms_of (Binary operator (Leaf (Named code name)) (Binary c b d))) is refl refl refl
simple_is l (Binary operator (Leaf (Operator code)) b) is = seen_none l (Binary operator (Leaf (Operator code)) b) (terms_of (Binary operator (Leaf (Operator code)) b)) is refl refl refl
simple_is l (Binary operator (Leaf Location) b) is = seen_none l (Binary operator (Leaf Location) b) (terms_of (Binary operator (Leaf Location) b)) is refl refl refl
simple_is l (Binary operator (Leaf (Constant n)) b) is = seen_none l (Binary operator (Leaf (Constant n)) b) (terms_of (Binary operator (Leaf (Constant n)) b)) is refl refl refl
simple_is l (Binary operator (Leaf (Offset n)) b) is = seen_none l (Binary operator (Leaf (Offset n)) b) (terms_of (Binary operator (Leaf (Offset n)) b)) is refl refl refl
simple_is l (Binary operator (Unary c a) b) is = seen_none l (Binary operator (Unary c a) b) (terms_of (Binary operator (Unary c a) b)) is refl refl refl
simple_is l (Binary operator (Binary c a d) b) is = seen_none l (Binary operator (Binary c a d) b) (terms_of (Binary operator (Binary c a d) b)) is refl refl refl

no_weak : (x y : Term) → weak_two (Some x) (Some y) ≡ None
no_weak (Named code name) y = refl
no_weak (Operator c) y = refl
no_weak Location y = refl
no_weak (Constant n) y = refl
no_weak (Offset n) y = refl

no_number : (x y : Term) → number_two (Some x) (Some y) ≡ None
no_number (Constant n) y = refl
no_number (Named code name) y = refl
no_number (Operator c) y = refl
no_number Location y = refl
no_number (Offset n) y = refl

weak_none : (t : Tree) (ts : List Term) → is_leaf t ≡ false → terms_of t ≡ ts → weak_two (first ts) (first (drop 1 ts)) ≡ None
weak_none t [] no_leaf are = absurd (omega (arith, ap length are, some_terms t))
weak_none t (x ∷ []) no_leaf are = absurd (omega (arith, ap length are, two_terms t no_leaf))
weak_none t (x ∷ y ∷ ts) no_leaf are = no_weak x y

number_none : (t : Tree) (ts : List Term) → is_leaf t ≡ false → terms_of t ≡ ts → number_two (first ts) (first (drop 1 ts)) ≡ None
number_none t [] no_leaf are = absurd (omega (arith, ap length are, some_terms t))
number_none t (x ∷ []) no_leaf are = absurd (omega (arith, ap length are, two_terms t no_leaf))
number_none t (x ∷ y ∷ ts) no_leaf are = no_number x y

pub weak_is : (t : Tree) → weak_two (first (terms_of t)) (first (drop 1 (terms_of t))) ≡ weak_of t
unfolding weak_of
weak_is (Leaf (Operator code)) = refl
weak_is (Leaf Location) = refl
weak_is (Leaf (Constant n)) = refl
weak_is (Leaf (Named code name)) = refl
weak_is (Leaf (Offset n)) = refl
weak_is (Unary code a) = weak_none (Unary code a) (terms_of (Unary code a)) refl refl
weak_is (Binary code a b) = weak_none (Binary code a b) (terms_of (Binary code a b)) refl refl

pub number_is : (t : Tree) → number_two (first (terms_of t)) (first (drop 1 (terms_of t))) ≡ number_of t
number_is (Leaf (Operator code)) = refl
number_is (Leaf Location) = refl
number_is (Leaf (Constant n)) = refl
number_is (Leaf (Named code name)) = refl
number_is (Leaf (Offset n)) = refl
number_is (Unary code a) = number_none (Unary code a) (terms_of (Unary code a)) refl refl
number_is (Binary code a b) = number_none (Binary code a b) (terms_of (Binary code a b)) refl refl

-- ---- the same for terms that were read

module _ (e : Expression) (tree : Tree) (spells : Spells e.lab_len e.text tree) where
  place_0 : term_at (terms_in e.lab_len 0 e.text) 0 ≡ first (terms_of tree)
  place_0 = first_bare (terms_in e.lab_len 0 e.text) ∙ ap first (bare_are e.lab_len e.text tree spells)

  dropped : terms_alone (drop 1 (terms_in e.lab_len 0 e.text)) ≡ drop 1 (terms_of tree)
  dropped = drop_bare (terms_in e.lab_len 0 e.text) ∙ ap (drop 1) (bare_are e.lab_len e.text tree spells)

  place_1 : term_at (drop 1 (terms_in e.lab_len 0 e.text)) 0 ≡ first (drop 1 (terms_of tree))
  place_1 = first_bare (drop 1 (terms_in e.lab_len 0 e.text)) ∙ ap first dropped

  dropped_2 : terms_alone (drop 1 (drop 1 (terms_in e.lab_len 0 e.text))) ≡ drop 1 (drop 1 (terms_of tree))
  dropped_2 = drop_bare (drop 1 (terms_in e.lab_len 0 e.text)) ∙ ap (drop 1) dropped

  place_2 : term_at (drop 1 (drop 1 (terms_in e.lab_len 0 e.text))) 0 ≡ first (drop 1 (drop 1 (terms_of tree)))
  place_2 = first_bare (drop 1 (drop 1 (terms_in e.lab_len 0 e.text))) ∙ ap first dropped_2

  dropped_3 : terms_alone (drop 1 (drop 1 (drop 1 (terms_in e.lab_len 0 e.text)))) ≡ drop 1 (drop 1 (drop 1 (terms_of tree)))
  dropped_3 = drop_bare (drop 1 (drop 1 (terms_in e.lab_len 0 e.text))) ∙ ap (drop 1) dropped_2

  place_3 : term_at (drop 1 (drop 1 (drop 1 (terms_in e.lab_len 0 e.text)))) 0 ≡ first (drop 1 (drop 1 (drop 1 (terms_of tree))))
  place_3 = first_bare (drop 1 (drop 1 (drop 1 (terms_in e.lab_len 0 e.text)))) ∙ ap first dropped_3

pub simple_read : (e : Expression) (tree : Tree) (a b c d : Option Term) → Spells e.lab_len e.text tree → a ≡ term_at (terms_in e.lab_len 0 e.text) 0 → b ≡ term_at (drop 1 (terms_in e.lab_len 0 e.text)) 0
    → c ≡ term_at (drop 1 (drop 1 (terms_in e.lab_len 0 e.text))) 0 → d ≡ term_at (drop 1 (drop 1 (drop 1 (terms_in e.lab_len 0 e.text)))) 0 → simple_four a b c d ≡ simple_of tree
simple_read e tree a b c d is p q r s =
    ap (λ (x : Option Term). simple_four x b c d) (p ∙ place_0 e tree is)
    ∙ ap (λ (x : Option Term). simple_four (first (terms_of tree)) x c d) (q ∙ place_1 e tree is)
    ∙ ap (λ (x : Option Term). simple_four (first (terms_of tree)) (first (drop 1 (terms_of tree))) x d) (r ∙ place_2 e tree is)
    ∙ ap (simple_four (first (terms_of tree)) (first (drop 1 (terms_of tree))) (first (drop 1 (drop 1 (terms_of tree))))) (s ∙ place_3 e tree is)
    ∙ simple_is e.lab_len tree is.formed

pub weak_read : (e : Expression) (tree : Tree) (a b : Option Term) → Spells e.lab_len e.text tree → a ≡ term_at (terms_in e.lab_len 0 e.text) 0 → b ≡ term_at (drop 1 (terms_in e.lab_len 0 e.text)) 0 → weak_two a b ≡ weak_of tree
weak_read e tree a b is p q =
    ap (λ (x : Option Term). weak_two x b) (p ∙ place_0 e tree is) ∙ ap (weak_two (first (terms_of tree))) (q ∙ place_1 e tree is) ∙ weak_is tree

pub number_read : (e : Expression) (tree : Tree) (a b : Option Term) → Spells e.lab_len e.text tree → a ≡ term_at (terms_in e.lab_len 0 e.text) 0 → b ≡ term_at (drop 1 (terms_in e.lab_len 0 e.text)) 0 → number_two a b ≡ number_of tree
number_read e tree a b is p q =
    ap (λ (x : Option Term). number_two x b) (p ∙ place_0 e tree is) ∙ ap (number_two (first (terms_of tree))) (q ∙ place_1 e tree is) ∙ number_is tree
