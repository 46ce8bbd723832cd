-- The parts of a formula, of which the first 256 bytes count.
use Rattle.std.proofs.Common.{◌≡◌, ℕ, zero, suc, ◌+◌, ◌-◌, ◌≤◌, min, Bool, true, false, cond, eqb, List, [], ◌∷◌, ◌++◌, length, map, take, drop, Some, refl, sym, ap, subst, ◌∙◌, arith, append_assoc, length-append}
use Rattle.std.specs.Prelude.{codes, slice_get, ◌||◌, Result, Ok, Err, IfOk}
use Rattle.std.proofs.lemmas.Bool.{eqb-true, eq-eqb}
use Rattle.omf_format.specs.Expression.{Term, Operator, Location, Constant, Named, Offset, Tree, Leaf, Unary, Binary, terms_in, IsExpression, operand_count, operands_of, Lead}
use Rattle.omf_format.specs.laws.TreeLaws.{operand_counts}
use Rattle.omf_format.specs.laws.ExpressionLaws.{tree_leads_to_one}
use Rattle.object_meaning.specs.Terms.{with_term, trees_after, tree_in}
use Rattle.object_meaning.specs.laws.Steps.{last_tree}
use Rattle.list_meaning.specs.Listed.{formula_text, operator_text, as_operand}
use Rattle.list_lines.specs.declared.formula.FormulaPart.{FormulaPart}
use Rattle.list_lines.specs.FormulaView.{terms_alone, is_leaf, parenthesized, part_view, part_of_tree, all_reported, AreParts}
use Rattle.list_lines.proofs.TermLaws.{bare_are, front_term}

-- ---- the first bytes

less : (n : ℕ) (a b : List ℕ) → take (suc n) a ≡ take (suc n) b → take n a ≡ take n b
less zero a b e = refl
less (suc n) [] [] e = refl
less (suc n) [] (y ∷ b) e = absurd cc
less (suc n) (x ∷ a) [] e = absurd cc
less (suc n) (x ∷ a) (y ∷ b) e =
    let head : x ≡ y = cc in
    let tail : take (suc n) a ≡ take (suc n) b = cc in
    ap (λ (z : ℕ). z ∷ take n a) head ∙ ap (λ (l : List ℕ). y ∷ l) (less n a b tail)

-- texts that begin with the same n bytes, after the same text
pub cut_after : (n : ℕ) (x a b : List ℕ) → take n a ≡ take n b → take n (x ++ a) ≡ take n (x ++ b)
cut_after n [] a b e = e
cut_after zero (c ∷ x) a b e = refl
cut_after (suc n) (c ∷ x) a b e = ap (λ (l : List ℕ). c ∷ l) (cut_after n x a b (less n a b e))

-- with the same first bytes before
pub cut_before : (n : ℕ) (a b y : List ℕ) → take n a ≡ take n b → take n (a ++ y) ≡ take n (b ++ y)
cut_before zero a b y e = refl
cut_before (suc n) [] [] y e = refl
cut_before (suc n) [] (z ∷ b) y e = absurd cc
cut_before (suc n) (x ∷ a) [] y e = absurd cc
cut_before (suc n) (x ∷ a) (z ∷ b) y e =
    let head : x ≡ z = cc in
    let tail : take n a ≡ take n b = cc in
    ap (λ (k : ℕ). k ∷ take n (a ++ y)) head ∙ ap (λ (l : List ℕ). z ∷ l) (cut_before n a b y tail)

cut_all : (n k : ℕ) (bytes : List ℕ) → min (length bytes) n ≤ k → take n (take k bytes) ≡ take n bytes
cut_all zero k bytes few = refl
cut_all (suc n) zero [] few = refl
cut_all (suc n) zero (b ∷ bytes) few = absurd (omega (arith, few))
cut_all (suc n) (suc k) [] few = refl
cut_all (suc n) (suc k) (b ∷ bytes) few = ap (λ (l : List ℕ). b ∷ l) (cut_all n k bytes (omega (arith, few)))

-- as many bytes as there is room for
pub put_cut : (n : ℕ) (old bytes : List ℕ) (k : ℕ) → min (length bytes) (n - length old) ≤ k → take n (old ++ take k bytes) ≡ take n (old ++ bytes)
put_cut n [] bytes k few = cut_all n k bytes (omega (arith, few))
put_cut zero (c ∷ old) bytes k few = refl
put_cut (suc n) (c ∷ old) bytes k few = ap (λ (l : List ℕ). c ∷ l) (put_cut n old bytes k (omega (arith, few)))

-- ---- operands

-- bytes in parentheses, one after another
pub enclosed_put : (old text a b c : List ℕ) → take 256 a ≡ take 256 (old ++ codes "(") → take 256 b ≡ take 256 (a ++ text) → take 256 c ≡ take 256 (b ++ codes ")") → take 256 c ≡ take 256 (old ++ (codes "(" ++ (text ++ codes ")")))
enclosed_put old text a b c p q r =
    r ∙ cut_before 256 b (a ++ text) (codes ")") q ∙ cut_before 256 (a ++ text) ((old ++ codes "(") ++ text) (codes ")") (cut_before 256 a (old ++ codes "(") text p)
    ∙ ap (take 256) (append_assoc (old ++ codes "(") text (codes ")") ∙ append_assoc old (codes "(") (text ++ codes ")"))

-- two pieces, one after another
pub put_both : (old x y a b : List ℕ) → take 256 a ≡ take 256 (old ++ x) → take 256 b ≡ take 256 (a ++ y) → take 256 b ≡ take 256 (old ++ (x ++ y))
put_both old x y a b p q = q ∙ cut_before 256 a (old ++ x) y p ∙ ap (take 256) (append_assoc old x y)

left_is : (a c : List ℕ) (b d : Bool) → ◌≡◌ {A = List ℕ × Bool} (a, b) (c, d) → a ≡ c
left_is a c b d e = ap (λ (p : List ℕ × Bool). p.0) e

right_is : (a c : List ℕ) (b d : Bool) → ◌≡◌ {A = List ℕ × Bool} (a, b) (c, d) → b ≡ d
right_is a c b d e = ap (λ (p : List ℕ × Bool). p.1) e

both_are : (a c : List ℕ) (b d : Bool) → a ≡ c → b ≡ d → ◌≡◌ {A = List ℕ × Bool} (a, b) (c, d)
both_are a c b d p q = ap (λ (x : List ℕ). (x, b)) p ∙ ap (λ (x : Bool). (c, x)) q

-- a part as an operand is its tree as an operand
enclosed_reported : (part : FormulaPart) (t : Tree) → part_view part ≡ part_of_tree t → take 256 (parenthesized part.alone part.text) ≡ take 256 (as_operand t (formula_text t))
enclosed_reported part t e = by t (right_is (take 256 part.text) (take 256 (formula_text t)) part.alone (is_leaf t) e) (left_is (take 256 part.text) (take 256 (formula_text t)) part.alone (is_leaf t) e)
  where
    parens : (text other : List ℕ) → take 256 text ≡ take 256 other → take 256 (codes "(" ++ (text ++ codes ")")) ≡ take 256 (codes "(" ++ (other ++ codes ")"))
    parens text other e = cut_after 256 (codes "(") (text ++ codes ")") (other ++ codes ")") (cut_before 256 text other (codes ")") e)

    by : (t : Tree) → part.alone ≡ is_leaf t → take 256 part.text ≡ take 256 (formula_text t) → take 256 (parenthesized part.alone part.text) ≡ take 256 (as_operand t (formula_text t))
    by (Leaf term) alone text = ap (λ (b : Bool). take 256 (parenthesized b part.text)) alone ∙ text
    by (Unary code a) alone text = ap (λ (b : Bool). take 256 (parenthesized b part.text)) alone ∙ parens part.text (formula_text (Unary code a)) text
    by (Binary code a b) alone text = ap (λ (b : Bool). take 256 (parenthesized b part.text)) alone ∙ parens part.text (formula_text (Binary code a b)) text

-- an operator over one part
pub reported_one : (code : ℕ) (part right : FormulaPart) (a : Tree) → part_view right ≡ part_of_tree a → take 256 part.text ≡ take 256 (operator_text code ++ parenthesized right.alone right.text) → part.alone ≡ false → part_view part ≡ part_of_tree (Unary code a)
reported_one code part right a is text alone =
    both_are (take 256 part.text) (take 256 (formula_text (Unary code a))) part.alone false
    (text ∙ cut_after 256 (operator_text code) (parenthesized right.alone right.text) (as_operand a (formula_text a)) (enclosed_reported right a is)) alone

-- an operator over two parts
pub reported_two : (code : ℕ) (part left right : FormulaPart) (a b : Tree) → part_view left ≡ part_of_tree a → part_view right ≡ part_of_tree b
    → take 256 part.text ≡ take 256 (parenthesized left.alone left.text ++ (operator_text code ++ parenthesized right.alone right.text)) → part.alone ≡ false → part_view part ≡ part_of_tree (Binary code a b)
reported_two code part left right a b is are text alone =
    let following = operator_text code ++ parenthesized right.alone right.text in
    let other = operator_text code ++ as_operand b (formula_text b) in
    both_are (take 256 part.text) (take 256 (formula_text (Binary code a b))) part.alone false
    (text ∙ cut_before 256 (parenthesized left.alone left.text) (as_operand a (formula_text a)) following (enclosed_reported left a is)
    ∙ cut_after 256 (as_operand a (formula_text a)) following other (cut_after 256 (operator_text code) (parenthesized right.alone right.text) (as_operand b (formula_text b)) (enclosed_reported right b are))) alone

-- ---- parts one after another

record SameEnds {A : Type 0} (xs ys : List A) (x y : A) : Type 0 where
  before : xs ≡ ys
  last : x ≡ y

ends_same : {A : Type 0} (xs ys : List A) (x y : A) → xs ++ x ∷ [] ≡ ys ++ y ∷ [] → SameEnds xs ys x y
ends_same [] [] x y e = record { before = refl; last = cc }
ends_same [] (z ∷ ys) x y e = let e' : [] ≡ ys ++ y ∷ [] = cc in absurd (omega (arith, ap length e', length-append ys (y ∷ [])))
ends_same (z ∷ xs) [] x y e = let e' : xs ++ x ∷ [] ≡ [] = cc in absurd (omega (arith, ap length e', length-append xs (x ∷ [])))
ends_same (z ∷ xs) (w ∷ ys) x y e =
    let tail : xs ++ x ∷ [] ≡ ys ++ y ∷ [] = cc in
    let head : z ≡ w = cc in
    let more = ends_same xs ys x y tail in
    record { before = ap (λ (k : _). k ∷ xs) head ∙ ap (λ (l : List _). w ∷ l) more.before; last = more.last }

map_last : (rest : List FormulaPart) (x : FormulaPart) → map part_view (rest ++ x ∷ []) ≡ map part_view rest ++ part_view x ∷ []
map_last [] x = refl
map_last (y ∷ rest) x = ap (λ (l : List (List ℕ × Bool)). part_view y ∷ l) (map_last rest x)

-- the last part is that of the first tree
pub record Popped (trees : List Tree) (rest : List FormulaPart) (x : FormulaPart) : Type 0 where
  pub tree : Tree
  pub others : List Tree
  pub are : trees ≡ tree ∷ others
  pub view : map part_view rest ≡ all_reported others
  pub last : part_view x ≡ part_of_tree tree

pub popped : (trees : List Tree) (items rest : List FormulaPart) (x : FormulaPart) → map part_view items ≡ all_reported trees → items ≡ rest ++ x ∷ [] → Popped trees rest x
popped [] items rest x view are = absurd (omega (arith, ap length (sym (map_last rest x) ∙ sym (ap (map part_view) are) ∙ view), length-append (map part_view rest) (part_view x ∷ [])))
popped (t ∷ trees) items rest x view are =
    let same = ends_same (map part_view rest) (all_reported trees) (part_view x) (part_of_tree t) (sym (map_last rest x) ∙ sym (ap (map part_view) are) ∙ view) in
    record { tree = t; others = trees; are = refl; view = same.before; last = same.last }

one_after : (code : ℕ) (a : Tree) (trees : List Tree) → eqb (operand_count code) 1 ≡ true → with_term (a ∷ trees) (Operator code) ≡ Unary code a ∷ trees
one_after code a trees is = rw is refl

two_after : (code : ℕ) (a b : Tree) (trees : List Tree) → eqb (operand_count code) 1 ≡ false → with_term (b ∷ a ∷ trees) (Operator code) ≡ Binary code a b ∷ trees
two_after code a b trees is = rw is refl

-- what an operator over the last part leaves
pub over_last : (code : ℕ) (trees : List Tree) (items rest : List FormulaPart) (right part : FormulaPart) → map part_view items ≡ all_reported trees → items ≡ rest ++ right ∷ [] → eqb (operand_count code) 1 ≡ true
    → take 256 part.text ≡ take 256 (operator_text code ++ parenthesized right.alone right.text) → part.alone ≡ false → map part_view rest ++ part_view part ∷ [] ≡ all_reported (with_term trees (Operator code))
over_last code trees items rest right part view are one text alone =
    let p = popped trees items rest right view are in
    ap (λ (l : List (List ℕ × Bool)). l ++ part_view part ∷ []) p.view
    ∙ ap (λ (x : List ℕ × Bool). all_reported p.others ++ x ∷ []) (reported_one code part right p.tree p.last text alone)
    ∙ ap all_reported (sym (ap (λ (ts : List Tree). with_term ts (Operator code)) p.are ∙ one_after code p.tree p.others one))

-- what an operator over the last two parts leaves
pub over_both : (code : ℕ) (trees : List Tree) (items middle rest : List FormulaPart) (left right part : FormulaPart) → map part_view items ≡ all_reported trees → items ≡ middle ++ right ∷ [] → middle ≡ rest ++ left ∷ [] → eqb (operand_count code) 1 ≡ false
    → take 256 part.text ≡ take 256 (parenthesized left.alone left.text ++ (operator_text code ++ parenthesized right.alone right.text)) → part.alone ≡ false → map part_view rest ++ part_view part ∷ [] ≡ all_reported (with_term trees (Operator code))
over_both code trees items middle rest left right part view are then two text alone =
    let p = popped trees items middle right view are in
    let q = popped p.others middle rest left p.view then in
    ap (λ (l : List (List ℕ × Bool)). l ++ part_view part ∷ []) q.view
    ∙ ap (λ (x : List ℕ × Bool). all_reported q.others ++ x ∷ []) (reported_two code part left right q.tree p.tree q.last p.last text alone)
    ∙ ap all_reported (sym (ap (λ (ts : List Tree). with_term ts (Operator code)) (p.are ∙ ap (λ (ts : List Tree). p.tree ∷ ts) q.are) ∙ two_after code q.tree p.tree q.others two))

-- `over_last` for a part that may be missing
pub one_answer : {E : Type 0} (r : Result FormulaPart E) (code : ℕ) (items rest : List FormulaPart) (right : FormulaPart) → items ≡ rest ++ right ∷ [] → eqb (operand_count code) 1 ≡ true
    → IfOk r (λ part. take 256 part.text ≡ take 256 (operator_text code ++ parenthesized right.alone right.text)) → IfOk r (λ part. part.alone ≡ false)
    → (trees : List Tree) → map part_view items ≡ all_reported trees → IfOk r (λ part. map part_view rest ++ part_view part ∷ [] ≡ all_reported (with_term trees (Operator code)))
one_answer (Ok part) code items rest right are one text alone trees view = over_last code trees items rest right part view are one text alone
one_answer (Err e) code items rest right are one text alone trees view = tt

pub two_answer : {E : Type 0} (r : Result FormulaPart E) (code : ℕ) (items middle rest : List FormulaPart) (left right : FormulaPart) → items ≡ middle ++ right ∷ [] → middle ≡ rest ++ left ∷ [] → eqb (operand_count code) 1 ≡ false
    → IfOk r (λ part. take 256 part.text ≡ take 256 (parenthesized left.alone left.text ++ (operator_text code ++ parenthesized right.alone right.text))) → IfOk r (λ part. part.alone ≡ false)
    → (trees : List Tree) → map part_view items ≡ all_reported trees → IfOk r (λ part. map part_view rest ++ part_view part ∷ [] ≡ all_reported (with_term trees (Operator code)))
two_answer (Ok part) code items middle rest left right are then two text alone trees view = over_both code trees items middle rest left right part view are then two text alone
two_answer (Err e) code items middle rest left right are then two text alone trees view = tt

-- a part that takes no others
pub leaf_after : (term : Term) (trees : List Tree) (items : List FormulaPart) (part : FormulaPart) → operands_of term ≡ 0 → map part_view items ≡ all_reported trees → part_view part ≡ part_of_tree (Leaf term) → map part_view items ++ part_view part ∷ [] ≡ all_reported (with_term trees term)
leaf_after (Operator code) trees items part none view is = absurd (omega (arith, none, some code))
  where
    some : (code : ℕ) → 1 ≤ operand_count code
    some code = by (eqb code 0x06 || eqb code 0x0B || eqb code 0x15)
      where
        by : (b : Bool) → 1 ≤ cond b 1 2
        by true = omega arith
        by false = omega arith
leaf_after Location trees items part none view is = ap (λ (l : List (List ℕ × Bool)). l ++ part_view part ∷ []) view ∙ ap (λ (x : List ℕ × Bool). all_reported trees ++ x ∷ []) is
leaf_after (Constant n) trees items part none view is = ap (λ (l : List (List ℕ × Bool)). l ++ part_view part ∷ []) view ∙ ap (λ (x : List ℕ × Bool). all_reported trees ++ x ∷ []) is
leaf_after (Named code name) trees items part none view is = ap (λ (l : List (List ℕ × Bool)). l ++ part_view part ∷ []) view ∙ ap (λ (x : List ℕ × Bool). all_reported trees ++ x ∷ []) is
leaf_after (Offset n) trees items part none view is = ap (λ (l : List (List ℕ × Bool)). l ++ part_view part ∷ []) view ∙ ap (λ (x : List ℕ × Bool). all_reported trees ++ x ∷ []) is

-- ---- all terms

reported_count : (trees : List Tree) → length (all_reported trees) ≡ length trees
reported_count [] = refl
reported_count (t ∷ trees) = length-append (all_reported trees) (part_of_tree t ∷ []) ∙ omega (arith, reported_count trees)

map_count : (items : List FormulaPart) → length (map part_view items) ≡ length items
map_count [] = refl
map_count (x ∷ items) = ap suc (map_count items)

-- there are as many parts as trees
pub part_count : (trees : List Tree) (items : List FormulaPart) → map part_view items ≡ all_reported trees → length items ≡ length trees
part_count trees items view = sym (map_count items) ∙ ap length view ∙ reported_count trees

with_count : (trees : List Tree) (term : Term) → operands_of term ≤ length trees → length (with_term trees term) ≡ length trees - operands_of term + 1
with_count trees (Operator code) some = by (eqb (operand_count code) 1) refl trees some
  where
    by : (b : Bool) → eqb (operand_count code) 1 ≡ b → (trees : List Tree) → operand_count code ≤ length trees → length (with_term trees (Operator code)) ≡ length trees - operand_count code + 1
    by true e [] some = absurd (omega (arith, some, eqb-true (operand_count code) 1 e))
    by true e (a ∷ trees) some = ap length (one_after code a trees e) ∙ omega (arith, eqb-true (operand_count code) 1 e)
    by false e trees some = two (operand_counts code (λ one. let clash : true ≡ false = sym (eq-eqb (operand_count code) 1 one) ∙ e in absurd cc)) trees some
      where
        two : operand_count code ≡ 2 → (trees : List Tree) → operand_count code ≤ length trees → length (with_term trees (Operator code)) ≡ length trees - operand_count code + 1
        two is [] some = absurd (omega (arith, some, is))
        two is (b ∷ []) some = absurd (omega (arith, some, is))
        two is (b ∷ a ∷ trees) some = ap length (two_after code a b trees e) ∙ omega (arith, is)
with_count trees Location some = omega arith
with_count trees (Constant n) some = omega arith
with_count trees (Named code name) some = omega arith
with_count trees (Offset n) some = omega arith

-- at first there are no parts
pub parts_begin : (l : ℕ) (text : List ℕ) → IsExpression l text → AreParts (terms_alone (terms_in l 0 text)) (terms_alone (terms_in l 0 text)) []
parts_begin l text is =
    record { trees = []; view = refl; same = refl; leads = subst (λ (ts : List Term). Lead 0 ts 1) (sym (bare_are l text is.tree is.spells)) (tree_leads_to_one l is.tree is.spells.formed is.spells.shallow) }

-- and leaves parts
pub parts_on : (all : List Term) (left next : List (ℕ × Term)) (at : ℕ) (term : Term) (parts rest more : List FormulaPart) (part : FormulaPart) → AreParts all (terms_alone left) parts → Some (at, term) ≡ slice_get left 0 → next ≡ drop 1 left
    → ((trees : List Tree) → map part_view parts ≡ all_reported trees → map part_view rest ++ part_view part ∷ [] ≡ all_reported (with_term trees term)) → more ≡ rest ++ part ∷ [] → AreParts all (terms_alone next) more
parts_on all left next at term parts rest more part are e after gives is =
    let front = front_term left (at, term) e in
    let on : Lead (length are.trees) (term ∷ terms_alone (drop 1 left)) 1 = subst (λ (ps : List (ℕ × Term)). Lead (length are.trees) (terms_alone ps) 1) front are.leads in
    let leads : Lead (length (with_term are.trees term)) (terms_alone (drop 1 left)) 1 = subst (λ (n : ℕ). Lead n (terms_alone (drop 1 left)) 1) (sym (with_count are.trees term on.0)) on.2 in
    let same : trees_after (with_term are.trees term) (terms_alone (drop 1 left)) ≡ trees_after [] all = sym (ap (λ (ps : List (ℕ × Term)). trees_after are.trees (terms_alone ps)) front) ∙ are.same in
    subst (λ (ps : List (ℕ × Term)). AreParts all (terms_alone ps) more) (sym after) (record {
      trees = with_term are.trees term;
      view = ap (map part_view) is ∙ map_last rest part ∙ gives are.trees are.view;
      same = same;
      leads = leads;
    })

-- at the end there is one
parts_one : (trees : List Tree) (items rest : List FormulaPart) (part : FormulaPart) (tree : Tree) → length trees ≡ 1 → map part_view items ≡ all_reported trees → items ≡ rest ++ part ∷ [] → last_tree trees ≡ Some tree → take 256 part.text ≡ take 256 (formula_text tree)
parts_one trees items rest part tree one view are last =
    let p = popped trees items rest part view are in
    let first : Some p.tree ≡ Some tree = sym (ap last_tree p.are) ∙ last in
    let same : p.tree ≡ tree = cc in
    left_is (take 256 part.text) (take 256 (formula_text p.tree)) part.alone (is_leaf p.tree) p.last ∙ ap (λ (t : Tree). take 256 (formula_text t)) same

pub parts_end : (l : ℕ) (text : List ℕ) (left : List (ℕ × Term)) (parts rest : List FormulaPart) (part : FormulaPart) → AreParts (terms_alone (terms_in l 0 text)) (terms_alone left) parts → left ≡ [] → parts ≡ rest ++ part ∷ []
    → (tree : Tree) → tree_in l text ≡ Some tree → take 256 part.text ≡ take 256 (formula_text tree)
unfolding tree_in
parts_end l text left parts rest part are none last tree is =
    let same : are.trees ≡ trees_after [] (terms_alone (terms_in l 0 text)) = sym (ap (λ (ps : List (ℕ × Term)). trees_after are.trees (terms_alone ps)) none) ∙ are.same in
    let one : length are.trees ≡ 1 = subst (λ (ps : List (ℕ × Term)). Lead (length are.trees) (terms_alone ps) 1) none are.leads in
    parts_one are.trees parts rest part tree one are.view last (ap last_tree same ∙ is)

pub parts_left : (all : List Term) (left : List (ℕ × Term)) (parts : List FormulaPart) → AreParts all (terms_alone left) parts → left ≡ [] → 1 ≤ length parts
parts_left all left parts are none =
    let one : length are.trees ≡ 1 = subst (λ (ps : List (ℕ × Term)). Lead (length are.trees) (terms_alone ps) 1) none are.leads in
    omega (arith, one, part_count are.trees parts are.view)
