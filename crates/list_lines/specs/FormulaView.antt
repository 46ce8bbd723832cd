-- How the terms and the parts of a formula are seen.
use Rattle.std.specs.Prelude.{◌≡◌, ℕ, ◌==◌, Bool, true, false, List, [], ◌∷◌, ◌++◌, codes, map, take, drop, slice_get, length, Option, Some, None, option_map, if◌then◌else◌}
use Rattle.std.specs.List.{list_all, list_any}
use Rattle.omf_format.specs.Expression.{Term, Operator, Constant, Named, Tree, Leaf, Unary, Binary, Lead, Expression, terms_in}
use Rattle.omf_expr.specs.View.{view}
use Rattle.object_meaning.specs.Terms.{trees_after}
use Rattle.list_meaning.specs.Listed as listed
use Rattle.list_meaning.specs.Listed.{formula_text}
use Rattle.list_lines.specs.declared.formula.Front.{Front}
use Rattle.list_lines.specs.declared.formula.FormulaPart.{FormulaPart}

-- ---- terms

-- terms without their displacements
abbrev pub terms_alone : List (ℕ × Term) → List Term
terms_alone placed = map (λ p. p.1) placed

-- all terms pass a test
abbrev pub all_terms : (Term → Bool) → List (ℕ × Term) → Bool
all_terms test placed = list_all (λ p. test p.1) placed

-- a term passes a test
abbrev pub any_term : (Term → Bool) → List (ℕ × Term) → Bool
any_term test placed = list_any (λ p. test p.1) placed

-- the term at a place
abbrev pub term_at : List (ℕ × Term) → ℕ → Option Term
term_at placed k = option_map (λ p. p.1) (slice_get placed k)

-- ---- the first terms

-- what a name followed by a number means, by its operator
abbrev pub moved_by : List ℕ → ℕ → ℕ → Option listed.Wanted
moved_by name n operator =
    if operator == 0x01 then Some (listed.Moved name true n) else if operator == 0x02 then Some (listed.Moved name false n) else None

-- the operand that the first four terms are, where there are no more: a name, or a name, a number and an operator
abbrev pub simple_four : Option Term → Option Term → Option Term → Option Term → Option listed.Wanted
simple_four (Some (Named code name)) None third fourth = if code == 0x83 then Some (listed.Label name) else None
simple_four (Some (Named code name)) (Some (Constant n)) (Some (Operator operator)) None = if code == 0x83 then moved_by name n operator else None
simple_four _ _ _ _ = None

-- the weak name that the first two terms are
abbrev pub weak_two : Option Term → Option Term → Option (List ℕ)
weak_two (Some (Named code name)) None = if code == 0x82 then Some name else None
weak_two _ _ = None

-- the number that the first two terms are
abbrev pub number_two : Option Term → Option Term → Option ℕ
number_two (Some (Constant n)) None = Some n
number_two _ _ = None

-- ---- parts

-- an operand of its own
abbrev pub is_leaf : Tree → Bool
is_leaf (Leaf term) = true
is_leaf (Unary code a) = false
is_leaf (Binary code a b) = false

-- an operand in its parentheses
abbrev pub parenthesized : Bool → List ℕ → List ℕ
parenthesized true text = text
parenthesized false text = codes "(" ++ (text ++ codes ")")

-- of a part its first 256 bytes count
abbrev pub part_view : FormulaPart → List ℕ × Bool
part_view part = (take 256 part.text, part.alone)

-- the part that a tree is
abbrev pub part_of_tree : Tree → List ℕ × Bool
part_of_tree tree = (take 256 (formula_text tree), is_leaf tree)

-- the parts of trees, in reverse order
abbrev pub all_reported : List Tree → List (List ℕ × Bool)
all_reported [] = []
all_reported (tree ∷ trees) = all_reported trees ++ part_of_tree tree ∷ []

-- the parts are those of the terms so far, and the terms that are left find their operands
pub record AreParts (all left : List Term) (parts : List FormulaPart) : Type 0 where
  pub trees : List Tree
  pub view : map part_view parts ≡ all_reported trees
  pub same : trees_after trees left ≡ trees_after [] all
  pub leads : Lead (length trees) left 1

-- these are the first four terms of an expression
pub record IsFront (e : Expression) (front : Front) : Type 0 where
  pub first : option_map view front.first ≡ term_at (terms_in e.lab_len 0 e.text) 0
  pub second : option_map view front.second ≡ term_at (drop 1 (terms_in e.lab_len 0 e.text)) 0
  pub third : option_map view front.third ≡ term_at (drop 1 (drop 1 (terms_in e.lab_len 0 e.text))) 0
  pub fourth : option_map view front.fourth ≡ term_at (drop 1 (drop 1 (drop 1 (terms_in e.lab_len 0 e.text)))) 0
