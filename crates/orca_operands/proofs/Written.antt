-- What is written for a formula is its expression.
use Rattle.std.proofs.Common.{◌≡◌, ℕ, ◌≤◌, Bool, true, false, cond, eqb, List, [], ◌∷◌, ◌++◌, Option, Some, None, Ok, Err, refl, sym, ap, subst, ◌∙◌}
use Rattle.std.specs.Prelude.{◌&&◌}
use Rattle.std.proofs.lemmas.Bool.{and_parts}
use Rattle.std.proofs.lemmas.List.{map-append}
use Rattle.omf_format.specs.Expression.{Term, Operator, Location, Constant, Named, Offset, Tree, Leaf, Unary, Binary, IsTree, IsTerm, AreTerms, terms_of, terms_text, depth, Spells}
use Rattle.omf_format.specs.Value.{value}
use Rattle.orca_meaning.specs.Formula.{with_location_less}
use Rattle.orca_meaning.specs.laws.FormulaLaws.{pending-one}
use Rattle.asm_meaning.specs.declared.faults.AsmCause.TheVariants.{DivideByZero}
use Rattle.asm_meaning.specs.Answer.{Answer}
use Rattle.asm_meaning.specs.laws.AmountLaws.{pending-with_values}
use Rattle.asm_meaning.specs.Constant as meaning
use Rattle.asm_meaning.specs.Constant.{Constants, with_values, known_value, amount}
use Rattle.asm_meaning.specs.laws.Steps.{number_or, amount_by}
use Rattle.orca_operands.specs.AmountView.{written_term, written_terms, with_terms, all_written, is_number_term, are_numbers, worth_of_value, no_environment, placed_by, IsFormulaOf, AmountBytes, Number, Text, kept_answer}
use Rattle.orca_operands.proofs.Amounts.{terms_put}
use Rattle.orca_operands.proofs.Values.{numbers_append, written_append, one_written, worth_is_value, worth_is_open}

-- ---- the terms

abbrev tree_by : Bool → ℕ → Tree → Tree
tree_by b back t = cond b t (with_location_less back t)

name_written : (back code : ℕ) (name : List ℕ) (o : Option ℕ) (b : Bool) → written_terms back (number_or (Named code name) o) ≡ terms_of (tree_by b back (Leaf (number_or (Named code name) o)))
name_written back code name None true = refl
name_written back code name None false = refl
name_written back code name (Some n) true = refl
name_written back code name (Some n) false = refl

leaf_written : (constants : Constants) (back : ℕ) (t : Term) (b : Bool) → eqb back 0 ≡ b → written_terms back (written_term constants t) ≡ terms_of (tree_by b back (Leaf (written_term constants t)))
leaf_written constants back (Operator code) true e = refl
leaf_written constants back (Operator code) false e = refl
leaf_written constants back Location true e = rw e refl
leaf_written constants back Location false e = rw e refl
leaf_written constants back (Constant n) true e = refl
leaf_written constants back (Constant n) false e = refl
leaf_written constants back (Named code name) b e = by_code (eqb code 0x83)
  where
    other : (b : Bool) → written_terms back (Named code name) ≡ terms_of (tree_by b back (Leaf (Named code name)))
    other true = refl
    other false = refl

    by_code : (c : Bool) → written_terms back (cond c (number_or (Named code name) (constants name)) (Named code name)) ≡ terms_of (tree_by b back (Leaf (cond c (number_or (Named code name) (constants name)) (Named code name))))
    by_code true = name_written back code name (constants name) b
    by_code false = other b
leaf_written constants back (Offset n) true e = refl
leaf_written constants back (Offset n) false e = refl

abbrev with_last : Term → List Term → List Term
with_last t terms = terms ++ t ∷ []

written_by : (constants : Constants) (back : ℕ) (b : Bool) → eqb back 0 ≡ b → (t : Tree) → all_written constants back (terms_of t) ≡ terms_of (tree_by b back (with_values constants t))
written_by constants back b e (Leaf (Operator code)) = one_written constants back (Operator code) ∙ leaf_written constants back (Operator code) b e
written_by constants back b e (Leaf Location) = one_written constants back Location ∙ leaf_written constants back Location b e
written_by constants back b e (Leaf (Constant n)) = one_written constants back (Constant n) ∙ leaf_written constants back (Constant n) b e
written_by constants back b e (Leaf (Named code name)) = one_written constants back (Named code name) ∙ leaf_written constants back (Named code name) b e
written_by constants back b e (Leaf (Offset n)) = one_written constants back (Offset n) ∙ leaf_written constants back (Offset n) b e
written_by constants back b e (Unary code a) =
    written_append constants back (terms_of a) (Operator code ∷ []) ∙ ap (λ (l : List Term). all_written constants back (terms_of a) ++ l) (one_written constants back (Operator code))
    ∙ ap (with_last (Operator code)) (written_by constants back b e a) ∙ by_place b
  where
    by_place : (b : Bool) → with_last (Operator code) (terms_of (tree_by b back (with_values constants a))) ≡ terms_of (tree_by b back (with_values constants (Unary code a)))
    by_place true = refl
    by_place false = refl
written_by constants back b e (Binary code l r) =
    written_append constants back (terms_of l) (terms_of r ++ Operator code ∷ [])
    ∙ ap (λ (x : List Term). all_written constants back (terms_of l) ++ x) (written_append constants back (terms_of r) (Operator code ∷ []) ∙ ap (λ (x : List Term). all_written constants back (terms_of r) ++ x) (one_written constants back (Operator code)))
    ∙ ap (λ (x : List Term). x ++ with_last (Operator code) (all_written constants back (terms_of r))) (written_by constants back b e l)
    ∙ ap (λ (x : List Term). terms_of (tree_by b back (with_values constants l)) ++ with_last (Operator code) x) (written_by constants back b e r)
    ∙ by_place b
  where
    by_place : (b : Bool) → terms_of (tree_by b back (with_values constants l)) ++ with_last (Operator code) (terms_of (tree_by b back (with_values constants r))) ≡ terms_of (tree_by b back (with_values constants (Binary code l r)))
    by_place true = refl
    by_place false = refl

pub all_written-tree : (constants : Constants) (back : ℕ) (t : Tree) → all_written constants back (terms_of t) ≡ terms_of (placed_by back (with_values constants t))
all_written-tree constants back t = written_by constants back (eqb back 0) refl t

-- a formula of numbers alone has no location counter
name_placed : (back code : ℕ) (name : List ℕ) (o : Option ℕ) → is_number_term (number_or (Named code name) o) ≡ true → with_location_less back (Leaf (number_or (Named code name) o)) ≡ Leaf (number_or (Named code name) o)
name_placed back code name None is = absurd cc
name_placed back code name (Some n) is = refl

numbers_placed : (constants : Constants) (back : ℕ) (t : Tree) → are_numbers constants (terms_of t) ≡ true → with_location_less back (with_values constants t) ≡ with_values constants t
numbers_placed constants back (Leaf (Operator code)) all = refl
numbers_placed constants back (Leaf Location) all = absurd cc
numbers_placed constants back (Leaf (Constant n)) all = refl
numbers_placed constants back (Leaf (Named code name)) all = by_code (eqb code 0x83) (and_parts _ true all).0
  where
    by_code : (b : Bool) → is_number_term (cond b (number_or (Named code name) (constants name)) (Named code name)) ≡ true
        → with_location_less back (Leaf (cond b (number_or (Named code name) (constants name)) (Named code name))) ≡ Leaf (cond b (number_or (Named code name) (constants name)) (Named code name))
    by_code true is = name_placed back code name (constants name) is
    by_code false is = absurd cc
numbers_placed constants back (Leaf (Offset n)) all = absurd cc
numbers_placed constants back (Unary code a) all =
    let parts = and_parts (are_numbers constants (terms_of a)) _ (sym (numbers_append constants (terms_of a) (Operator code ∷ [])) ∙ all) in
    ap (λ (x : Tree). Unary code x) (numbers_placed constants back a parts.0)
numbers_placed constants back (Binary code a b) all =
    let parts = and_parts (are_numbers constants (terms_of a)) _ (sym (numbers_append constants (terms_of a) (terms_of b ++ Operator code ∷ [])) ∙ all) in
    let others = and_parts (are_numbers constants (terms_of b)) _ (sym (numbers_append constants (terms_of b) (Operator code ∷ [])) ∙ parts.1) in
    ap (λ (x : Tree). Binary code x (with_location_less back (with_values constants b))) (numbers_placed constants back a parts.0)
    ∙ ap (λ (x : Tree). Binary code (with_values constants a) x) (numbers_placed constants back b others.0)

numbers_placed_by : (constants : Constants) (back : ℕ) (t : Tree) → are_numbers constants (terms_of t) ≡ true → placed_by back (with_values constants t) ≡ with_values constants t
numbers_placed_by constants back t all = by_zero (eqb back 0)
  where
    by_zero : (b : Bool) → tree_by b back (with_values constants t) ≡ with_values constants t
    by_zero true = refl
    by_zero false = numbers_placed constants back t all

-- ---- trees of fine terms

terms_parts : (a b : List Term) → AreTerms 0 (a ++ b) → AreTerms 0 a × AreTerms 0 b
terms_parts [] b is = (tt, is)
terms_parts (t ∷ a) b is = let rest = terms_parts a b is.1 in ((is.0, rest.0), rest.1)

with_append : (constants : Constants) (a b : List Term) → with_terms constants (a ++ b) ≡ with_terms constants a ++ with_terms constants b
with_append constants a b = map-append (written_term constants) a b

name_formed : (code : ℕ) (name : List ℕ) (o : Option ℕ) → IsTree 0 (Leaf (Named code name)) → IsTerm 0 (number_or (Named code name) o) → IsTree 0 (Leaf (number_or (Named code name) o))
name_formed code name None is fine = is
name_formed code name (Some n) is fine = fine

with_formed : (constants : Constants) (t : Tree) → IsTree 0 t → AreTerms 0 (with_terms constants (terms_of t)) → IsTree 0 (with_values constants t)
with_formed constants (Leaf (Operator code)) is fine = is
with_formed constants (Leaf Location) is fine = is
with_formed constants (Leaf (Constant n)) is fine = is
with_formed constants (Leaf (Named code name)) is fine = by_code (eqb code 0x83) fine.0
  where
    by_code : (b : Bool) → IsTerm 0 (cond b (number_or (Named code name) (constants name)) (Named code name)) → IsTree 0 (Leaf (cond b (number_or (Named code name) (constants name)) (Named code name)))
    by_code true f = name_formed code name (constants name) is f
    by_code false f = is
with_formed constants (Leaf (Offset n)) is fine = is
with_formed constants (Unary code a) is fine =
    let parts = terms_parts (with_terms constants (terms_of a)) (Operator code ∷ []) (subst (AreTerms 0) (with_append constants (terms_of a) (Operator code ∷ [])) fine) in
    (is.0, is.1, with_formed constants a is.2 parts.0)
with_formed constants (Binary code a b) is fine =
    let parts = terms_parts (with_terms constants (terms_of a)) (with_terms constants (terms_of b ++ Operator code ∷ [])) (subst (AreTerms 0) (with_append constants (terms_of a) (terms_of b ++ Operator code ∷ [])) fine) in
    let others = terms_parts (with_terms constants (terms_of b)) (Operator code ∷ []) (subst (AreTerms 0) (with_append constants (terms_of b) (Operator code ∷ [])) parts.1) in
    (is.0, is.1, with_formed constants a is.2 parts.0, with_formed constants b is.3 others.0)

depth-with_values : (constants : Constants) (t : Tree) → depth (with_values constants t) ≡ depth t
depth-with_values constants t = sym (pending-one (with_values constants t)) ∙ pending-with_values constants 1 t ∙ pending-one t

-- ---- amounts

abbrev text_answer : List ℕ → Answer AmountBytes
text_answer bytes = Ok (Text bytes)

open_answer : (constants : Constants) (back : ℕ) (terms : List Term) (tree : Tree) → IsFormulaOf terms tree → known_value constants tree ≡ meaning.Open
    → text_answer (terms_text 0 (all_written constants back terms)) ≡ kept_answer back (amount constants tree)
unfolding amount
open_answer constants back terms tree is none =
    ap (λ (l : List Term). text_answer (terms_text 0 l)) (ap (all_written constants back) is.terms_are ∙ all_written-tree constants back tree)
    ∙ ap (λ (w : meaning.KnownValue). kept_answer back (amount_by (with_values constants tree) w)) (sym none)

-- where not all terms are numbers
pub amount_open : (constants : Constants) (back : ℕ) (terms : List Term) (out : List ℕ) → out ≡ [] ++ terms_text 0 (all_written constants back terms) → are_numbers constants terms ≡ false
    → (tree : Tree) → IsFormulaOf terms tree → text_answer out ≡ kept_answer back (amount constants tree)
amount_open constants back terms out text none tree is =
    ap text_answer text ∙ open_answer constants back terms tree is (worth_is_open constants tree is.formed (ap (are_numbers constants) (sym is.terms_are) ∙ none))

-- what the text spells where all are
spells_whole : (constants : Constants) (back : ℕ) (terms : List Term) (out : List ℕ) (tree : Tree) → out ≡ [] ++ terms_text 0 (all_written constants back terms) → are_numbers constants terms ≡ true
    → AreTerms 0 (with_terms constants terms) → IsFormulaOf terms tree → Spells 0 (out ++ 0x00 ∷ []) (with_values constants tree)
spells_whole constants back terms out tree text all fine is =
    let every : are_numbers constants (terms_of tree) ≡ true = ap (are_numbers constants) (sym is.terms_are) ∙ all in
    let written : all_written constants back terms ≡ terms_of (with_values constants tree) =
    ap (all_written constants back) is.terms_are ∙ all_written-tree constants back tree ∙ ap terms_of (numbers_placed_by constants back tree every) in
    record {
      formed = with_formed constants tree is.formed (subst (λ (l : List Term). AreTerms 0 (with_terms constants l)) is.terms_are fine);
      shallow = subst (λ (k : ℕ). k ≤ 64) (sym (depth-with_values constants tree)) is.shallow;
      spelled = ap (λ (l : List ℕ). l ++ 0x00 ∷ []) (text ∙ ap (terms_text 0) written);
    }

pub worth_there : (constants : Constants) (back : ℕ) (terms : List Term) (out : List ℕ) (w : meaning.KnownValue) (tree : Tree) → out ≡ [] ++ terms_text 0 (all_written constants back terms)
    → are_numbers constants terms ≡ true → AreTerms 0 (with_terms constants terms) → ((t : Tree) → Spells 0 (out ++ 0x00 ∷ []) t → w ≡ worth_of_value (value no_environment 0 0 t))
    → IsFormulaOf terms tree → w ≡ known_value constants tree
worth_there constants back terms out w tree text all fine value_is is =
    value_is (with_values constants tree) (spells_whole constants back terms out tree text all fine is)
    ∙ worth_is_value constants tree is.formed (ap (are_numbers constants) (sym is.terms_are) ∙ all)

abbrev number_answer : ℕ → Answer AmountBytes
number_answer n = Ok (Number n)

abbrev divided_answer : Answer AmountBytes
divided_answer = Err DivideByZero

pub number_is : (constants : Constants) (back n : ℕ) (tree : Tree) → meaning.Number n ≡ known_value constants tree → number_answer n ≡ kept_answer back (amount constants tree)
unfolding amount
number_is constants back n tree is = ap (λ (w : meaning.KnownValue). kept_answer back (amount_by (with_values constants tree) w)) is

pub divided_is : (constants : Constants) (back : ℕ) (tree : Tree) → meaning.Divided ≡ known_value constants tree → divided_answer ≡ kept_answer back (amount constants tree)
unfolding amount
divided_is constants back tree is = ap (λ (w : meaning.KnownValue). kept_answer back (amount_by (with_values constants tree) w)) is

pub open_is : (constants : Constants) (back : ℕ) (terms : List Term) (out new : List ℕ) (tree : Tree) → out ≡ [] ++ terms_text 0 (all_written constants back terms) → new ≡ out → IsFormulaOf terms tree
    → meaning.Open ≡ known_value constants tree → text_answer new ≡ kept_answer back (amount constants tree)
open_is constants back terms out new tree text same is w = ap text_answer (same ∙ text) ∙ open_answer constants back terms tree is (sym w)

-- a text that began empty
pub from_empty : (old new text : List ℕ) → old ≡ [] → new ≡ old ++ text → new ≡ [] ++ text
from_empty old new text none is = is ∙ ap (λ (l : List ℕ). l ++ text) none

-- ---- the first term apart

-- it is put, and then the others are
pub first_put : (constants : Constants) (back : ℕ) (first of : Term) (others : List Term) (empty one two : List ℕ) → empty ≡ [] → of ≡ written_term constants first → one ≡ empty ++ terms_text 0 (written_terms back of)
    → two ≡ one ++ terms_text 0 (all_written constants back others) → two ≡ [] ++ terms_text 0 (all_written constants back (first ∷ others))
first_put constants back first of others empty one two none is put more =
    more ∙ terms_put constants back [] one first others _ refl (from_empty empty one _ none put ∙ ap (λ (t : Term). [] ++ terms_text 0 (written_terms back t)) is)

-- all are numbers where it and the others are
pub first_number : (constants : Constants) (first of : Term) (others : List Term) (number all : Bool) → of ≡ written_term constants first → number ≡ is_number_term of → all ≡ are_numbers constants others → are_numbers constants (first ∷ others) ≡ (number && all)
first_number constants first of others number all is one rest =
    ap (λ (t : Term). is_number_term t && are_numbers constants others) (sym is) ∙ ap (λ (b : Bool). b && are_numbers constants others) (sym one) ∙ ap (λ (b : Bool). number && b) (sym rest)

pub others_open : (number all : Bool) → all ≡ false → (number && all) ≡ false
others_open true all none = none
others_open false all none = refl

-- what the bytes are worth is what the formula is worth
pub worth_apart : (constants : Constants) (back : ℕ) (first of : Term) (others : List Term) (out : List ℕ) (number all : Bool) (w : meaning.KnownValue) (tree : Tree) → out ≡ [] ++ terms_text 0 (all_written constants back (first ∷ others))
    → of ≡ written_term constants first → number ≡ is_number_term of → all ≡ are_numbers constants others → number ≡ true → all ≡ true → IsTerm 0 of → AreTerms 0 (with_terms constants others)
    → ((t : Tree) → Spells 0 (out ++ 0x00 ∷ []) t → w ≡ worth_of_value (value no_environment 0 0 t)) → IsFormulaOf (first ∷ others) tree → w ≡ known_value constants tree
worth_apart constants back first of others out number all w tree text is one rest one_true rest_true fine others_fine value_is formula =
    worth_there constants back (first ∷ others) out w tree text (first_number constants first of others number all is one rest ∙ ap (λ (b : Bool). b && all) one_true ∙ rest_true) (subst (IsTerm 0) is fine, others_fine) value_is formula
