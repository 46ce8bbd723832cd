-- What can be listed can be written: names, and formulas with the operators that have a spelling.
use Rattle.std.proofs.Common.{◌≡◌, ℕ, zero, suc, ◌+◌, ◌≤◌, Bool, true, false, cond, eqb, List, [], ◌∷◌, ◌++◌, Some, refl, sym, ap, subst, ◌∙◌, arith}
use Rattle.std.specs.Prelude.{◌&&◌, ◌||◌, ◌==◌, not, nat_le, bytes_eq}
use Rattle.std.specs.List.{AllByRecursion, list_all, list_any}
use Rattle.std.proofs.lemmas.Bool.{eqb-true, leb-true, and_parts, not-true}
use Rattle.std.proofs.lemmas.List.Folds.{list_all-append, list_any-append}
use Rattle.std.proofs.lemmas.Slice.Eq.{bytes_eq-Decides}
use Rattle.omf_format.specs.Expression as expression
use Rattle.omf_format.specs.Expression.{Tree, Leaf, Unary, Binary, IsTree, terms_of, depth, operand_count}
use Rattle.omf_format.specs.Field.{IsName}
use Rattle.object_meaning.specs.Terms.{tree_in}
use Rattle.object_meaning.specs.laws.TreeInLaws.{tree_in-again}
use Rattle.orca_meaning.specs.Characters.{is_name, is_name_start, is_name_byte, folded}
use Rattle.orca_meaning.specs.Formula.{pending, sign_code, operator_code}
use Rattle.asm_meaning.specs.Constant.{Constants}
use Rattle.asm_meaning.specs.Formulas.{expression_text}
use Rattle.list_meaning.specs.Listing.{is_listable, is_among, term_may_stand, term_listable, is_open}
use Rattle.list_laws.specs.laws.FormulaLaw.{IsPlainName, CanWrite, sign_of, operator_of}
use Rattle.list_laws.specs.laws.SumLaw.{AreUnknown, has_open}
use Rattle.list_laws.specs.laws.BytesLine.{up_from, within}
use Rattle.list_laws.specs.laws.After.{KnowsOnly}

-- ---- names

all_true : (p : ℕ → Bool) (xs : List ℕ) → list_all p xs ≡ true → AllByRecursion (λ b. p b ≡ true) xs
all_true p [] e = tt
all_true p (x ∷ xs) e = let both = and_parts (p x) (list_all p xs) e in (both.0, all_true p xs both.1)

pub plain_name : (name : List ℕ) → is_listable name ≡ true → IsPlainName name
unfolding is_name
plain_name [] is = absurd cc
plain_name (byte ∷ name) is =
    let both = and_parts (is_name_start byte && list_all is_name_byte name) (bytes_eq (folded (byte ∷ name)) (byte ∷ name)) is in
    let named = and_parts (is_name_start byte) (list_all is_name_byte name) both.0 in
    (named.0, all_true is_name_byte name named.1, (bytes_eq-Decides (folded (byte ∷ name)) (byte ∷ name)).0 both.1)

-- ---- operators

abbrev spelled_code : ℕ → Bool
spelled_code code = cond (eqb (operand_count code) 1) (sign_code (sign_of code) == code) (operator_code (operator_of code) == code)

abbrev code_can : ℕ → Bool
code_can code = not (term_may_stand (expression.Operator code)) || spelled_code code

all_can : list_all code_can (up_from 0 18) ≡ true
all_can = refl

code_is : (code : ℕ) → term_may_stand (expression.Operator code) ≡ true → spelled_code code ≡ true
code_is code may =
    let low = and_parts (nat_le 0x01 code && nat_le code 0x11) (not (code == 0x05)) may in
    let most = leb-true code 0x11 (and_parts (nat_le 0x01 code) (nat_le code 0x11) low.0).1 in
    let there : code_can (0 + code) ≡ true = within code_can 0 18 code all_can (omega (arith, most)) in
    let same : 0 + code ≡ code = omega arith in
    sym (ap (λ (b : Bool). not b || spelled_code code) may) ∙ subst (λ (k : ℕ). code_can k ≡ true) same there

-- ---- formulas

-- the tree can be written, and no name of it is a constant
pub record CanStandIn (equates : List (List ℕ)) (t : Tree) : Type 0 where
  pub write : CanWrite t
  pub unknown : (constants : Constants) → KnowsOnly equates constants → AreUnknown constants t

pub can_write : (l : ℕ) (equates : List (List ℕ)) (t : Tree) → IsTree l t → list_all term_may_stand (terms_of t) ≡ true → list_all (term_listable equates) (terms_of t) ≡ true → CanStandIn equates t
can_write l equates (Leaf (expression.Operator code)) formed may names = absurd formed
can_write l equates (Leaf expression.Location) formed may names = record { write = tt; unknown = λ constants knows. tt }
can_write l equates (Leaf (expression.Constant n)) formed may names = record { write = formed; unknown = λ constants knows. tt }
can_write l equates (Leaf (expression.Named code name)) formed may names =
    let is = eqb-true code 0x83 (and_parts (code == 0x83) true may).0 in
    let parts = and_parts (is_listable name) (not (is_among equates name)) (and_parts (is_listable name && not (is_among equates name)) true names).0 in
    record { write = (is, plain_name name parts.0); unknown = λ constants knows. knows name (not-true (is_among equates name) parts.1) }
can_write l equates (Leaf (expression.Offset n)) formed may names = absurd cc
can_write l equates (Unary code a) formed may names =
    let mays = and_parts (list_all term_may_stand (terms_of a)) (list_all term_may_stand (expression.Operator code ∷ [])) (sym (list_all-append term_may_stand (terms_of a) (expression.Operator code ∷ [])) ∙ may) in
    let both = and_parts (list_all (term_listable equates) (terms_of a)) (list_all (term_listable equates) (expression.Operator code ∷ []))
    (sym (list_all-append (term_listable equates) (terms_of a) (expression.Operator code ∷ [])) ∙ names) in
    let inner = can_write l equates a formed.2 mays.0 both.0 in
    let code_may = (and_parts (term_may_stand (expression.Operator code)) true mays.1).0 in
    let sign = sym (ap (λ (k : ℕ). cond (eqb k 1) (sign_code (sign_of code) == code) (operator_code (operator_of code) == code)) formed.1) ∙ code_is code code_may in
    record { write = (eqb-true (sign_code (sign_of code)) code sign, inner.write); unknown = inner.unknown }
can_write l equates (Binary code a b) formed may names =
    let op = expression.Operator code ∷ [] in
    let mays = and_parts (list_all term_may_stand (terms_of a)) (list_all term_may_stand (terms_of b ++ op)) (sym (list_all-append term_may_stand (terms_of a) (terms_of b ++ op)) ∙ may) in
    let mays' = and_parts (list_all term_may_stand (terms_of b)) (list_all term_may_stand op) (sym (list_all-append term_may_stand (terms_of b) op) ∙ mays.1) in
    let both = and_parts (list_all (term_listable equates) (terms_of a)) (list_all (term_listable equates) (terms_of b ++ op)) (sym (list_all-append (term_listable equates) (terms_of a) (terms_of b ++ op)) ∙ names) in
    let both' = and_parts (list_all (term_listable equates) (terms_of b)) (list_all (term_listable equates) op) (sym (list_all-append (term_listable equates) (terms_of b) op) ∙ both.1) in
    let left = can_write l equates a formed.2 mays.0 both.0 in
    let right = can_write l equates b formed.3 mays'.0 both'.0 in
    let code_may = (and_parts (term_may_stand (expression.Operator code)) true mays'.1).0 in
    let operator = sym (ap (λ (k : ℕ). cond (eqb k 1) (sign_code (sign_of code) == code) (operator_code (operator_of code) == code)) formed.1) ∙ code_is code code_may in
    record {
      write = (eqb-true (operator_code (operator_of code)) code operator, left.write, right.write);
      unknown = λ constants knows. (left.unknown constants knows, right.unknown constants knows);
    }

or_false : (b : Bool) → (b || false) ≡ b
or_false true = refl
or_false false = refl

pub open_is : (t : Tree) → list_any is_open (terms_of t) ≡ has_open t
open_is (Leaf term) = or_false (is_open term)
open_is (Unary code a) = list_any-append is_open (terms_of a) (expression.Operator code ∷ []) ∙ or_false (list_any is_open (terms_of a)) ∙ open_is a
open_is (Binary code a b) =
    list_any-append is_open (terms_of a) (terms_of b ++ expression.Operator code ∷ [])
    ∙ ap (λ (x : Bool). list_any is_open (terms_of a) || x) (list_any-append is_open (terms_of b) (expression.Operator code ∷ []) ∙ or_false (list_any is_open (terms_of b)))
    ∙ rw (open_is a, open_is b) refl

pub pending_is : (t : Tree) → pending 1 t ≡ depth t
pending_is (Leaf (expression.Operator code)) = refl
pending_is (Leaf expression.Location) = refl
pending_is (Leaf (expression.Constant n)) = refl
pending_is (Leaf (expression.Named code name)) = refl
pending_is (Leaf (expression.Offset n)) = refl
pending_is (Unary code a) = pending_is a
pending_is (Binary code a b) = rw (pending_is a, pending_is b) refl

-- ---- expressions in the spelling for LABLEN 0

name_small : (l : ℕ) (name : List ℕ) → l ≤ 255 → IsName l name → IsName 0 name
name_small zero name low is = is
name_small (suc l) name low is = (is.0, omega (arith, is.1, low))

pub tree_small : (l : ℕ) (t : Tree) → l ≤ 255 → IsTree l t → IsTree 0 t
tree_small l (Leaf (expression.Operator code)) low is = is
tree_small l (Leaf expression.Location) low is = is
tree_small l (Leaf (expression.Constant n)) low is = is
tree_small l (Leaf (expression.Named code name)) low is = (is.0, name_small l name low is.1)
tree_small l (Leaf (expression.Offset n)) low is = is
tree_small l (Unary code a) low is = (is.0, is.1, tree_small l a low is.2)
tree_small l (Binary code a b) low is = (is.0, is.1, tree_small l a low is.2, tree_small l b low is.3)

pub tree_back : (l : ℕ) (t : Tree) → l ≤ 255 → IsTree l t → depth t ≤ 64 → tree_in 0 (expression_text t) ≡ Some t
unfolding expression_text
tree_back l t low is shallow = tree_in-again 0 (expression_text t) t (record { formed = tree_small l t low is; shallow = shallow; spelled = refl })
