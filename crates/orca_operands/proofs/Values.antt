-- The value of a formula whose names are known.
use Rattle.std.proofs.Common.{◌≡◌, ℕ, ◌+◌, Bool, true, false, cond, eqb, List, [], ◌∷◌, ◌++◌, Option, Some, None, Result, Ok, Err, refl, sym, ap, subst, ◌∙◌, append-nil}
use Rattle.std.specs.Prelude.{◌&&◌}
use Rattle.std.proofs.lemmas.Bool.{and_parts}
use Rattle.std.proofs.lemmas.List.Folds.{list_all-append}
use Rattle.std.proofs.lemmas.List.Concat.{flat_map-cons, flat_map-append}
use Rattle.omf_format.specs.declared.expression.ExprFault.{ExprFault}
use Rattle.omf_format.specs.declared.value.Value.{Value}
use Rattle.omf_format.specs.declared.value.Value.TheVariants.{Fixed}
use Rattle.omf_format.specs.declared.value.ValueFault.{ValueFault}
use Rattle.omf_format.specs.declared.value.ValueFault.TheVariants.{DivideByZero}
use Rattle.omf_format.specs.Expression.{Term, Operator, Location, Constant, Named, Offset, Tree, Leaf, Unary, Binary, IsTree, terms_of, Spells, Expression, BeginsWith}
use Rattle.omf_format.specs.Field.{◌>>=◌}
use Rattle.omf_format.specs.Value.{value, size_of, operand_value, apply_one, apply_two, number_of_one, number_of_two, divides}
use Rattle.asm_meaning.specs.Constant.{Constants, KnownValue, Number, Open, Divided, with_values, known_value, worth_of_two}
use Rattle.asm_meaning.specs.laws.Steps.{number_or_open, number_or, worth_of_one}
use Rattle.orca_operands.specs.AmountView.{written_term, written_terms, all_written, is_number_term, are_numbers, worth_of_value, no_environment}

-- ---- through bytes

begins_whole : (bytes : List ℕ) (tree : Tree) → Spells 0 bytes tree → BeginsWith 0 bytes bytes
begins_whole bytes tree spells = record { expression = record { tree = tree; spells = spells }; rest = []; parts = sym (append-nil bytes) }

abbrev spelled : List ℕ → Expression
spelled text = record { text = text; lab_len = 0 }

same_ok : (r : Result Expression ExprFault) (a b : Expression) → r ≡ Ok a → r ≡ Ok b → a ≡ b
same_ok r a b p q = cc

pub evaluated : (bytes : List ℕ) (e : Expression) (r : Result Expression ExprFault) (v : Result Value ValueFault) (w : KnownValue) → r ≡ Ok e
    → ((text : List ℕ) → BeginsWith 0 bytes text → r ≡ Ok (spelled text)) → ((tree : Tree) → Spells e.lab_len e.text tree → v ≡ value no_environment e.lab_len 0 tree) → w ≡ worth_of_value v
    → (tree : Tree) → Spells 0 bytes tree → w ≡ worth_of_value (value no_environment 0 0 tree)
evaluated bytes e r v w found only is worth_is tree spells =
    let e_is : spelled bytes ≡ e = same_ok r (spelled bytes) e (only bytes (begins_whole bytes tree spells)) found in
    worth_is ∙ ap worth_of_value (subst (λ (x : Expression). Spells x.lab_len x.text tree → v ≡ value no_environment x.lab_len 0 tree) (sym e_is) (is tree) spells)

pub not_refused : (bytes : List ℕ) (fault : ExprFault) (r : Result Expression ExprFault) → r ≡ Err fault
    → ((text : List ℕ) → BeginsWith 0 bytes text → r ≡ Ok (spelled text)) → (tree : Tree) → Spells 0 bytes tree → ⊥
not_refused bytes fault r is only tree spells = clash (spelled bytes) (sym (only bytes (begins_whole bytes tree spells)) ∙ is)
  where
    clash : (e : Expression) → Ok e ≡ Err fault → ⊥
    clash e x = cc

-- ---- the known value

data Same (r : Result Value ValueFault) (w : KnownValue) : Type 0 where
  IsNumber : (n : ℕ) → r ≡ Ok (Fixed n) → w ≡ Number n → Same r w
  IsDivided : r ≡ Err DivideByZero → w ≡ Divided → Same r w

abbrev ok : Value → Result Value ValueFault
ok v = Ok v

abbrev divided : Result Value ValueFault
divided = Err DivideByZero

same_one : (code : ℕ) (r : Result Value ValueFault) (w : KnownValue) → Same r w → Same (r >>= λ a. apply_one code a) (worth_of_one code w)
same_one code r w (IsNumber n p q) =
    IsNumber (number_of_one code n) (ap (λ (x : Result Value ValueFault). x >>= λ a. apply_one code a) p) (ap (worth_of_one code) q)
same_one code r w (IsDivided p q) = IsDivided (ap (λ (x : Result Value ValueFault). x >>= λ a. apply_one code a) p) (ap (worth_of_one code) q)

abbrev two : ℕ → Result Value ValueFault → Result Value ValueFault → Result Value ValueFault
two code r s = r >>= λ a. s >>= λ b. apply_two code a b

same_two : (code : ℕ) (r s : Result Value ValueFault) (v w : KnownValue) → Same r v → Same s w → Same (two code r s) (worth_of_two code v w)
unfolding apply_two
same_two code r s v w (IsNumber a p q) (IsNumber b p' q') =
    let value_is : two code r s ≡ two code (ok (Fixed a)) (ok (Fixed b)) = ap (λ (x : Result Value ValueFault). two code x s) p ∙ ap (two code (ok (Fixed a))) p' in
    let worth_is : worth_of_two code v w ≡ worth_of_two code (Number a) (Number b) = ap (λ (x : KnownValue). worth_of_two code x w) q ∙ ap (worth_of_two code (Number a)) q' in
    by_zero (divides code && eqb b 0) value_is worth_is
  where
    by_zero : (z : Bool) → two code r s ≡ cond z divided (ok (Fixed (number_of_two code a b))) → worth_of_two code v w ≡ cond z Divided (Number (number_of_two code a b)) → Same (two code r s) (worth_of_two code v w)
    by_zero true x y = IsDivided x y
    by_zero false x y = IsNumber (number_of_two code a b) x y
same_two code r s v w (IsNumber a p q) (IsDivided p' q') =
    IsDivided (ap (λ (x : Result Value ValueFault). two code x s) p ∙ ap (two code (ok (Fixed a))) p') (ap (λ (x : KnownValue). worth_of_two code x w) q ∙ ap (worth_of_two code (Number a)) q')
same_two code r s v w (IsDivided p q) (IsNumber b p' q') =
    IsDivided (ap (λ (x : Result Value ValueFault). two code x s) p) (ap (λ (x : KnownValue). worth_of_two code x w) q ∙ ap (worth_of_two code Divided) q')
same_two code r s v w (IsDivided p q) (IsDivided p' q') =
    IsDivided (ap (λ (x : Result Value ValueFault). two code x s) p) (ap (λ (x : KnownValue). worth_of_two code x w) q ∙ ap (worth_of_two code Divided) q')

pub numbers_append : (constants : Constants) (a b : List Term) → are_numbers constants (a ++ b) ≡ (are_numbers constants a && are_numbers constants b)
numbers_append constants a b = list_all-append (λ t. is_number_term (written_term constants t)) a b

name_value : (constants : Constants) (at code : ℕ) (name : List ℕ) (o : Option ℕ) → is_number_term (number_or (Named code name) o) ≡ true → Same (operand_value no_environment at (number_or (Named code name) o)) (number_or_open o)
unfolding operand_value
name_value constants at code name None is = absurd cc
name_value constants at code name (Some n) is = IsNumber n refl refl

-- where all terms are numbers and operators, the value is the known value
number_value : (constants : Constants) (at : ℕ) (t : Tree) → IsTree 0 t → are_numbers constants (terms_of t) ≡ true → Same (value no_environment 0 at (with_values constants t)) (known_value constants t)
unfolding known_value operand_value
number_value constants at (Leaf (Operator code)) is all = absurd is
number_value constants at (Leaf Location) is all = absurd cc
number_value constants at (Leaf (Constant n)) is all = IsNumber n refl refl
number_value constants at (Leaf (Named code name)) is all = by_code (eqb code 0x83) (and_parts _ true all).0
  where
    by_code : (b : Bool) → is_number_term (cond b (number_or (Named code name) (constants name)) (Named code name)) ≡ true
        → Same (operand_value no_environment at (cond b (number_or (Named code name) (constants name)) (Named code name))) (cond b (number_or_open (constants name)) Open)
    by_code true is = name_value constants at code name (constants name) is
    by_code false is = absurd cc
number_value constants at (Leaf (Offset n)) is all = absurd cc
number_value constants at (Unary code a) is all =
    let parts = and_parts (are_numbers constants (terms_of a)) _ (sym (numbers_append constants (terms_of a) (Operator code ∷ [])) ∙ all) in
    same_one code (value no_environment 0 at (with_values constants a)) (known_value constants a) (number_value constants at a is.2 parts.0)
number_value constants at (Binary code a b) is all =
    let parts = and_parts (are_numbers constants (terms_of a)) _ (sym (numbers_append constants (terms_of a) (terms_of b ++ Operator code ∷ [])) ∙ all) in
    let others = and_parts (are_numbers constants (terms_of b)) _ (sym (numbers_append constants (terms_of b) (Operator code ∷ [])) ∙ parts.1) in
    let next = at + size_of 0 (with_values constants a) in
    same_two code (value no_environment 0 at (with_values constants a)) (value no_environment 0 next (with_values constants b)) (known_value constants a) (known_value constants b)
    (number_value constants at a is.2 parts.0) (number_value constants next b is.3 others.0)

of_same : (r : Result Value ValueFault) (w : KnownValue) → Same r w → worth_of_value r ≡ w
of_same r w (IsNumber n p q) = ap worth_of_value p ∙ sym q
of_same r w (IsDivided p q) = ap worth_of_value p ∙ sym q

pub worth_is_value : (constants : Constants) (t : Tree) → IsTree 0 t → are_numbers constants (terms_of t) ≡ true → worth_of_value (value no_environment 0 0 (with_values constants t)) ≡ known_value constants t
worth_is_value constants t is all = of_same (value no_environment 0 0 (with_values constants t)) (known_value constants t) (number_value constants 0 t is all)

-- and where one isn't, there is none
and_true : (b : Bool) → (b && true) ≡ false → b ≡ false
and_true true e = absurd cc
and_true false e = refl

open_name : (code : ℕ) (name : List ℕ) (o : Option ℕ) → is_number_term (number_or (Named code name) o) ≡ false → number_or_open o ≡ Open
open_name code name None e = refl
open_name code name (Some n) e = absurd cc

open_right : (code : ℕ) (v : KnownValue) → worth_of_two code v Open ≡ Open
open_right code (Number a) = refl
open_right code Open = refl
open_right code Divided = refl

pub worth_is_open : (constants : Constants) (t : Tree) → IsTree 0 t → are_numbers constants (terms_of t) ≡ false → known_value constants t ≡ Open
unfolding known_value
worth_is_open constants (Leaf (Operator code)) is none = absurd is
worth_is_open constants (Leaf Location) is none = refl
worth_is_open constants (Leaf (Constant n)) is none = absurd cc
worth_is_open constants (Leaf (Named code name)) is none = by_code (eqb code 0x83) (and_true _ none)
  where
    by_code : (b : Bool) → is_number_term (cond b (number_or (Named code name) (constants name)) (Named code name)) ≡ false → cond b (number_or_open (constants name)) Open ≡ Open
    by_code true e = open_name code name (constants name) e
    by_code false e = refl
worth_is_open constants (Leaf (Offset n)) is none = refl
worth_is_open constants (Unary code a) is none =
    ap (worth_of_one code) (worth_is_open constants a is.2 (and_true _ (sym (numbers_append constants (terms_of a) (Operator code ∷ [])) ∙ none)))
worth_is_open constants (Binary code a b) is none =
    by_left (are_numbers constants (terms_of a)) refl (sym (numbers_append constants (terms_of a) (terms_of b ++ Operator code ∷ [])) ∙ none)
    (worth_is_open constants a is.2) (worth_is_open constants b is.3)
  where
    by_left : (x : Bool) → are_numbers constants (terms_of a) ≡ x → (x && are_numbers constants (terms_of b ++ Operator code ∷ [])) ≡ false
        → (are_numbers constants (terms_of a) ≡ false → known_value constants a ≡ Open) → (are_numbers constants (terms_of b) ≡ false → known_value constants b ≡ Open)
        → worth_of_two code (known_value constants a) (known_value constants b) ≡ Open
    by_left true x e left right =
        ap (worth_of_two code (known_value constants a)) (right (and_true _ (sym (numbers_append constants (terms_of b) (Operator code ∷ [])) ∙ e))) ∙ open_right code (known_value constants a)
    by_left false x e left right = ap (λ (v : KnownValue). worth_of_two code v (known_value constants b)) (left x)

-- ---- what is written

pub written_append : (constants : Constants) (back : ℕ) (a b : List Term) → all_written constants back (a ++ b) ≡ all_written constants back a ++ all_written constants back b
written_append constants back a b = flat_map-append (λ t. written_terms back (written_term constants t)) a b

pub one_written : (constants : Constants) (back : ℕ) (t : Term) → all_written constants back (t ∷ []) ≡ written_terms back (written_term constants t)
one_written constants back t = flat_map-cons (λ x. written_terms back (written_term constants x)) t [] ∙ append-nil (written_terms back (written_term constants t))
