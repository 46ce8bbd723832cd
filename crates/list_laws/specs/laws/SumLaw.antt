-- The law on one line, for DC A with a formula.
use Rattle.std.proofs.Common.{◌≡◌, ℕ, ◌+◌, ◌^◌, ◌≤◌, Bool, true, false, cond, eqb, ltb, List, [], ◌∷◌, ◌++◌, length, take, drop, Some, None, Ok, refl, sym, ap, ◌∙◌, arith, append_assoc}
use Rattle.std.specs.Prelude.{◌==◌, ◌||◌, nat_lt}
use Rattle.std.specs.List.{AllByRecursion, list_any, position_or_len}
use Rattle.std.proofs.lemmas.Bool.{le-ltb, lt-ltb, lt-leb}
use Rattle.std.proofs.lemmas.List.Folds.{list_any-append}
use Rattle.std.proofs.lemmas.List.{drop_at, take_at, length-append}
use Rattle.omf_format.specs.Expression as expression
use Rattle.omf_format.specs.Expression.{Tree, Leaf, Unary, Binary, terms_of}
use Rattle.omf_format.specs.Field.{◌>>=◌}
use Rattle.omf_format.specs.Record.{Formula}
use Rattle.orca_meaning.specs.Formula.{pending, has_large}
use Rattle.orca_meaning.specs.laws.Steps.{is_large}
use Rattle.orca_meaning.specs.Token as tokens
use Rattle.asm_meaning.specs.Answer.{all_of}
use Rattle.asm_meaning.specs.Constant.{Constants, KnownValue, Number, Open, Divided, known_value, worth_of_two, with_values, amount}
use Rattle.asm_meaning.specs.laws.Steps.{number_or}
use Rattle.asm_meaning.specs.Elements as elements
use Rattle.asm_meaning.specs.Elements.{Element, list_pieces}
use Rattle.asm_meaning.specs.Formulas.{expression_text, checked_formula}
use Rattle.asm_meaning.specs.Pieces.{records_of, records_after}
use Rattle.list_laws.specs.laws.FormulaLaw.{CanWrite}
use Rattle.list_meaning.specs.Listing.{is_open}

-- ---- what the formula is worth

-- no name of it has a value
abbrev pub IsUnknownTerm : Constants → expression.Term → Type 0
IsUnknownTerm constants (expression.Operator code) = Unit {0}
IsUnknownTerm constants expression.Location = Unit {0}
IsUnknownTerm constants (expression.Constant n) = Unit {0}
IsUnknownTerm constants (expression.Named code name) = constants name ≡ None
IsUnknownTerm constants (expression.Offset n) = Unit {0}

abbrev pub AreUnknown : Constants → Tree → Type 0
AreUnknown constants (Leaf term) = IsUnknownTerm constants term
AreUnknown constants (Unary code a) = AreUnknown constants a
AreUnknown constants (Binary code a b) = AreUnknown constants a × AreUnknown constants b

-- a location counter or a name is in it
abbrev pub has_open : Tree → Bool
has_open (Leaf term) = is_open term
has_open (Unary code a) = has_open a
has_open (Binary code a b) = has_open a || has_open b

same_values : (constants : Constants) (t : Tree) → CanWrite t → AreUnknown constants t → with_values constants t ≡ t
same_values constants (Leaf (expression.Operator code)) can are = refl
same_values constants (Leaf expression.Location) can are = refl
same_values constants (Leaf (expression.Constant n)) can are = refl
same_values constants (Leaf (expression.Named code name)) can are = same
  where
    same : Leaf (cond (eqb code 0x83) (number_or (expression.Named code name) (constants name)) (expression.Named code name)) ≡ Leaf (expression.Named code name)
    same = rw (can.0, are) (ap (λ (c : ℕ). Leaf (expression.Named c name)) refl)
same_values constants (Leaf (expression.Offset n)) can are = refl
same_values constants (Unary code a) can are = ap (λ (x : Tree). Unary code x) (same_values constants a can.1 are)
same_values constants (Binary code a b) can are = ap (λ (x : Tree). Binary code x (with_values constants b)) (same_values constants a can.1 are.0) ∙ ap (λ (x : Tree). Binary code a x) (same_values constants b can.2 are.1)

open_right : (code : ℕ) (w : KnownValue) → worth_of_two code w Open ≡ Open
open_right code (Number a) = refl
open_right code Open = refl
open_right code Divided = refl

open_worth : (constants : Constants) (t : Tree) → CanWrite t → AreUnknown constants t → has_open t ≡ true → known_value constants t ≡ Open
unfolding known_value
open_worth constants (Leaf (expression.Operator code)) can are is = refl
open_worth constants (Leaf expression.Location) can are is = refl
open_worth constants (Leaf (expression.Constant n)) can are is = absurd cc
open_worth constants (Leaf (expression.Named code name)) can are is = rw (can.0, are) refl
open_worth constants (Leaf (expression.Offset n)) can are is = refl
open_worth constants (Unary code a) can are is = rw (open_worth constants a can.1 are is) refl
open_worth constants (Binary code a b) can are is = by (has_open a) refl is (open_worth constants a can.1 are.0) (open_worth constants b can.2 are.1)
  where
    by : (o : Bool) → has_open a ≡ o → (o || has_open b) ≡ true → (has_open a ≡ true → known_value constants a ≡ Open) → (has_open b ≡ true → known_value constants b ≡ Open)
        → worth_of_two code (known_value constants a) (known_value constants b) ≡ Open
    by true left h to_left to_right = rw (to_left left) refl
    by false left h to_left to_right = rw (to_right h) (open_right code (known_value constants a))

any_append : (p : expression.Term → Bool) (a b : List expression.Term) → list_any p a ≡ false → list_any p b ≡ false → list_any p (a ++ b) ≡ false
any_append p a b pa pb = list_any-append p a b ∙ rw (pa, pb) refl

no_large : (t : Tree) → CanWrite t → has_large t ≡ false
no_large (Leaf (expression.Operator code)) can = absurd can
no_large (Leaf expression.Location) can = refl
no_large (Leaf (expression.Constant n)) can = rw (lt-leb (2 ^ 32) n can) refl
no_large (Leaf (expression.Named code name)) can = refl
no_large (Leaf (expression.Offset n)) can = absurd can
no_large (Unary code a) can = any_append is_large (terms_of a) (expression.Operator code ∷ []) (no_large a can.1) refl
no_large (Binary code a b) can = any_append is_large (terms_of a) (terms_of b ++ expression.Operator code ∷ []) (no_large a can.1) (any_append is_large (terms_of b) (expression.Operator code ∷ []) (no_large b can.2) refl)

-- ---- the element

abbrev pub element_of : ℕ → Tree → Element
element_of count tree = record { repeat = elements.Once; value = elements.Numbers count (tree ∷ []) }

pub sum_gives : (constants : Constants) (msb : Bool) (count : ℕ) (t : Tree) → CanWrite t → AreUnknown constants t → has_open t ≡ true → pending 1 t ≤ 64
    → (list_pieces constants msb (Some (element_of count t ∷ [])) >>= λ pieces. Ok (records_of pieces)) ≡ Ok (Formula 0xEB count 0 (expression_text t) ∷ [])
unfolding elements.element_pieces checked_formula amount records_after
sum_gives constants msb count t can are open' few =
    rw (all_of, le-ltb 64 (pending 1 t) few, no_large t can, open_worth constants t can are open', same_values constants t can are) refl

-- no quote is among the bytes
abbrev pub HasNoQuote : List ℕ → Type 0
HasNoQuote text = AllByRecursion (λ byte. (byte == 0x27) ≡ false) text

quote_at : (front rest : List ℕ) → HasNoQuote front → position_or_len (λ byte. byte == 0x27) (front ++ 0x27 ∷ rest) ≡ length front
quote_at [] rest none = refl
quote_at (byte ∷ front) rest none = rw none.0 (omega (arith, quote_at front rest none.1))

pub closed_found : (front rest : List ℕ) → HasNoQuote front → elements.closed_at (front ++ 0x27 ∷ rest) ≡ Some (front, rest)
unfolding elements.closed_at
closed_found front rest none = by (position_or_len (λ byte. byte == 0x27) (front ++ 0x27 ∷ rest)) (quote_at front rest none)
  where
    seen : List ℕ → List ℕ → tokens.Found (List ℕ)
    seen found left = Some (found, left)

    by : (n : ℕ) → n ≡ length front → cond (nat_lt n (length (front ++ 0x27 ∷ rest))) (seen (take n (front ++ 0x27 ∷ rest)) (drop (n + 1) (front ++ 0x27 ∷ rest))) None ≡ seen front rest
    by n same =
        let inside : ltb n (length (front ++ 0x27 ∷ rest)) ≡ true = lt-ltb n (length (front ++ 0x27 ∷ rest)) (omega (arith, same, length-append front (0x27 ∷ rest))) in
        rw inside (ap (λ (l : List ℕ). seen l (drop (n + 1) (front ++ 0x27 ∷ rest))) (take_at front (0x27 ∷ rest) n (sym same)) ∙ ap (λ (l : List ℕ). seen front l) (following n same))
      where
        following : (n : ℕ) → n ≡ length front → drop (n + 1) (front ++ 0x27 ∷ rest) ≡ rest
        following n same =
            ap (λ (l : List ℕ). drop (n + 1) l) (sym (append_assoc front (0x27 ∷ []) rest)) ∙ drop_at (front ++ 0x27 ∷ []) rest (n + 1) (omega (arith, same, length-append front (0x27 ∷ [])))
