-- The number that a formula is, term by term.
use Rattle.std.proofs.Common.{◌≡◌, ℕ, ◌<◌, Bool, true, false, cond, eqb, List, [], ◌∷◌, ◌++◌, length, map, Option, Some, None, refl, sym, ap, ◌∙◌, append_assoc, append-nil, arith}
use Rattle.std.proofs.lemmas.List.{length-append}
use Rattle.omf_format.specs.Expression.{Term, Operator, Location, Constant, Named, Offset, operand_count, Tree, Leaf, Unary, Binary, IsTree, terms_of}
use Rattle.asm_meaning.specs.Constant.{Constants, KnownValue, Number, Open, known_value, worth_of_two}
use Rattle.asm_meaning.specs.laws.Steps.{number_or, number_or_open, worth_of_term, worth_of_one}
use Rattle.orca_operands.specs.AmountView.{written_term, IsFormulaOf}

-- a tree has terms
some_terms : (t : Tree) → length (terms_of t) ≡ 0 → ⊥
some_terms (Leaf term) e = absurd (omega (arith, e))
some_terms (Unary code a) e = omega (arith, e, length-append (terms_of a) (Operator code ∷ []))
some_terms (Binary code a b) e = omega (arith, e, length-append (terms_of a) (terms_of b ++ Operator code ∷ []), length-append (terms_of b) (Operator code ∷ []))

-- a number alone
number_term : (constants : Constants) (t : Term) (n : ℕ) → Constant n ≡ written_term constants t → Number n ≡ worth_of_term constants t
number_term constants (Operator code) n is = absurd cc
number_term constants Location n is = absurd cc
number_term constants (Constant m) n is = same m n is
  where
    same : (x y : ℕ) → Constant y ≡ Constant x → Number y ≡ Number x
    same x y e = cc
number_term constants (Named code name) n is = by_code (eqb code 0x83) is
  where
    by_value : (o : Option ℕ) → Constant n ≡ number_or (Named code name) o → Number n ≡ number_or_open o
    by_value None e = absurd cc
    by_value (Some m) e = same m n e
      where
        same : (x y : ℕ) → Constant y ≡ Constant x → Number y ≡ Number x
        same x y e = cc

    by_code : (b : Bool) → Constant n ≡ cond b (number_or (Named code name) (constants name)) (Named code name) → Number n ≡ cond b (number_or_open (constants name)) Open
    by_code true e = by_value (constants name) e
    by_code false e = absurd cc
number_term constants (Offset m) n is = absurd cc

-- the values that are pending after an operator, the last first
abbrev after_operator : ℕ → List KnownValue → List KnownValue
after_operator code [] = []
after_operator code (a ∷ []) = worth_of_one code a ∷ []
after_operator code (b ∷ a ∷ pending) = cond (eqb (operand_count code) 1) (worth_of_one code b ∷ a ∷ pending) (worth_of_two code a b ∷ pending)

-- and after a term, and after several
abbrev after_term : Constants → Term → List KnownValue → List KnownValue
after_term constants (Operator code) pending = after_operator code pending
after_term constants Location pending = worth_of_term constants Location ∷ pending
after_term constants (Constant n) pending = worth_of_term constants (Constant n) ∷ pending
after_term constants (Named code name) pending = worth_of_term constants (Named code name) ∷ pending
after_term constants (Offset n) pending = worth_of_term constants (Offset n) ∷ pending

abbrev pub after_terms : Constants → List Term → List KnownValue → List KnownValue
after_terms constants [] pending = pending
after_terms constants (t ∷ terms) pending = after_terms constants terms (after_term constants t pending)

-- an operator takes as many values as it has operands
after_unary : (code : ℕ) (v : KnownValue) (pending : List KnownValue) → operand_count code ≡ 1 → after_operator code (v ∷ pending) ≡ worth_of_one code v ∷ pending
after_unary code v [] one = refl
after_unary code v (a ∷ pending) one = rw one refl

after_binary : (code : ℕ) (v w : KnownValue) (pending : List KnownValue) → operand_count code ≡ 2 → after_operator code (w ∷ v ∷ pending) ≡ worth_of_two code v w ∷ pending
after_binary code v w pending two = rw two refl

-- a tree leaves its value
after_tree : (constants : Constants) (t : Tree) → IsTree 0 t → (terms : List Term) (pending : List KnownValue) → after_terms constants (terms_of t ++ terms) pending ≡ after_terms constants terms (known_value constants t ∷ pending)
unfolding known_value
after_tree constants (Leaf (Operator code)) is terms pending = absurd is
after_tree constants (Leaf Location) is terms pending = refl
after_tree constants (Leaf (Constant n)) is terms pending = refl
after_tree constants (Leaf (Named code name)) is terms pending = refl
after_tree constants (Leaf (Offset n)) is terms pending = refl
after_tree constants (Unary code a) is terms pending =
    ap (λ (l : List Term). after_terms constants l pending) (append_assoc (terms_of a) (Operator code ∷ []) terms) ∙ after_tree constants a is.2 (Operator code ∷ terms) pending
    ∙ ap (after_terms constants terms) (after_unary code (known_value constants a) pending is.1)
after_tree constants (Binary code a b) is terms pending =
    ap (λ (l : List Term). after_terms constants l pending) (append_assoc (terms_of a) (terms_of b ++ Operator code ∷ []) terms ∙ ap (λ (l : List Term). terms_of a ++ l) (append_assoc (terms_of b) (Operator code ∷ []) terms))
    ∙ after_tree constants a is.2 (terms_of b ++ Operator code ∷ terms) pending ∙ after_tree constants b is.3 (Operator code ∷ terms) (known_value constants a ∷ pending)
    ∙ ap (after_terms constants terms) (after_binary code (known_value constants a) (known_value constants b) pending is.1)

-- a number, or a name whose value is one, leaves it
after_number : (constants : Constants) (t : Term) (n : ℕ) (pending : List KnownValue) → Constant n ≡ written_term constants t → after_term constants t pending ≡ Number n ∷ pending
after_number constants (Operator code) n pending is = absurd cc
after_number constants Location n pending is = absurd cc
after_number constants (Constant m) n pending is = ap (λ (v : KnownValue). v ∷ pending) (sym (number_term constants (Constant m) n is))
after_number constants (Named code name) n pending is = ap (λ (v : KnownValue). v ∷ pending) (sym (number_term constants (Named code name) n is))
after_number constants (Offset m) n pending is = absurd cc

same_first : (v w : KnownValue) → v ∷ [] ≡ w ∷ [] → v ≡ w
same_first v w e = cc

-- the number that is left is that of the formula
pub chain_whole : (constants : Constants) (first n : ℕ) (others : List Term) → Number n ∷ [] ≡ after_terms constants others (Number first ∷ [])
    → (t : Term) (tree : Tree) → Constant first ≡ written_term constants t → IsFormulaOf (t ∷ others) tree → Number n ≡ known_value constants tree
chain_whole constants first n others left t tree number is =
    same_first (Number n) (known_value constants tree) (left ∙ sym (ap (after_terms constants others) (after_number constants t first [] number))
    ∙ ap (λ (l : List Term). after_terms constants l []) (is.terms_are ∙ sym (append-nil (terms_of tree))) ∙ after_tree constants tree is.formed [] [])

-- at the end no term is left
none_left : {A : Type 0} (l : List A) → length l < 1 → l ≡ []
none_left [] few = refl
none_left (x ∷ l) few = absurd (omega (arith, few))

pub chain_ends : {A : Type 0} (constants : Constants) (view : A → Term) (left : List A) (n : ℕ) (whole : List KnownValue) → length left < 1 → after_terms constants (map view left) (Number n ∷ []) ≡ whole → Number n ∷ [] ≡ whole
chain_ends {A = A} constants view left n whole few is = sym (ap (λ (l : List A). after_terms constants (map view l) (Number n ∷ [])) (none_left left few)) ∙ is

-- a formula has a term
pub no_formula : {A : Type 0} (view : A → Term) (terms : List A) (tree : Tree) → length terms ≡ 0 → IsFormulaOf (map view terms) tree → ⊥
no_formula view [] tree none is = some_terms tree (ap length (sym is.terms_are))
no_formula view (t ∷ terms) tree none is = absurd (omega (arith, none))
