-- Which texts are short formulas, by their tokens.
use Rattle.std.proofs.Common.{◌≡◌, ◌≢◌, ℕ, ◌<◌, ◌^◌, Bool, true, false, cond, ltb, eqb, List, [], ◌∷◌, length, Some, None, refl, sym, ap, subst, ◌∙◌}
use Rattle.std.specs.Option.{option_or}
use Rattle.std.proofs.lemmas.Bool.{lt-ltb}
use Rattle.orca_meaning.specs.declared.operators.Operands.TheVariants.{Symbols}
use Rattle.orca_meaning.specs.declared.operators.Operator.{Operator}
use Rattle.orca_meaning.specs.declared.operators.Sign.{Sign}
use Rattle.orca_meaning.specs.Formula.{operator_level}
use Rattle.orca_meaning.specs.Token.{Found, Operand, Number, LengthOf, CountOf, Token, Value, Before, Between, Opens, Stand, byte_at, sign_at, symbol_at, attribute_at, number_at, operand_at, operand_token_at, operator_token_at, seen_as, asked_by}
use Rattle.orca_meaning.specs.laws.Steps.{other_operand_at}
use Rattle.orca_text.specs.Kept.{fitting}
use Rattle.orca_text.specs.declared.short.ShortFormula.{ShortFormula}
use Rattle.orca_text.specs.declared.short.ShortFormula.TheVariants.{One, Two, Three}
use Rattle.orca_text.specs.Short.{IsShort}
use Rattle.orca_text.proofs.Shorts.{not_open}

abbrev there : {A : Type 0} → A → List ℕ → Found A
there x rest = Some (x, rest)

-- what was found is one thing with one rest
found_same : {A : Type 0} → (x y : A) (r s : List ℕ) → there x r ≡ there y s → (x ≡ y) × (r ≡ s)
found_same {A} x y r s e = (ap (λ (p : A × List ℕ). p.0) both, ap (λ (p : A × List ℕ). p.1) both)
  where
    inside : (p q : A × List ℕ) → Some p ≡ Some q → p ≡ q
    inside p q e = cc

    both : ◌≡◌ {A = A × List ℕ} (x, r) (y, s)
    both = inside (x, r) (y, s) e

-- ---- where there is no number

-- a parenthesis
pub opens_no_number : (text following : List ℕ) → text ≡ 0x28 ∷ following → (n : ℕ) (rest : List ℕ) → operand_token_at Symbols text ≡ Some (Value (Number n), rest) → n < 2 ^ 32 → ⊥
unfolding operand_token_at byte_at
opens_no_number text following is n rest token small = clash (sym (ap (operand_token_at Symbols) is) ∙ token)
  where
    clash : there Opens following ≡ there (Value (Number n)) rest → ⊥
    clash e = let same = (found_same Opens (Value (Number n)) following rest e).0 in cc

-- an operator before an operand
pub sign_no_number : (text : List ℕ) (sign : Sign) (following : List ℕ) → ((following : List ℕ) → text ≢ 0x28 ∷ following) → sign_at text ≡ Some (sign, following)
    → (n : ℕ) (rest : List ℕ) → operand_token_at Symbols text ≡ Some (Value (Number n), rest) → n < 2 ^ 32 → ⊥
unfolding operand_token_at
sign_no_number text sign following other found n rest token small = clash (sym (rw (not_open text other, found) refl) ∙ token)
  where
    clash : there (Before sign) following ≡ there (Value (Number n)) rest → ⊥
    clash e = let same = (found_same (Before sign) (Value (Number n)) following rest e).0 in cc

-- the operand at the start, where neither of these is there
operand_there : (text : List ℕ) → ((following : List ℕ) → text ≢ 0x28 ∷ following) → sign_at text ≡ None → operand_token_at Symbols text ≡ seen_as Value (operand_at Symbols text)
unfolding operand_token_at
operand_there text other no_sign = rw (not_open text other, no_sign) refl

-- what is asked of a symbol is no number
asked_no_number : (letter : ℕ) (name : Found (List ℕ)) (n : ℕ) (rest : List ℕ) → asked_by letter name ≡ Some (Number n, rest) → ⊥
asked_no_number letter name n rest e = by_letter _ _ e
  where
    length_no : (name : Found (List ℕ)) → seen_as LengthOf name ≡ there (Number n) rest → ⊥
    length_no None e = cc
    length_no (Some found) e = let same = (found_same (LengthOf found.0) (Number n) found.1 rest e).0 in cc

    count_no : (name : Found (List ℕ)) → seen_as CountOf name ≡ there (Number n) rest → ⊥
    count_no None e = cc
    count_no (Some found) e = let same = (found_same (CountOf found.0) (Number n) found.1 rest e).0 in cc

    nothing_no : None ≡ there (Number n) rest → ⊥
    nothing_no e = cc

    by_letter : (a b : Bool) → cond a (seen_as LengthOf name) (cond b (seen_as CountOf name) None) ≡ there (Number n) rest → ⊥
    by_letter true b e = length_no name e
    by_letter false true e = count_no name e
    by_letter false false e = nothing_no e

attribute_no_number : (name : List ℕ → Found (List ℕ)) (text : List ℕ) (n : ℕ) (rest : List ℕ) → attribute_at name text ≡ Some (Number n, rest) → ⊥
unfolding attribute_at
attribute_no_number name [] n rest e = let clash : None ≡ there (Number n) rest = e in cc
attribute_no_number name (letter ∷ []) n rest e = let clash : None ≡ there (Number n) rest = e in cc
attribute_no_number name (letter ∷ colon ∷ following) n rest e = by_colon _ e
  where
    by_colon : (b : Bool) → cond b (asked_by letter (name following)) None ≡ there (Number n) rest → ⊥
    by_colon true e = asked_no_number letter (name following) n rest e
    by_colon false e = cc

value_number : (found : Found Operand) (n : ℕ) (rest : List ℕ) → seen_as Value found ≡ Some (Value (Number n), rest) → found ≡ Some (Number n, rest)
value_number None n rest e = absurd cc
value_number (Some (operand, following)) n rest e = ap out e
  where
    inner : Token → Operand
    inner (Value o) = o
    inner t = operand

    out : Found Token → Found Operand
    out None = None
    out (Some (t, r)) = Some (inner t, r)

-- no number
pub none_no_number : (text : List ℕ) → ((following : List ℕ) → text ≢ 0x28 ∷ following) → sign_at text ≡ None → number_at text ≡ None
    → (n : ℕ) (rest : List ℕ) → operand_token_at Symbols text ≡ Some (Value (Number n), rest) → n < 2 ^ 32 → ⊥
unfolding operand_at
none_no_number text other no_sign none n rest token small =
    let is : operand_at Symbols text ≡ there (Number n) rest = value_number (operand_at Symbols text) n rest (sym (operand_there text other no_sign) ∙ token) in
    attribute_no_number symbol_at text n rest (sym (ap (λ (o : Found ℕ). option_or (seen_as Number o) (other_operand_at Symbols text)) none) ∙ is)

-- a number that is too large
pub large_no_number : (text : List ℕ) (following : List ℕ) → ((following : List ℕ) → text ≢ 0x28 ∷ following) → sign_at text ≡ None → seen_as fitting (number_at text) ≡ Some (None, following)
    → (n : ℕ) (rest : List ℕ) → operand_token_at Symbols text ≡ Some (Value (Number n), rest) → n < 2 ^ 32 → ⊥
unfolding operand_at
large_no_number text following other no_sign large n rest token small =
    by_number (number_at text) large (value_number (operand_at Symbols text) n rest (sym (operand_there text other no_sign) ∙ token))
  where
    same : (m : ℕ) (r : List ℕ) → there (Number m) r ≡ there (Number n) rest → m ≡ n
    same m r e = let operand = (found_same (Number m) (Number n) r rest e).0 in cc

    by_size : (b : Bool) (m : ℕ) (r : List ℕ) → b ≡ true → there (cond b (Some m) None) r ≡ there None following → ⊥
    by_size true m r e is = let none : Some m ≡ None = (found_same (Some m) None r following is).0 in cc
    by_size false m r e is = cc

    by_number : (found : Found ℕ) → seen_as fitting found ≡ Some (None, following) → option_or (seen_as Number found) (other_operand_at Symbols text) ≡ Some (Number n, rest) → ⊥
    by_number None e is = cc
    by_number (Some (m, r)) e is = by_size (ltb m (2 ^ 32)) m r (lt-ltb m (2 ^ 32) (subst (λ (k : ℕ). k < 2 ^ 32) (sym (same m r is)) small)) e

-- ---- token by token

number_same : (a b : ℕ) (r s : List ℕ) → there (Value (Number a)) r ≡ there (Value (Number b)) s → r ≡ s
number_same a b r s e = (found_same (Value (Number a)) (Value (Number b)) r s e).1

operator_same : (a b : Operator) (r s : List ℕ) → there (Between a) r ≡ there (Between b) s → (a ≡ b) × (r ≡ s)
operator_same a b r s e = let same = found_same (Between a) (Between b) r s e in let tokens = same.0 in (cc, same.1)

-- after a number that is at the start
after_number : (text : List ℕ) (a b : ℕ) (rest : List ℕ) (tokens : List Token) → operand_token_at Symbols text ≡ Some (Value (Number a), rest)
    → Stand Symbols true text (Value (Number b) ∷ tokens) [] → Stand Symbols false rest tokens []
after_number text a b rest tokens first s = subst (λ (r : List ℕ). Stand Symbols false r tokens []) (number_same b a s.0 rest (sym s.1 ∙ first)) s.2

-- and after an operator
after_operator : (text : List ℕ) (a b : Operator) (rest : List ℕ) (tokens : List Token) → operator_token_at text ≡ Some (Between a, rest)
    → Stand Symbols false text (Between b ∷ tokens) [] → (b ≡ a) × Stand Symbols true rest tokens []
after_operator text a b rest tokens first s =
    let same = operator_same b a s.0 rest (sym s.1 ∙ first) in
    (same.0, subst (λ (r : List ℕ). Stand Symbols true r tokens []) same.1 s.2)

not_empty : (rest : List ℕ) → eqb (length rest) 0 ≡ false → [] ≡ rest → ⊥
not_empty [] some e = let clash : true ≡ false = some in cc
not_empty (byte ∷ rest) some e = cc

-- ---- why a text is no short formula

abbrev NoNumber : List ℕ → Type 0
NoNumber text = (n : ℕ) (rest : List ℕ) → operand_token_at Symbols text ≡ Some (Value (Number n), rest) → n < 2 ^ 32 → ⊥

abbrev NoOperator : List ℕ → Type 0
NoOperator text = (operator : Operator) (following : List ℕ) → operator_token_at text ≡ Some (Between operator, following) → ⊥

pub no_first : (text : List ℕ) → NoNumber text → (f : ShortFormula) → IsShort text f → ⊥
no_first text none (One a) s = none a s.tokens.0 s.tokens.1 s.small
no_first text none (Two operator a b) s = none a s.tokens.0 s.tokens.1 s.small.0
no_first text none (Three operator a second b c) s = none a s.tokens.0 s.tokens.1 s.small.0

pub no_operator : (text : List ℕ) (n : ℕ) (rest : List ℕ) → operand_token_at Symbols text ≡ Some (Value (Number n), rest) → eqb (length rest) 0 ≡ false → NoOperator rest
    → (f : ShortFormula) → IsShort text f → ⊥
no_operator text n rest first some none (One a) s = not_empty rest some (after_number text n a rest [] first s.tokens)
no_operator text n rest first some none (Two operator a b) s =
    let t = after_number text n a rest (Between operator ∷ Value (Number b) ∷ []) first s.tokens in
    none operator t.0 t.1
no_operator text n rest first some none (Three operator a second b c) s =
    let t = after_number text n a rest (Between operator ∷ Value (Number b) ∷ Between second ∷ Value (Number c) ∷ []) first s.tokens in
    none operator t.0 t.1

pub no_second : (text : List ℕ) (n : ℕ) (rest : List ℕ) (between : Operator) (following : List ℕ) → operand_token_at Symbols text ≡ Some (Value (Number n), rest) → eqb (length rest) 0 ≡ false
    → operator_token_at rest ≡ Some (Between between, following) → NoNumber following → (f : ShortFormula) → IsShort text f → ⊥
no_second text n rest between following first some then none (One a) s = not_empty rest some (after_number text n a rest [] first s.tokens)
no_second text n rest between following first some then none (Two operator a b) s =
    let t = after_number text n a rest (Between operator ∷ Value (Number b) ∷ []) first s.tokens in
    let u = (after_operator rest between operator following (Value (Number b) ∷ []) then t).1 in
    none b u.0 u.1 s.small.1
no_second text n rest between following first some then none (Three operator a second b c) s =
    let t = after_number text n a rest (Between operator ∷ Value (Number b) ∷ Between second ∷ Value (Number c) ∷ []) first s.tokens in
    let u = (after_operator rest between operator following (Value (Number b) ∷ Between second ∷ Value (Number c) ∷ []) then t).1 in
    none b u.0 u.1 s.small.1

-- what follows two numbers
record IsPair (text : List ℕ) (n m : ℕ) (between : Operator) (rest following last : List ℕ) : Type 0 where
  first : operand_token_at Symbols text ≡ Some (Value (Number n), rest)
  some : eqb (length rest) 0 ≡ false
  then : operator_token_at rest ≡ Some (Between between, following)
  number : operand_token_at Symbols following ≡ Some (Value (Number m), last)
  more : eqb (length last) 0 ≡ false

-- then it has three numbers, if it is a short formula
only_three : (text : List ℕ) (n m : ℕ) (between : Operator) (rest following last : List ℕ) → IsPair text n m between rest following last → (f : ShortFormula) → IsShort text f
    → (operator second : Operator) × (a b c : ℕ) × (f ≡ Three operator a second b c) × (operator ≡ between) × Stand Symbols false last (Between second ∷ Value (Number c) ∷ []) [] × (c < 2 ^ 32) × (operator_level second < operator_level operator)
only_three text n m between rest following last p (One a) s = absurd (not_empty rest p.some (after_number text n a rest [] p.first s.tokens))
only_three text n m between rest following last p (Two operator a b) s =
    let t = after_number text n a rest (Between operator ∷ Value (Number b) ∷ []) p.first s.tokens in
    let u = (after_operator rest between operator following (Value (Number b) ∷ []) p.then t).1 in
    absurd (not_empty last p.more (after_number following m b last [] p.number u))
only_three text n m between rest following last p (Three operator a second b c) s =
    let t = after_number text n a rest (Between operator ∷ Value (Number b) ∷ Between second ∷ Value (Number c) ∷ []) p.first s.tokens in
    let u = after_operator rest between operator following (Value (Number b) ∷ Between second ∷ Value (Number c) ∷ []) p.then t in
    (operator, second, a, b, c, refl, u.0, after_number following m b last (Between second ∷ Value (Number c) ∷ []) p.number u.1, s.small.2, s.closer)

pub no_second_operator : (text : List ℕ) (n m : ℕ) (between : Operator) (rest following last : List ℕ) → operand_token_at Symbols text ≡ Some (Value (Number n), rest) → eqb (length rest) 0 ≡ false
    → operator_token_at rest ≡ Some (Between between, following) → operand_token_at Symbols following ≡ Some (Value (Number m), last) → eqb (length last) 0 ≡ false → NoOperator last
    → (f : ShortFormula) → IsShort text f → ⊥
no_second_operator text n m between rest following last first some then number more none f s =
    let three = only_three text n m between rest following last (record { first = first; some = some; then = then; number = number; more = more }) f s in
    none three.1 three.7.0 three.7.1

pub no_third : (text : List ℕ) (n m : ℕ) (between next : Operator) (rest following last end : List ℕ) → operand_token_at Symbols text ≡ Some (Value (Number n), rest) → eqb (length rest) 0 ≡ false
    → operator_token_at rest ≡ Some (Between between, following) → operand_token_at Symbols following ≡ Some (Value (Number m), last) → eqb (length last) 0 ≡ false
    → operator_token_at last ≡ Some (Between next, end) → NoNumber end → (f : ShortFormula) → IsShort text f → ⊥
no_third text n m between next rest following last end first some then number more closer none f s =
    let three = only_three text n m between rest following last (record { first = first; some = some; then = then; number = number; more = more }) f s in
    let u = (after_operator last next three.1 end (Value (Number three.4) ∷ []) closer three.7).1 in
    none three.4 u.0 u.1 three.8
