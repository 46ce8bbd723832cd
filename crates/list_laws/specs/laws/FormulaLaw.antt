-- A formula that is written is read again as its tree.
use Rattle.std.proofs.Common.{◌≡◌, ℕ, ◌-◌, ◌^◌, ◌<◌, ◌≤◌, Bool, true, false, cond, eqb, ltb, leb, List, [], ◌∷◌, ◌++◌, length, take, drop, Some, None, refl, sym, ap, subst, ◌∙◌, arith, append_assoc}
use Rattle.std.specs.Prelude.{codes, ◌==◌, ◌||◌, ◌&&◌, nat_lt, nat_le}
use Rattle.std.specs.List.{AllByRecursion, prefix_len}
use Rattle.std.specs.Char.{is_digit, to_ascii_uppercase}
use Rattle.std.proofs.lemmas.Bool.{le-ltb, eqb-true, ne_eqb, leb-true, le-leb, ltb-false, ltb-true}
use Rattle.std.proofs.lemmas.List.{drop_at, take_at}
use Rattle.omf_format.specs.Expression as expression
use Rattle.omf_format.specs.Expression.{Tree, Leaf, Unary, Binary}
use Rattle.orca_meaning.specs.declared.operators.Operands.TheVariants.{Labels}
use Rattle.orca_meaning.specs.declared.operators.Operator.{Operator}
use Rattle.orca_meaning.specs.declared.operators.Operator.TheVariants.{Multiply, Divide, Shift, Add, Subtract, Less, Greater, LessOrEqual, GreaterOrEqual, NotEqual, Equal, And, Or, Eor}
use Rattle.orca_meaning.specs.declared.operators.Sign.{Sign}
use Rattle.orca_meaning.specs.declared.operators.Sign.TheVariants.{Negate, Not}
use Rattle.orca_meaning.specs.Characters.{is_name_start, is_name_byte, folded}
use Rattle.orca_meaning.specs.laws.Complete.{operator_levels}
use Rattle.orca_meaning.specs.laws.Front.{expects_after}
use Rattle.orca_meaning.specs.Token as tokens
use Rattle.orca_meaning.specs.Token.{Operand, Here, Number, Label, Token, Value, Before, Between, Opens, Closes, Found, name_at, operator_at, token_at, expects_following, Stand}
use Rattle.orca_meaning.specs.Formula.{sign_code, operator_code, Formula, Single, Group, Signed, Joined, level_of, BindsByLevel, tokens_of, tree_of, MeansAt}
use Rattle.list_laws.specs.laws.Numbers.{HasNoDigit, number_token}
use Rattle.list_meaning.specs.Listed.{as_operand, formula_text}
use Rattle.list_meaning.specs.Listed as listed

-- ---- names

-- a name that can be written unchanged
abbrev pub IsPlainName : List ℕ → Type 0
IsPlainName [] = ⊥
IsPlainName (byte ∷ name) = (is_name_start byte ≡ true) × AllByRecursion (λ b. is_name_byte b ≡ true) name × (folded (byte ∷ name) ≡ byte ∷ name)

-- the start is no byte of a name and no colon
abbrev pub EndsName : List ℕ → Type 0
EndsName [] = Unit {0}
EndsName (byte ∷ rest) = (is_name_byte byte ≡ false) × ((byte == 0x3A) ≡ false)

start-ge : (byte : ℕ) → is_name_start byte ≡ true → 65 ≤ byte
start-ge byte is = by (nat_le 0x41 byte) (nat_le byte 0x5A) (nat_le 0x61 byte) (nat_le byte 0x7A) (byte == 0x5F) (byte == 0x7E) refl refl refl refl refl refl is
  where
    by : (a b c d e f : Bool) → leb 0x41 byte ≡ a → leb byte 0x5A ≡ b → leb 0x61 byte ≡ c → leb byte 0x7A ≡ d → eqb byte 0x5F ≡ e → eqb byte 0x7E ≡ f
        → (((a && b) || (c && d)) || e || f) ≡ true → 65 ≤ byte
    by true b c d e f pa pb pc pd pe pf h = leb-true 0x41 byte pa
    by false b true d e f pa pb pc pd pe pf h = omega (arith, leb-true 0x61 byte pc)
    by false b false d true f pa pb pc pd pe pf h = omega (arith, eqb-true byte 0x5F pe)
    by false b false d false true pa pb pc pd pe pf h = omega (arith, eqb-true byte 0x7E pf)
    by false b false d false false pa pb pc pd pe pf h = absurd cc

not_at : (byte k : ℕ) → k < byte → eqb byte k ≡ false
not_at byte k less = ne_eqb byte k (λ e. omega (arith, e, less))

not_of : (byte k : ℕ) → k < byte → eqb k byte ≡ false
not_of byte k less = ne_eqb k byte (λ e. omega (arith, e, less))

head_same : (a b : ℕ) (s t : List ℕ) → a ∷ s ≡ b ∷ t → a ≡ b
head_same a b s t e = cc

no_decimal : (byte : ℕ) → 65 ≤ byte → is_digit byte 10 ≡ false
no_decimal byte le =
    rw (le-ltb byte 48 (omega (arith, le)), le-ltb byte 58 (omega (arith, le)), le-ltb byte 65 le) (by (nat_lt byte 91) (nat_lt byte 97) (nat_lt byte 123) refl refl refl)
  where
    by : (a b c : Bool) → ltb byte 91 ≡ a → ltb byte 97 ≡ b → ltb byte 123 ≡ c → nat_lt (cond a (byte - 55) (cond b 36 (cond c (byte - 87) 36))) 10 ≡ false
    by true b c pa pb pc = le-ltb (byte - 55) 10 (omega (arith, le))
    by false true c pa pb pc = refl
    by false false true pa pb pc = le-ltb (byte - 87) 10 (omega (arith, ltb-false byte 97 pb))
    by false false false pa pb pc = refl

module _ (byte : ℕ) (tail : List ℕ) (le : 65 ≤ byte) (upper : to_ascii_uppercase byte ≡ byte) where
  no_sign : tokens.sign_at (byte ∷ tail) ≡ None
  unfolding tokens.sign_at tokens.spelled_at
  no_sign = rw (upper, not_of byte 0x2D (omega (arith, le)), not_of byte 0x2E (omega (arith, le))) refl

  no_number : tokens.number_at (byte ∷ tail) ≡ None
  unfolding tokens.number_at tokens.digits_at
  no_number =
      rw (not_at byte 0x24 (omega (arith, le)), not_at byte 0x25 (omega (arith, le)), not_at byte 0x40 (omega (arith, le)), not_at byte 0x27 (omega (arith, le)), not_at byte 0x22 (omega (arith, le)), no_decimal byte le) refl

  no_location : tokens.location_at (byte ∷ tail) ≡ None
  unfolding tokens.location_at
  no_location = rw (not_at byte 0x2A (omega (arith, le))) refl

  no_open : tokens.byte_at 0x28 Opens (byte ∷ tail) ≡ None
  unfolding tokens.byte_at
  no_open = rw (not_at byte 0x28 (omega (arith, le))) refl

abbrev HasNoColon : List ℕ → Type 0
HasNoColon [] = Unit {0}
HasNoColon (byte ∷ rest) = (byte == 0x3A) ≡ false

no_attribute : (byte : ℕ) (tail : List ℕ) → HasNoColon tail → tokens.attribute_at name_at (byte ∷ tail) ≡ None
unfolding tokens.attribute_at
no_attribute byte [] none = refl
no_attribute byte (colon ∷ following) none = rw none refl

name_has_no_colon : (name rest : List ℕ) → AllByRecursion (λ b. is_name_byte b ≡ true) name → EndsName rest → HasNoColon (name ++ rest)
name_has_no_colon [] [] are ends = tt
name_has_no_colon [] (byte ∷ rest) are ends = ends.1
name_has_no_colon (byte ∷ name) rest are ends = by (byte == 0x3A) refl
  where
    by : (b : Bool) → eqb byte 0x3A ≡ b → eqb byte 0x3A ≡ false
    by true e = let clash : false ≡ true = subst (λ (x : ℕ). is_name_byte x ≡ true) (eqb-true byte 0x3A e) are.0 in absurd cc
    by false e = e

name_bytes : (name rest : List ℕ) → AllByRecursion (λ b. is_name_byte b ≡ true) name → EndsName rest → prefix_len is_name_byte (name ++ rest) ≡ length name
name_bytes [] [] are ends = refl
name_bytes [] (byte ∷ rest) are ends = rw ends.0 refl
name_bytes (byte ∷ name) rest are ends = rw are.0 (omega (arith, name_bytes name rest are.1 ends))

pub name_read : (name rest : List ℕ) → IsPlainName name → EndsName rest → name_at (name ++ rest) ≡ Some (name, rest)
unfolding name_at
name_read [] rest is ends = absurd is
name_read (byte ∷ name) rest is ends = rw is.0 (by (prefix_len is_name_byte (name ++ rest)) (name_bytes name rest is.1 ends))
  where
    seen : List ℕ → List ℕ → Found (List ℕ)
    seen found left = Some (found, left)

    by : (n : ℕ) → n ≡ length name → seen (folded (byte ∷ take n (name ++ rest))) (drop n (name ++ rest)) ≡ seen (byte ∷ name) rest
    by n same = ap (λ (l : List ℕ). seen (folded (byte ∷ l)) (drop n (name ++ rest))) (take_at name rest n (sym same)) ∙ ap (λ (l : List ℕ). seen (folded (byte ∷ name)) l) (drop_at name rest n (sym same)) ∙ ap (λ (l : List ℕ). seen l rest) is.2

pub name_token : (name rest : List ℕ) → IsPlainName name → EndsName rest → token_at Labels true (name ++ rest) ≡ Some (Value (Label name), rest)
unfolding tokens.operand_token_at tokens.operand_at
name_token [] rest is ends = absurd is
name_token (byte ∷ name) rest is ends =
    let le = start-ge byte is.0 in
    let upper : to_ascii_uppercase byte ≡ byte = head_same (to_ascii_uppercase byte) byte (folded name) name is.2 in
    let tail = name ++ rest in
    rw (no_open byte tail le upper, no_sign byte tail le upper, no_number byte tail le upper, no_location byte tail le upper, no_attribute byte tail (name_has_no_colon name rest is.1 ends), name_read (byte ∷ name) rest is ends) refl

-- ---- operators

abbrev pub sign_of : ℕ → Sign
sign_of code = cond (eqb code 0x06) Negate Not

abbrev pub operator_of : ℕ → Operator
operator_of code =
    cond (eqb code 0x01) Add (cond (eqb code 0x02) Subtract (cond (eqb code 0x03) Multiply (cond (eqb code 0x04) Divide (cond (eqb code 0x07) Shift
    (cond (eqb code 0x08) And (cond (eqb code 0x09) Or (cond (eqb code 0x0A) Eor (cond (eqb code 0x0C) LessOrEqual (cond (eqb code 0x0D) GreaterOrEqual
    (cond (eqb code 0x0E) NotEqual (cond (eqb code 0x0F) Less (cond (eqb code 0x10) Greater Equal))))))))))))

-- the spelling of each operator
abbrev pub spelling_of : Operator → List ℕ
spelling_of operator = listed.operator_text (operator_code operator)

-- an operand begins there: no `=` and no `>`
abbrev pub BeginsOperand : List ℕ → Type 0
BeginsOperand [] = ⊥
BeginsOperand (byte ∷ rest) = (eqb 0x3D (to_ascii_uppercase byte) ≡ false) × (eqb 0x3E (to_ascii_uppercase byte) ≡ false)

pub operator_token : (operator : Operator) (rest : List ℕ) → BeginsOperand rest → token_at Labels false (spelling_of operator ++ rest) ≡ Some (Between operator, rest)
unfolding tokens.operator_token_at tokens.byte_at tokens.operator_at tokens.spelled_at listed.operator_text
operator_token operator [] begins = absurd begins
operator_token Multiply (byte ∷ rest) begins = refl
operator_token Divide (byte ∷ rest) begins = refl
operator_token Shift (byte ∷ rest) begins = refl
operator_token Add (byte ∷ rest) begins = refl
operator_token Subtract (byte ∷ rest) begins = refl
operator_token Less (byte ∷ rest) begins = rw (begins.0, begins.1) refl
operator_token Greater (byte ∷ rest) begins = rw begins.0 refl
operator_token LessOrEqual (byte ∷ rest) begins = refl
operator_token GreaterOrEqual (byte ∷ rest) begins = refl
operator_token NotEqual (byte ∷ rest) begins = refl
operator_token Equal (byte ∷ rest) begins = refl
operator_token And (byte ∷ rest) begins = refl
operator_token Or (byte ∷ rest) begins = refl
operator_token Eor (byte ∷ rest) begins = refl

pub sign_token : (sign : Sign) (rest : List ℕ) → token_at Labels true (listed.operator_text (sign_code sign) ++ rest) ≡ Some (Before sign, rest)
unfolding tokens.operand_token_at tokens.byte_at tokens.sign_at tokens.spelled_at listed.operator_text
sign_token Negate rest = refl
sign_token Not rest = refl

-- after an operand: an operator, a parenthesis or the end of a value
pub operator_ends : (operator : Operator) (rest : List ℕ) → EndsName (spelling_of operator ++ rest)
unfolding listed.operator_text
operator_ends Multiply rest = (refl, refl)
operator_ends Divide rest = (refl, refl)
operator_ends Shift rest = (refl, refl)
operator_ends Add rest = (refl, refl)
operator_ends Subtract rest = (refl, refl)
operator_ends Less rest = (refl, refl)
operator_ends Greater rest = (refl, refl)
operator_ends LessOrEqual rest = (refl, refl)
operator_ends GreaterOrEqual rest = (refl, refl)
operator_ends NotEqual rest = (refl, refl)
operator_ends Equal rest = (refl, refl)
operator_ends And rest = (refl, refl)
operator_ends Or rest = (refl, refl)
operator_ends Eor rest = (refl, refl)

-- ---- the formula that is written for a tree

abbrev pub operand_for : expression.Term → Operand
operand_for (expression.Operator code) = Here
operand_for expression.Location = Here
operand_for (expression.Constant n) = Number n
operand_for (expression.Named code name) = Label name
operand_for (expression.Offset n) = Here

abbrev pub grouped : Tree → Formula → Formula
grouped (Leaf term) formula = formula
grouped (Unary code a) formula = Group formula
grouped (Binary code a b) formula = Group formula

abbrev pub as_formula : Tree → Formula
as_formula (Leaf term) = Single (operand_for term)
as_formula (Unary code a) = Signed (sign_of code) (grouped a (as_formula a))
as_formula (Binary code a b) = Joined (operator_of code) (grouped a (as_formula a)) (grouped b (as_formula b))

-- which trees can be written: $80, $81 and $83, and the operators that have a spelling
abbrev pub CanWriteTerm : expression.Term → Type 0
CanWriteTerm (expression.Operator code) = ⊥
CanWriteTerm expression.Location = Unit {0}
CanWriteTerm (expression.Constant n) = n < 2 ^ 32
CanWriteTerm (expression.Named code name) = (code ≡ 0x83) × IsPlainName name
CanWriteTerm (expression.Offset n) = ⊥

abbrev pub CanWrite : Tree → Type 0
CanWrite (Leaf term) = CanWriteTerm term
CanWrite (Unary code a) = (sign_code (sign_of code) ≡ code) × CanWrite a
CanWrite (Binary code a b) = (operator_code (operator_of code) ≡ code) × CanWrite a × CanWrite b

-- ---- its tokens

grouped_tree : (t : Tree) (f : Formula) → tree_of (grouped t f) ≡ tree_of f
grouped_tree (Leaf term) f = refl
grouped_tree (Unary code a) f = refl
grouped_tree (Binary code a b) f = refl

tree_back : (t : Tree) → CanWrite t → tree_of (as_formula t) ≡ t
tree_back (Leaf (expression.Operator code)) can = absurd can
tree_back (Leaf expression.Location) can = refl
tree_back (Leaf (expression.Constant n)) can = refl
tree_back (Leaf (expression.Named code name)) can = ap (λ (c : ℕ). Leaf (expression.Named c name)) (sym can.0)
tree_back (Leaf (expression.Offset n)) can = absurd can
tree_back (Unary code a) can = ap (λ (x : Tree). Unary (sign_code (sign_of code)) x) (grouped_tree a (as_formula a) ∙ tree_back a can.1) ∙ ap (λ (c : ℕ). Unary c a) can.0
tree_back (Binary code a b) can =
    ap (λ (x : Tree). Binary (operator_code (operator_of code)) x (tree_of (grouped b (as_formula b)))) (grouped_tree a (as_formula a) ∙ tree_back a can.1)
    ∙ ap (λ (x : Tree). Binary (operator_code (operator_of code)) a x) (grouped_tree b (as_formula b) ∙ tree_back b can.2) ∙ ap (λ (c : ℕ). Binary c a b) can.0

level_grouped : (t : Tree) → level_of (grouped t (as_formula t)) ≡ 0
level_grouped (Leaf term) = refl
level_grouped (Unary code a) = refl
level_grouped (Binary code a b) = refl

formed_grouped : (t : Tree) (f : Formula) → BindsByLevel f → BindsByLevel (grouped t f)
formed_grouped (Leaf term) f is = is
formed_grouped (Unary code a) f is = is
formed_grouped (Binary code a b) f is = is

formed : (t : Tree) → BindsByLevel (as_formula t)
formed (Leaf term) = tt
formed (Unary code a) = (omega (arith, level_grouped a), formed_grouped a (as_formula a) (formed a))
formed (Binary code a b) =
    (omega (arith, level_grouped a), omega (arith, level_grouped b, (operator_levels (operator_of code)).0), formed_grouped a (as_formula a) (formed a), formed_grouped b (as_formula b) (formed b))

stand_append : (e : Bool) (text : List ℕ) (a b : List Token) (middle rest : List ℕ) → Stand Labels e text a middle → Stand Labels (expects_after e a) middle b rest → Stand Labels e text (a ++ b) rest
stand_append e text [] b middle rest p q = subst (λ (l : List ℕ). Stand Labels e l b rest) p q
stand_append e text (t ∷ a) b middle rest p q = (p.0, p.1, stand_append (expects_following t) p.0 a b middle rest p.2 q)

expects_append : (e : Bool) (a b : List Token) → expects_after e (a ++ b) ≡ expects_after (expects_after e a) b
expects_append e [] b = refl
expects_append e (t ∷ a) b = expects_append (expects_following t) a b

expects_none : (f : Formula) → expects_after true (tokens_of f) ≡ false
expects_none (Single operand) = refl
expects_none (Group inner) = expects_append true (tokens_of inner) (Closes ∷ [])
expects_none (Signed sign operand) = expects_none operand
expects_none (Joined operator left right) = expects_append true (tokens_of left) (Between operator ∷ tokens_of right) ∙ expects_none right

-- ---- they are there

begins_text : (t : Tree) (rest : List ℕ) → CanWrite t → BeginsOperand (as_operand t (formula_text t) ++ rest)
begins_text (Leaf (expression.Operator code)) rest can = absurd can
begins_text (Leaf expression.Location) rest can = (refl, refl)
begins_text (Leaf (expression.Constant n)) rest can = (refl, refl)
begins_text (Leaf (expression.Named code name)) rest can = by name can.1
  where
    by : (name : List ℕ) → IsPlainName name → BeginsOperand (name ++ rest)
    by [] is = absurd is
    by (byte ∷ name) is =
        let le = start-ge byte is.0 in
        let upper : to_ascii_uppercase byte ≡ byte = head_same (to_ascii_uppercase byte) byte (folded name) name is.2 in
        (ap (λ (x : ℕ). eqb 0x3D x) upper ∙ not_of byte 0x3D (omega (arith, le)), ap (λ (x : ℕ). eqb 0x3E x) upper ∙ not_of byte 0x3E (omega (arith, le)))
begins_text (Leaf (expression.Offset n)) rest can = absurd can
begins_text (Unary code a) rest can = (refl, refl)
begins_text (Binary code a b) rest can = (refl, refl)

pub no_digit : (rest : List ℕ) → EndsName rest → HasNoDigit rest
no_digit [] ends = tt
no_digit (byte ∷ rest) ends = by (ltb byte 48) (ltb byte 58) (ltb byte 65) (ltb byte 91) (ltb byte 97) (ltb byte 123) refl refl refl refl refl refl
  where
    clash : is_name_byte byte ≡ true → ⊥
    clash e = let both : false ≡ true = sym ends.0 ∙ e in absurd cc

    decimal : 48 ≤ byte → byte ≤ 57 → ⊥
    decimal low high = clash (rw (le-leb 0x30 byte low, le-leb byte 0x39 high) (with_true (is_name_start byte)))
      where
        with_true : (b : Bool) → (b || true) ≡ true
        with_true true = refl
        with_true false = refl

    capital : 65 ≤ byte → byte ≤ 90 → ⊥
    capital low high = clash (rw (le-leb 0x41 byte low, le-leb byte 0x5A high) refl)

    small : 97 ≤ byte → byte ≤ 122 → ⊥
    small low high = clash (rw (le-leb 0x61 byte low, le-leb byte 0x7A high) (with_true (leb 0x41 byte && leb byte 0x5A)))
      where
        with_true : (b : Bool) → (((b || true) || (byte == 0x5F) || (byte == 0x7E)) || (leb 0x30 byte && leb byte 0x39)) ≡ true
        with_true true = refl
        with_true false = refl

    by : (a b c d e f : Bool) → ltb byte 48 ≡ a → ltb byte 58 ≡ b → ltb byte 65 ≡ c → ltb byte 91 ≡ d → ltb byte 97 ≡ e → ltb byte 123 ≡ f
        → nat_lt (cond a 36 (cond b (byte - 48) (cond c 36 (cond d (byte - 55) (cond e 36 (cond f (byte - 87) 36)))))) 16 ≡ false
    by true b c d e f pa pb pc pd pe pf = refl
    by false true c d e f pa pb pc pd pe pf = absurd (decimal (ltb-false byte 48 pa) (omega (arith, ltb-true byte 58 pb)))
    by false false true d e f pa pb pc pd pe pf = refl
    by false false false true e f pa pb pc pd pe pf = absurd (capital (ltb-false byte 65 pc) (omega (arith, ltb-true byte 91 pd)))
    by false false false false true f pa pb pc pd pe pf = refl
    by false false false false false true pa pb pc pd pe pf = absurd (small (ltb-false byte 97 pe) (omega (arith, ltb-true byte 123 pf)))
    by false false false false false false pa pb pc pd pe pf = refl

location_token : (rest : List ℕ) → token_at Labels true (0x2A ∷ rest) ≡ Some (Value Here, rest)
unfolding tokens.operand_token_at tokens.operand_at tokens.byte_at tokens.sign_at tokens.spelled_at tokens.number_at tokens.digits_at tokens.location_at
location_token rest = refl

opens_token : (rest : List ℕ) → token_at Labels true (0x28 ∷ rest) ≡ Some (Opens, rest)
unfolding tokens.operand_token_at tokens.byte_at
opens_token rest = refl

closes_token : (rest : List ℕ) → token_at Labels false (0x29 ∷ rest) ≡ Some (Closes, rest)
unfolding tokens.operator_token_at tokens.byte_at
closes_token rest = refl

abbrev Stands : Tree → Type 0
Stands t = (rest : List ℕ) → EndsName rest → Stand Labels true (formula_text t ++ rest) (tokens_of (as_formula t)) rest

abbrev StandsIn : Tree → Type 0
StandsIn t = (rest : List ℕ) → EndsName rest → Stand Labels true (as_operand t (formula_text t) ++ rest) (tokens_of (grouped t (as_formula t))) rest

in_group : (f : Formula) (text rest : List ℕ) → Stand Labels true (text ++ 0x29 ∷ rest) (tokens_of f) (0x29 ∷ rest) → Stand Labels true ((codes "(" ++ (text ++ codes ")")) ++ rest) (tokens_of (Group f)) rest
in_group f text rest stand =
    let same : (text ++ codes ")") ++ rest ≡ text ++ 0x29 ∷ rest = append_assoc text (codes ")") rest in
    let closes : Stand Labels (expects_after true (tokens_of f)) (0x29 ∷ rest) (Closes ∷ []) rest = rw (expects_none f) (rest, closes_token rest, refl) in
    ((text ++ codes ")") ++ rest, opens_token ((text ++ codes ")") ++ rest), rw same (stand_append true (text ++ 0x29 ∷ rest) (tokens_of f) (Closes ∷ []) (0x29 ∷ rest) rest stand closes))

grouped_stands : (t : Tree) → Stands t → StandsIn t
grouped_stands (Leaf term) stands rest ends = stands rest ends
grouped_stands (Unary code a) stands rest ends = in_group (as_formula (Unary code a)) (formula_text (Unary code a)) rest (stands (0x29 ∷ rest) (refl, refl))
grouped_stands (Binary code a b) stands rest ends = in_group (as_formula (Binary code a b)) (formula_text (Binary code a b)) rest (stands (0x29 ∷ rest) (refl, refl))

pub stands_there : (t : Tree) → CanWrite t → Stands t
stands_there (Leaf (expression.Operator code)) can rest ends = absurd can
stands_there (Leaf expression.Location) can rest ends = (rest, location_token rest, refl)
stands_there (Leaf (expression.Constant n)) can rest ends = (rest, number_token 8 n rest can (no_digit rest ends), refl)
stands_there (Leaf (expression.Named code name)) can rest ends = (rest, name_token name rest can.1 ends, refl)
stands_there (Leaf (expression.Offset n)) can rest ends = absurd can
stands_there (Unary code a) can rest ends =
    let text = as_operand a (formula_text a) in
    let same : (listed.operator_text code ++ text) ++ rest ≡ listed.operator_text (sign_code (sign_of code)) ++ (text ++ rest) =
    append_assoc (listed.operator_text code) text rest ∙ ap (λ (c : ℕ). listed.operator_text c ++ (text ++ rest)) (sym can.0) in
    subst (λ (l : List ℕ). Stand Labels true l (tokens_of (as_formula (Unary code a))) rest) (sym same) (text ++ rest, sign_token (sign_of code) (text ++ rest), grouped_stands a (stands_there a can.1) rest ends)
stands_there (Binary code a b) can rest ends =
    let operator = operator_of code in
    let left = as_operand a (formula_text a) in
    let right = as_operand b (formula_text b) in
    let spelled : listed.operator_text code ≡ spelling_of operator = ap listed.operator_text (sym can.0) in
    let same : (left ++ (listed.operator_text code ++ right)) ++ rest ≡ left ++ (spelling_of operator ++ (right ++ rest)) =
    append_assoc left (listed.operator_text code ++ right) rest ∙ ap (λ (l : List ℕ). left ++ l) (append_assoc (listed.operator_text code) right rest)
    ∙ ap (λ (l : List ℕ). left ++ (l ++ (right ++ rest))) spelled in
    let first = grouped_stands a (stands_there a can.1) (spelling_of operator ++ (right ++ rest)) (operator_ends operator (right ++ rest)) in
    let second : Stand Labels false (spelling_of operator ++ (right ++ rest)) (Between operator ∷ tokens_of (grouped b (as_formula b))) rest =
    (right ++ rest, operator_token operator (right ++ rest) (begins_text b rest can.2), grouped_stands b (stands_there b can.2) rest ends) in
    subst (λ (l : List ℕ). Stand Labels true l (tokens_of (as_formula (Binary code a b))) rest) (sym same) (stand_append true (left ++ (spelling_of operator ++ (right ++ rest))) (tokens_of (grouped a (as_formula a))) (Between operator ∷ tokens_of (grouped b (as_formula b))) (spelling_of operator ++ (right ++ rest)) rest first
    (rw (expects_none (grouped a (as_formula a))) second))

-- the formula of a tree is read again as this tree, where no operator follows it
pub formula_read : (t : Tree) (rest : List ℕ) → CanWrite t → EndsName rest → operator_at rest ≡ None → MeansAt Labels (formula_text t ++ rest) t rest
formula_read t rest can ends none = record {
  formula = as_formula t;
  stands = record { formed = formed t; spelled = stands_there t can rest ends; ends = none };
  means = tree_back t can;
}
