-- The law on one line, for the kinds of DC.
use Rattle.std.proofs.Common.{◌≡◌, ℕ, zero, suc, ◌+◌, ◌-◌, ◌<◌, ◌≤◌, Bool, true, false, cond, eqb, List, [], ◌∷◌, ◌++◌, Some, Ok, refl, sym, ap, subst, ◌∙◌, arith, append-nil}
use Rattle.std.specs.Prelude.{codes, ◌==◌}
use Rattle.std.specs.List.{AllByRecursion}
use Rattle.std.specs.Fmt as fmt
use Rattle.std.specs.Char.{digit_value}
use Rattle.std.specs.Str.Parse.{AllDigits}
use Rattle.std.proofs.lemmas.Bool.{eqb-true, le-leb, ne_eqb}
use Rattle.omf_base.specs.Digits as digits
use Rattle.omf_base.specs.Digits.{hexadecimal}
use Rattle.omf_format.specs.Expression as expression
use Rattle.omf_format.specs.Expression.{Tree, Leaf, Unary, Binary}
use Rattle.omf_format.specs.Field.{◌>>=◌}
use Rattle.omf_format.specs.Record.{Record, Strong, Formula}
use Rattle.orca_meaning.specs.declared.operators.Operator.{Operator}
use Rattle.orca_meaning.specs.declared.operators.Operator.TheVariants.{LessOrEqual, GreaterOrEqual, NotEqual, And, Or, Eor}
use Rattle.orca_meaning.specs.declared.operators.Operands.TheVariants.{Labels}
use Rattle.orca_meaning.specs.Characters.{is_blank, is_name_byte}
use Rattle.orca_meaning.specs.Formula.{MeansAt, sign_code, operator_code, pending}
use Rattle.orca_meaning.specs.Line.{line_of}
use Rattle.orca_meaning.specs.Operation as operations
use Rattle.orca_meaning.specs.Token as tokens
use Rattle.orca_meaning.specs.Token.{name_at}
use Rattle.asm_meaning.specs.declared.directives.Directive.TheVariants as directives
use Rattle.asm_meaning.specs.declared.directives.Operation.TheVariants.{Direct}
use Rattle.asm_meaning.specs.Elements as elements
use Rattle.asm_meaning.specs.Elements.{Element, AreElements, list_pieces}
use Rattle.asm_meaning.specs.Formulas.{expression_text}
use Rattle.asm_meaning.specs.Operations as asm_operations
use Rattle.asm_meaning.specs.Operations.{operation_of}
use Rattle.asm_meaning.specs.Pieces.{records_of, records_after}
use Rattle.asm_meaning.specs.State.{State, StartedSegment, cells_of, greatest_length, with_local_record, in_segment}
use Rattle.asm_meaning.specs.Statement.{IsStep, IsDone, constants_of}
use Rattle.list_laws.specs.laws.LineText.{HasNoBlank}
use Rattle.list_meaning.specs.Listed.{statement_text}
use Rattle.list_laws.specs.laws.Numbers.{hexadecimal_is}
use Rattle.list_meaning.specs.Listed as listed
use Rattle.list_meaning.specs.Listed.{StrongIs, WeakIs, FormulaIs, said_text, quoted_value, formula_text, as_operand}
use Rattle.list_laws.specs.laws.FormulaLaw.{CanWrite, IsPlainName, name_read, formula_read, operator_of, sign_of}
use Rattle.list_laws.specs.laws.HeldLaw.{name_ink, byte_ink, start_is_byte}
use Rattle.list_laws.specs.laws.LineLaw.{step_of, inside, ink_of}
use Rattle.list_laws.specs.laws.SumLaw.{HasNoQuote, AreUnknown, has_open, element_of, sum_gives, closed_found}

-- ---- one element

pub dc_step : (state : State) (s : StartedSegment) (number : ℕ) (text : List ℕ) (element : Element) (contents : List Record) → state.segment ≡ Some s → HasNoBlank text → AreElements text (element ∷ [])
    → (list_pieces (constants_of state) state.msb (Some (element ∷ [])) >>= λ pieces. Ok (records_of pieces)) ≡ Ok contents → cells_of (with_local_record [] 0x4E contents s) ≤ greatest_length s.class
    → IsStep state (line_of 0 number (statement_text [] (codes "DC") text)) (Ok (in_segment (with_local_record [] 0x4E contents) state))
unfolding IsDone operation_of operations.operation_use operations.mnemonic_of operations.value_of_spelling operations.mnemonics operations.without_operand asm_operations.directives asm_operations.ignored_directives
dc_step state s number text element contents here ink are gives room =
    step_of state number [] (codes "DC") text (Direct directives.Constants) (Ok (in_segment (with_local_record [] 0x4E contents) state)) tt (refl, (refl, tt)) ink tt refl
    (inside state s (line_of 0 number (statement_text [] (codes "DC") text)) (Direct directives.Constants) [] text (with_local_record [] 0x4E contents) here refl
    (Some (element ∷ []), are, rw gives refl) room)

-- ---- bytes that don't occur in a formula

module _ (p : ℕ → Bool) (named : (byte : ℕ) → is_name_byte byte ≡ true → p byte ≡ false) (digit : (byte : ℕ) → digit_value byte < 16 → p byte ≡ false)
    (special : AllByRecursion (λ byte. p byte ≡ false) (codes "$*()")) (operator : (o : Operator) → AllByRecursion (λ byte. p byte ≡ false) (listed.operator_text (operator_code o)))
    (negate : AllByRecursion (λ byte. p byte ≡ false) (listed.operator_text 0x06)) (no : AllByRecursion (λ byte. p byte ≡ false) (listed.operator_text 0x0B)) where
  more : (a b : List ℕ) → AllByRecursion (λ byte. p byte ≡ false) a → AllByRecursion (λ byte. p byte ≡ false) b → AllByRecursion (λ byte. p byte ≡ false) (a ++ b)
  more [] b pa pb = pb
  more (byte ∷ a) b pa pb = (pa.0, more a b pa.1 pb)

  pub in_name : (name : List ℕ) → IsPlainName name → AllByRecursion (λ byte. p byte ≡ false) name
  in_name [] is = absurd is
  in_name (byte ∷ name) is = (named byte (start_is_byte byte is.0), following name is.1)
    where
      following : (name : List ℕ) → AllByRecursion (λ b. is_name_byte b ≡ true) name → AllByRecursion (λ byte. p byte ≡ false) name
      following [] are = tt
      following (byte ∷ name) are = (named byte are.0, following name are.1)

  pub in_digits : (ds : List ℕ) → AllDigits 16 ds → AllByRecursion (λ byte. p byte ≡ false) ds
  in_digits [] are = tt
  in_digits (d ∷ ds) are = (digit d are.0, in_digits ds are.1)

  in_operand : (t : Tree) → AllByRecursion (λ byte. p byte ≡ false) (formula_text t) → AllByRecursion (λ byte. p byte ≡ false) (as_operand t (formula_text t))
  in_operand (Leaf term) are = are
  in_operand (Unary code a) are = (special.1.1.0, more (formula_text (Unary code a)) (codes ")") are (special.1.1.1.0, tt))
  in_operand (Binary code a b) are = (special.1.1.0, more (formula_text (Binary code a b)) (codes ")") are (special.1.1.1.0, tt))

  in_sign : (code : ℕ) → sign_code (sign_of code) ≡ code → AllByRecursion (λ byte. p byte ≡ false) (listed.operator_text code)
  in_sign code is = subst (λ (c : ℕ). AllByRecursion (λ byte. p byte ≡ false) (listed.operator_text c)) is (by (eqb code 0x06))
    where
      by : (b : Bool) → AllByRecursion (λ byte. p byte ≡ false) (listed.operator_text (sign_code (cond b Rattle.orca_meaning.specs.declared.operators.Sign.TheVariants.Negate Rattle.orca_meaning.specs.declared.operators.Sign.TheVariants.Not)))
      by true = negate
      by false = no

  pub in_formula : (t : Tree) → CanWrite t → AllByRecursion (λ byte. p byte ≡ false) (formula_text t)
  in_formula (Leaf (expression.Operator code)) can = absurd can
  in_formula (Leaf expression.Location) can = (special.1.0, tt)
  in_formula (Leaf (expression.Constant n)) can = (special.0, in_digits (hexadecimal 8 n) (hexadecimal_is 8 n can).0.1)
  in_formula (Leaf (expression.Named code name)) can = in_name name can.1
  in_formula (Leaf (expression.Offset n)) can = absurd can
  in_formula (Unary code a) can = more (listed.operator_text code) (as_operand a (formula_text a)) (in_sign code can.0) (in_operand a (in_formula a can.1))
  in_formula (Binary code a b) can =
      more (as_operand a (formula_text a)) (listed.operator_text code ++ as_operand b (formula_text b)) (in_operand a (in_formula a can.1))
      (more (listed.operator_text code) (as_operand b (formula_text b)) (subst (λ (c : ℕ). AllByRecursion (λ byte. p byte ≡ false) (listed.operator_text c)) can.0 (operator (operator_of code))) (in_operand b (in_formula b can.2)))

quote_name : (byte : ℕ) → is_name_byte byte ≡ true → (byte == 0x27) ≡ false
quote_name byte is = by (eqb byte 0x27) refl
  where
    by : (b : Bool) → eqb byte 0x27 ≡ b → eqb byte 0x27 ≡ false
    by true e = let clash : true ≡ false = sym is ∙ ap is_name_byte (eqb-true byte 0x27 e) in absurd cc
    by false e = e

quote_digit : (byte : ℕ) → digit_value byte < 16 → (byte == 0x27) ≡ false
quote_digit byte less = by (eqb byte 0x27) refl
  where
    no_quote : digit_value 0x27 < 16 → ⊥
    no_quote h = omega (arith, h)

    by : (b : Bool) → eqb byte 0x27 ≡ b → eqb byte 0x27 ≡ false
    by true e = absurd (no_quote (subst (λ (x : ℕ). digit_value x < 16) (eqb-true byte 0x27 e) less))
    by false e = e

quote_operator : (o : Operator) → HasNoQuote (listed.operator_text (operator_code o))
unfolding listed.operator_text
quote_operator And = (refl, (refl, (refl, (refl, (refl, tt)))))
quote_operator Or = (refl, (refl, (refl, (refl, tt))))
quote_operator Eor = (refl, (refl, (refl, (refl, (refl, tt)))))
quote_operator LessOrEqual = (refl, (refl, tt))
quote_operator GreaterOrEqual = (refl, (refl, tt))
quote_operator NotEqual = (refl, (refl, tt))
quote_operator _ = (refl, tt)

blank_operator : (o : Operator) → HasNoBlank (listed.operator_text (operator_code o))
unfolding listed.operator_text
blank_operator And = (refl, (refl, (refl, (refl, (refl, tt)))))
blank_operator Or = (refl, (refl, (refl, (refl, tt))))
blank_operator Eor = (refl, (refl, (refl, (refl, (refl, tt)))))
blank_operator LessOrEqual = (refl, (refl, tt))
blank_operator GreaterOrEqual = (refl, (refl, tt))
blank_operator NotEqual = (refl, (refl, tt))
blank_operator _ = (refl, tt)

pub no_quote : (t : Tree) → CanWrite t → HasNoQuote (formula_text t)
unfolding listed.operator_text
no_quote t can = in_formula (λ byte. byte == 0x27) quote_name quote_digit (refl, (refl, (refl, (refl, tt)))) quote_operator (refl, tt) (refl, (refl, (refl, (refl, (refl, tt))))) t can

pub no_blank : (t : Tree) → CanWrite t → HasNoBlank (formula_text t)
unfolding listed.operator_text
no_blank t can = in_formula is_blank byte_ink ink_of (refl, (refl, (refl, (refl, tt)))) blank_operator (refl, tt) (refl, (refl, (refl, (refl, (refl, tt))))) t can

-- ---- DC A

-- a count is 1 to 4
abbrev pub IsCount : ℕ → Type 0
IsCount n = (1 ≤ n) × (n ≤ 4)

count_text : (n : ℕ) → IsCount n → hexadecimal 1 n ≡ (0x30 + n) ∷ []
unfolding digits.hexadecimal fmt.digits
count_text n is = by n is
  where
    by : (n : ℕ) → IsCount n → hexadecimal 1 n ≡ (0x30 + n) ∷ []
    by zero is = absurd (omega (arith, is.0))
    by (suc zero) is = refl
    by (suc (suc zero)) is = refl
    by (suc (suc (suc zero))) is = refl
    by (suc (suc (suc (suc zero)))) is = refl
    by (suc (suc (suc (suc (suc more))))) is = absurd (omega (arith, is.1))

pub ink_push : (text following : List ℕ) → HasNoBlank text → HasNoBlank following → HasNoBlank (text ++ following)
ink_push [] following p q = q
ink_push (byte ∷ text) following p q = (p.0, ink_push text following p.1 q)

same_kind : (n : ℕ) (rest : List ℕ) → IsCount n → elements.kind_at (0x41 ∷ (0x30 + n) ∷ rest) ≡ Some (elements.Number n, rest)
unfolding elements.kind_at
same_kind n rest is = rw (le-leb 0x31 (0x30 + n) (omega (arith, is.0)), le-leb (0x30 + n) 0x34 (omega (arith, is.1))) (ap (λ (k : ℕ). seen (elements.Number k) rest) (back n))
  where
    seen : elements.ElementType → List ℕ → tokens.Found elements.ElementType
    seen kind left = Some (kind, left)

    back : (n : ℕ) → 0x30 + n - 0x30 ≡ n
    back n = omega arith

element_read : (n : ℕ) (t : Tree) → IsCount n → CanWrite t → AreElements (0x41 ∷ (0x30 + n) ∷ 0x27 ∷ (formula_text t ++ codes "'")) (element_of n t ∷ [])
unfolding tokens.digits_at tokens.operator_at tokens.spelled_at
element_read n t is can = record {
  after_repeat = 0x41 ∷ (0x30 + n) ∷ 0x27 ∷ (formula_text t ++ codes "'");
  kind = elements.Number n;
  after_quote = formula_text t ++ codes "'";
  repeat = (refl, refl);
  of_kind = same_kind n (0x27 ∷ (formula_text t ++ codes "'")) is;
  value = (formula_text t, t ∷ [], closed_found (formula_text t) [] (no_quote t can), subst (λ (l : List ℕ). MeansAt Labels l t []) (append-nil (formula_text t)) (formula_read t [] can tt refl), refl);
}

pub sums_step : (state : State) (s : StartedSegment) (number n : ℕ) (t : Tree) → state.segment ≡ Some s → IsCount n → CanWrite t → AreUnknown (constants_of state) t → has_open t ≡ true → pending 1 t ≤ 64
    → cells_of (with_local_record [] 0x4E (Formula 0xEB n 0 (expression_text t) ∷ []) s) ≤ greatest_length s.class
    → IsStep state (line_of 0 number (said_text (FormulaIs n t))) (Ok (in_segment (with_local_record [] 0x4E (Formula 0xEB n 0 (expression_text t) ∷ [])) state))
unfolding said_text
sums_step state s number n t here is can are open' few room =
    let text = 0x41 ∷ (0x30 + n) ∷ 0x27 ∷ (formula_text t ++ codes "'") in
    let same : quoted_value (codes "A" ++ hexadecimal 1 n) (formula_text t) ≡ text = ap (λ (l : List ℕ). (0x41 ∷ l) ++ (0x27 ∷ (formula_text t ++ codes "'"))) (count_text n is) in
    let digit_ink : is_blank (0x30 + n) ≡ false = rw (ne_eqb (0x30 + n) 0x20 (λ e. omega (arith, e)), ne_eqb (0x30 + n) 0x09 (λ e. omega (arith, e))) refl in
    let ink : HasNoBlank text = (refl, (digit_ink, (refl, ink_push (formula_text t) (codes "'") (no_blank t can) (refl, tt)))) in
    let contents = Formula 0xEB n 0 (expression_text t) ∷ [] in
    subst (λ (l : List ℕ). IsStep state (line_of 0 number (statement_text [] (codes "DC") l)) (Ok (in_segment (with_local_record [] 0x4E contents) state))) (sym same)
    (dc_step state s number text (element_of n t) contents here ink (element_read n t is can) (sum_gives (constants_of state) state.msb n t can are open' few) room)

-- ---- DC R and DC S

name_quote : (name : List ℕ) → IsPlainName name → HasNoQuote name
name_quote [] is = absurd is
name_quote (byte ∷ name) is = (quote_name byte (start_is_byte byte is.0), following name is.1)
  where
    following : (name : List ℕ) → AllByRecursion (λ b. is_name_byte b ≡ true) name → HasNoQuote name
    following [] are = tt
    following (byte ∷ name) are = (quote_name byte are.0, following name are.1)

whole_name : (name : List ℕ) → IsPlainName name → name_at name ≡ Some (name, [])
whole_name name is = ap name_at (sym (append-nil name)) ∙ name_read name [] is tt

pub asks_step : (state : State) (s : StartedSegment) (number : ℕ) (name : List ℕ) → state.segment ≡ Some s → IsPlainName name → cells_of (with_local_record [] 0x4E (Strong name ∷ []) s) ≤ greatest_length s.class
    → IsStep state (line_of 0 number (said_text (StrongIs name))) (Ok (in_segment (with_local_record [] 0x4E (Strong name ∷ [])) state))
unfolding said_text elements.kind_at tokens.digits_at elements.element_pieces records_after
asks_step state s number name here is room =
    dc_step state s number (quoted_value (codes "R") name) (record { repeat = elements.Once; value = elements.Asked (name ∷ []) }) (Strong name ∷ []) here (refl, (refl, ink_push name (codes "'") (name_ink name is) (refl, tt)))
    (record {
      after_repeat = quoted_value (codes "R") name;
      kind = elements.References;
      after_quote = name ++ codes "'";
      repeat = (refl, refl);
      of_kind = refl;
      value = (name, name ∷ [], closed_found name [] (name_quote name is), whole_name name is, refl);
    }) refl room

pub weakly_step : (state : State) (s : StartedSegment) (number : ℕ) (name : List ℕ) → state.segment ≡ Some s → IsPlainName name
    → cells_of (with_local_record [] 0x4E (Formula 0xEB 2 0 (expression_text (Leaf (expression.Named 0x82 name))) ∷ []) s) ≤ greatest_length s.class
    → IsStep state (line_of 0 number (said_text (WeakIs name))) (Ok (in_segment (with_local_record [] 0x4E (Formula 0xEB 2 0 (expression_text (Leaf (expression.Named 0x82 name))) ∷ [])) state))
unfolding said_text elements.kind_at tokens.digits_at elements.element_pieces records_after
weakly_step state s number name here is room =
    dc_step state s number (quoted_value (codes "S") name) (record { repeat = elements.Once; value = elements.Weak (name ∷ []) }) (Formula 0xEB 2 0 (expression_text (Leaf (expression.Named 0x82 name))) ∷ []) here
    (refl, (refl, ink_push name (codes "'") (name_ink name is) (refl, tt)))
    (record {
      after_repeat = quoted_value (codes "S") name;
      kind = elements.WeakReferences;
      after_quote = name ++ codes "'";
      repeat = (refl, refl);
      of_kind = refl;
      value = (name, name ∷ [], closed_found name [] (name_quote name is), whole_name name is, refl);
    }) refl room
