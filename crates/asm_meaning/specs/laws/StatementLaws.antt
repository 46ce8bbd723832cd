-- A line leaves one thing: what an operand's text is, is determined, and so is all that follows from it.
use Rattle.std.proofs.Common.{◌≡◌, ℕ, Bool, true, false, List, [], ◌∷◌, Option, Some, None, Ok, refl, sym, ap, subst, ◌∙◌}
use Rattle.omf_format.specs.Field.{◌>>=◌}
use Rattle.omf_format.specs.Expression.{Tree}
use Rattle.orca_meaning.specs.declared.operators.Operands.TheVariants.{Labels}
use Rattle.orca_meaning.specs.declared.mnemonics.Mnemonic.{Mnemonic}
use Rattle.orca_meaning.specs.Formula.{has_large}
use Rattle.orca_meaning.specs.laws.FormulaLaws.{one_tree}
use Rattle.orca_meaning.specs.Line.{Line, part}
use Rattle.orca_meaning.specs.Operand.{Meaning, IsGoodOperand, HasBadNumber}
use Rattle.orca_meaning.specs.laws.OperandLaws.{one_operand}
use Rattle.orca_meaning.specs.Token.{digits_at, name_at, Found}
use Rattle.asm_meaning.specs.declared.directives.Directive.TheVariants as directives
use Rattle.asm_meaning.specs.Answer.{Answer}
use Rattle.asm_meaning.specs.Elements.{Repeat, Computed, ElementValue, Numbers, Fixed, Text, Asked, Weak, Element, ElementType, Number, Hexadecimal, Binary, Characters, References, WeakReferences, closed_at, text_at, bytes_of_digits, kind_at, AreNames, IsValueAt, after_parenthesis, IsElementAt, AreElements, IsList, list_pieces}
use Rattle.asm_meaning.specs.laws.Steps.{IsRepeatBy, IsMoveText, equating_global, spacing, align_state, moving, kinding, IsPlaced, IsKnown}
use Rattle.asm_meaning.specs.Formulas.{IsFormula, AreFormulas}
use Rattle.asm_meaning.specs.Instruction.{instruction}
use Rattle.asm_meaning.specs.declared.directives.Operation.{Operation}
use Rattle.asm_meaning.specs.declared.directives.Operation.TheVariants.{Instruct, Direct}
use Rattle.asm_meaning.specs.Operations.{operation_of}
use Rattle.asm_meaning.specs.Pieces.{records_of}
use Rattle.asm_meaning.specs.State.{StartedSegment, State, within_length}
use Rattle.asm_meaning.specs.Statement.{following_here, IsOperandOf, Good, Bad, Large, constants_of, IsMove, marking, equating, IsDone, IsStep, label_of, is_misplaced}

-- ---- found at the start of a text

pub same_some : {A : Type 0} (o : Option A) (a b : A) → o ≡ Some a → o ≡ Some b → a ≡ b
same_some o a b p q = let both : Some a ≡ Some b = sym p ∙ q in cc

pub same_found : {A : Type 0} (o : Found A) (a b : A) (r s : List ℕ) → o ≡ Some (a, r) → o ≡ Some (b, s) → (a ≡ b) × (r ≡ s)
same_found {A = A} o a b r s p q =
    let both = same_some o (a, r) (b, s) p q in
    (ap (λ (x : A × List ℕ). x.0) both, ap (λ (x : A × List ℕ). x.1) both)

pub same_after : (byte : ℕ) (r s : List ℕ) → byte ∷ r ≡ byte ∷ s → r ≡ s
same_after byte r s e = cc

not_comma : (r : List ℕ) → [] ≡ 0x2C ∷ r → ⊥
not_comma r e = absurd cc

-- ---- formulas

pub formula_once : (text : List ℕ) (a b : Option Tree) → IsFormula text a → IsFormula text b → a ≡ b
formula_once text None None p q = refl
formula_once text None (Some u) p q = absurd (p u q)
formula_once text (Some t) None p q = absurd (q t p)
formula_once text (Some t) (Some u) p q = ap (λ (x : Tree). Some x) (one_tree Labels text t u [] [] p q).0

pub formulas_once : (text : List ℕ) (a b : List Tree) → AreFormulas text a → AreFormulas text b → a ≡ b
formulas_once text [] b p q = absurd p
formulas_once text (t ∷ ts) [] p q = absurd q
formulas_once text (t ∷ []) (u ∷ []) p q = ap (λ (x : Tree). x ∷ []) (one_tree Labels text t u [] [] p q).0
formulas_once text (t ∷ []) (u ∷ v ∷ us) p q = absurd (not_comma q.0 (one_tree Labels text t u [] (0x2C ∷ q.0) p q.1).1)
formulas_once text (t ∷ v ∷ ts) (u ∷ []) p q = absurd (not_comma p.0 (one_tree Labels text u t [] (0x2C ∷ p.0) q p.1).1)
formulas_once text (t ∷ v ∷ ts) (u ∷ w ∷ us) p q =
    let first = one_tree Labels text t u (0x2C ∷ p.0) (0x2C ∷ q.0) p.1 q.1 in
    let following : p.0 ≡ q.0 = same_after 0x2C p.0 q.0 first.1 in
    let rest : v ∷ ts ≡ w ∷ us = formulas_once p.0 (v ∷ ts) (w ∷ us) p.2 (subst (λ (x : List ℕ). AreFormulas x (w ∷ us)) (sym following) q.2) in
    ap (λ (x : Tree). x ∷ (v ∷ ts)) first.0 ∙ ap (λ (x : List Tree). u ∷ x) rest

-- ---- the operand of an instruction

-- a good operand isn't bad and has no number that is too large, and so on
pub operand_once : (m : Mnemonic) (text : List ℕ) (a b : Answer Meaning) → IsOperandOf m text a → IsOperandOf m text b → a ≡ b
operand_once m text a b (Good x p is) (Good y q is') = is ∙ ap (λ (z : Meaning). ok z) (one_operand (Some m) text x y p.is q.is) ∙ sym is'
  where
    ok : Meaning → Answer Meaning
    ok z = Ok z
operand_once m text a b (Good x p is) (Bad q is') = absurd (q x p.is p.shallow)
operand_once m text a b (Good x p is) (Large q is') = absurd (small_and_large (Some m) text x p q)
  where
    small_and_large : (m : Option Mnemonic) (text : List ℕ) (x : Meaning) → IsGoodOperand m text x → HasBadNumber m text → ⊥
    small_and_large m text x p q =
        let same : x ≡ q.meaning = one_operand m text x q.meaning p.is q.is in
        let large = subst (λ (z : Meaning). Rattle.std.specs.List.list_any has_large z.trees ≡ true) (sym same) q.large in
        let clash : false ≡ true = sym p.small ∙ large in absurd cc
operand_once m text a b (Bad p is) (Good y q is') = absurd (p y q.is q.shallow)
operand_once m text a b (Bad p is) (Bad q is') = is ∙ sym is'
operand_once m text a b (Bad p is) (Large q is') = absurd (p q.meaning q.is q.shallow)
operand_once m text a b (Large p is) (Good y q is') =
    let same : y ≡ p.meaning = one_operand (Some m) text y p.meaning q.is p.is in
    let large = subst (λ (z : Meaning). Rattle.std.specs.List.list_any has_large z.trees ≡ true) (sym same) p.large in
    let clash : false ≡ true = sym q.small ∙ large in absurd cc
operand_once m text a b (Large p is) (Bad q is') = absurd (q p.meaning p.is p.shallow)
operand_once m text a b (Large p is) (Large q is') = is ∙ sym is'

-- ---- the elements of DC

names_once : (text : List ℕ) (a b : List (List ℕ)) → AreNames text a → AreNames text b → a ≡ b
names_once text [] b p q = absurd p
names_once text (x ∷ xs) [] p q = absurd q
names_once text (x ∷ []) (y ∷ []) p q = ap (λ (n : List ℕ). n ∷ []) (same_found (name_at text) x y [] [] p q).0
names_once text (x ∷ []) (y ∷ z ∷ ys) p q = absurd (not_comma q.0 (same_found (name_at text) x y [] (0x2C ∷ q.0) p q.1).1)
names_once text (x ∷ z ∷ xs) (y ∷ []) p q = absurd (not_comma p.0 (same_found (name_at text) y x [] (0x2C ∷ p.0) q p.1).1)
names_once text (x ∷ z ∷ xs) (y ∷ w ∷ ys) p q =
    let first = same_found (name_at text) x y (0x2C ∷ p.0) (0x2C ∷ q.0) p.1 q.1 in
    let following : p.0 ≡ q.0 = same_after 0x2C p.0 q.0 first.1 in
    let rest : z ∷ xs ≡ w ∷ ys = names_once p.0 (z ∷ xs) (w ∷ ys) p.2 (subst (λ (t : List ℕ). AreNames t (w ∷ ys)) (sym following) q.2) in
    ap (λ (n : List ℕ). n ∷ (z ∷ xs)) first.0 ∙ ap (λ (ns : List (List ℕ)). y ∷ ns) rest

-- a value of one type, and what follows it
abbrev pub SameValue : ElementValue → ElementValue → List ℕ → List ℕ → Type 0
SameValue v w r s = (v ≡ w) × (r ≡ s)

pub value_once : (kind : ElementType) (text : List ℕ) (v w : ElementValue) (r s : List ℕ) → IsValueAt kind text v r → IsValueAt kind text w s → SameValue v w r s
value_once (Number width) text v w r s p q =
    let inner = same_found (closed_at text) p.0 q.0 r s p.2 q.2 in
    let trees = formulas_once p.0 p.1 q.1 p.3 (subst (λ (t : List ℕ). AreFormulas t q.1) (sym inner.0) q.3) in
    (p.4 ∙ ap (λ (ts : List Tree). Numbers width ts) trees ∙ sym q.4, inner.1)
value_once Hexadecimal text v w r s p q =
    let inner = same_found (closed_at text) p.0 q.0 r s p.2 q.2 in
    let bytes = same_some (bytes_of_digits 16 2 p.0) p.1 q.1 p.3 (subst (λ (t : List ℕ). bytes_of_digits 16 2 t ≡ Some q.1) (sym inner.0) q.3) in
    (p.4 ∙ ap (λ (b : List ℕ). Fixed b) bytes ∙ sym q.4, inner.1)
value_once Binary text v w r s p q =
    let inner = same_found (closed_at text) p.0 q.0 r s p.2 q.2 in
    let bytes = same_some (bytes_of_digits 2 8 p.0) p.1 q.1 p.3 (subst (λ (t : List ℕ). bytes_of_digits 2 8 t ≡ Some q.1) (sym inner.0) q.3) in
    (p.4 ∙ ap (λ (b : List ℕ). Fixed b) bytes ∙ sym q.4, inner.1)
value_once Characters text v w r s p q =
    let bytes = same_found (text_at text) p.0 q.0 r s p.1 q.1 in
    (p.2 ∙ ap (λ (b : List ℕ). Text b) bytes.0 ∙ sym q.2, bytes.1)
value_once References text v w r s p q =
    let inner = same_found (closed_at text) p.0 q.0 r s p.2 q.2 in
    let names = names_once p.0 p.1 q.1 p.3 (subst (λ (t : List ℕ). AreNames t q.1) (sym inner.0) q.3) in
    (p.4 ∙ ap (λ (n : List (List ℕ)). Asked n) names ∙ sym q.4, inner.1)
value_once WeakReferences text v w r s p q =
    let inner = same_found (closed_at text) p.0 q.0 r s p.2 q.2 in
    let names = names_once p.0 p.1 q.1 p.3 (subst (λ (t : List ℕ). AreNames t q.1) (sym inner.0) q.3) in
    (p.4 ∙ ap (λ (n : List (List ℕ)). Weak n) names ∙ sym q.4, inner.1)

abbrev pub SameRepeat : Repeat → Repeat → List ℕ → List ℕ → Type 0
SameRepeat v w r s = (v ≡ w) × (r ≡ s)

pub repeat_once : (o : Option (List ℕ)) (digits : Found ℕ) (text : List ℕ) (v w : Repeat) (r s : List ℕ) → IsRepeatBy o digits text v r → IsRepeatBy o digits text w s → SameRepeat v w r s
repeat_once (Some following) digits text v w r s p q =
    let same = one_tree Labels following p.0 q.0 (0x29 ∷ r) (0x29 ∷ s) p.1 q.1 in
    (p.2 ∙ ap (λ (t : Tree). Computed t) same.0 ∙ sym q.2, same_after 0x29 r s same.1)
repeat_once None (Some found) text v w r s p q = (p.0 ∙ sym q.0, p.1 ∙ sym q.1)
repeat_once None None text v w r s p q = (p.0 ∙ sym q.0, p.1 ∙ sym q.1)

made : Repeat → ElementValue → Element
made repeat value = record { repeat = repeat; value = value }

pub element_once : (text : List ℕ) (a b : Element) (r s : List ℕ) → IsElementAt text a r → IsElementAt text b s → (a ≡ b) × (r ≡ s)
unfolding made
element_once text a b r s p q =
    let repeat = repeat_once (after_parenthesis text) (digits_at 10 text) text a.repeat b.repeat p.after_repeat q.after_repeat p.repeat q.repeat in
    let kind = same_found (kind_at p.after_repeat) p.kind q.kind (0x27 ∷ p.after_quote) (0x27 ∷ q.after_quote) p.of_kind
    (subst (λ (t : List ℕ). kind_at t ≡ Some (q.kind, 0x27 ∷ q.after_quote)) (sym repeat.1) q.of_kind) in
    let following : p.after_quote ≡ q.after_quote = same_after 0x27 p.after_quote q.after_quote kind.1 in
    let there = subst (λ (t : List ℕ). IsValueAt p.kind t b.value s) (sym following) (subst (λ (k : ElementType). IsValueAt k q.after_quote b.value s) (sym kind.0) q.value) in
    let value = value_once p.kind p.after_quote a.value b.value r s p.value there in
    (ap (λ (x : Repeat). made x a.value) repeat.0 ∙ ap (λ (x : ElementValue). made b.repeat x) value.0, value.1)

pub elements_once : (text : List ℕ) (a b : List Element) → AreElements text a → AreElements text b → a ≡ b
elements_once text [] b p q = absurd p
elements_once text (x ∷ xs) [] p q = absurd q
elements_once text (x ∷ []) (y ∷ []) p q = ap (λ (e : Element). e ∷ []) (element_once text x y [] [] p q).0
elements_once text (x ∷ []) (y ∷ z ∷ ys) p q = absurd (not_comma q.0 (element_once text x y [] (0x2C ∷ q.0) p q.1).1)
elements_once text (x ∷ z ∷ xs) (y ∷ []) p q = absurd (not_comma p.0 (element_once text y x [] (0x2C ∷ p.0) q p.1).1)
elements_once text (x ∷ z ∷ xs) (y ∷ w ∷ ys) p q =
    let first = element_once text x y (0x2C ∷ p.0) (0x2C ∷ q.0) p.1 q.1 in
    let following : p.0 ≡ q.0 = same_after 0x2C p.0 q.0 first.1 in
    let rest : z ∷ xs ≡ w ∷ ys = elements_once p.0 (z ∷ xs) (w ∷ ys) p.2 (subst (λ (t : List ℕ). AreElements t (w ∷ ys)) (sym following) q.2) in
    ap (λ (e : Element). e ∷ (z ∷ xs)) first.0 ∙ ap (λ (es : List Element). y ∷ es) rest

pub list_once : (text : List ℕ) (a b : Option (List Element)) → IsList text a → IsList text b → a ≡ b
list_once text None None p q = refl
list_once text None (Some y) p q = absurd (p y q)
list_once text (Some x) None p q = absurd (q x p)
list_once text (Some x) (Some y) p q = ap (λ (e : List Element). Some e) (elements_once text x y p q)

-- ---- statements

move_once : (o : Option StartedSegment) (text : List ℕ) (a b : Option Tree) → IsMove o text a → IsMove o text b → a ≡ b
move_once None text a b p q = formula_once text a b p q
move_once (Some s) text a b p q = by_text (following_here text) p q
  where
    by_text : (o : Option (List ℕ)) → IsMoveText o a → IsMoveText o b → a ≡ b
    by_text None p q = p ∙ sym q
    by_text (Some following) p q = formula_once following a b p q

done_once : (state : State) (line : Line) (operation : Operation) (label : Answer (List ℕ)) (text : List ℕ) (a b : Answer State)
    → IsDone state line operation label text a → IsDone state line operation label text b → a ≡ b
unfolding IsDone
done_once state line (Instruct mnemonic) label text a b p q =
    let given : Answer Meaning → Answer State = λ x. marking state 0x4D label (x >>= instruction (constants_of state) state.widths mnemonic >>= λ pieces. Ok (records_of pieces)) in
    p.2 ∙ ap given (operand_once mnemonic text p.0 q.0 p.1 q.1) ∙ sym q.2
done_once state line (Direct (directives.Begin class)) label text a b p q = p ∙ sym q
done_once state line (Direct directives.End) label text a b p q = p ∙ sym q
done_once state line (Direct directives.Entry) label text a b p q = p ∙ sym q
done_once state line (Direct directives.Using) label text a b p q = p ∙ sym q
done_once state line (Direct directives.Equ) label text a b p q = p.2 ∙ ap (equating state false label) (formula_once text p.0 q.0 p.1 q.1) ∙ sym q.2
done_once state line (Direct directives.Gequ) label text a b p q = p.2 ∙ ap (equating_global state state.segment label) (formula_once text p.0 q.0 p.1 q.1) ∙ sym q.2
done_once state line (Direct directives.Constants) label text a b p q =
    let given : Option (List Element) → Answer State = λ x. marking state 0x4E label (list_pieces (constants_of state) state.msb x >>= λ pieces. Ok (records_of pieces)) in
    p.2 ∙ ap given (list_once text p.0 q.0 p.1 q.1) ∙ sym q.2
done_once state line (Direct directives.Space) label text a b p q = p.2 ∙ ap (spacing state label) (formula_once text p.0 q.0 p.1 q.1) ∙ sym q.2
done_once state line (Direct directives.Align) label text a b p q = p.2 ∙ ap (align_state state label) (formula_once text p.0 q.0 p.1 q.1) ∙ sym q.2
done_once state line (Direct directives.Org) label text a b p q = p.2 ∙ ap (moving state label) (move_once state.segment text p.0 q.0 p.1 q.1) ∙ sym q.2
done_once state line (Direct directives.Kind) label text a b p q = p.2 ∙ ap (kinding state label) (formula_once text p.0 q.0 p.1 q.1) ∙ sym q.2
done_once state line (Direct (directives.Turn switch)) label text a b p q = p ∙ sym q
done_once state line (Direct directives.Nothing) label text a b p q = p ∙ sym q
done_once state line (Direct directives.Ignored) label text a b p q = p ∙ sym q

-- a line leaves one thing
pub step_once : (state : State) (line : Line) (a b : Answer State) → IsStep state line a → IsStep state line b → a ≡ b
step_once state line a b p q =
    by_operation (operation_of (part line.text line.fields.operation)) (part line.text line.fields.label) (part line.text line.fields.operand) p q
  where
    by_place : (operation : Operation) (label text : List ℕ) (misplaced : Bool) → IsPlaced state line operation label text misplaced a → IsPlaced state line operation label text misplaced b → a ≡ b
    by_place operation label text true p q = p ∙ sym q
    by_place operation label text false p q =
        p.2 ∙ ap (λ (x : Answer State). x >>= within_length) (done_once state line operation (label_of state operation label) text p.0 q.0 p.1 q.1) ∙ sym q.2

    by_operation : (o : Option Operation) (label text : List ℕ) → IsKnown state line o label text a → IsKnown state line o label text b → a ≡ b
    by_operation None label text p q = p ∙ sym q
    by_operation (Some operation) label text p q = by_place operation label text (is_misplaced state.segment operation label text) p q
