-- What a line leaves, or its first fault.
use Rattle.std.proofs.Common.{◌≡◌, ℕ, Bool, true, false, List, [], ◌∷◌, Option, Some, None, Result, Ok, Err, refl, sym, subst}
use Rattle.orca_meaning.specs.declared.mnemonics.Mnemonic.{Mnemonic}
use Rattle.orca_meaning.specs.Line.{Line, part}
use Rattle.std.specs.Prelude.{is_some}
use Rattle.std.specs.Option.{option_map, option_or}
use Rattle.orca_meaning.specs.Characters.{folded}
use Rattle.orca_meaning.specs.Operation.{mnemonic_of, value_of_spelling}
use Rattle.asm_meaning.specs.declared.directives.Directive.{Directive}
use Rattle.asm_meaning.specs.declared.directives.Directive.TheVariants as directives
use Rattle.asm_meaning.specs.declared.directives.Operation.{Operation}
use Rattle.asm_meaning.specs.declared.directives.Operation.TheVariants.{Instruct, Direct}
use Rattle.asm_meaning.specs.declared.faults.AsmCause.{AsmCause}
use Rattle.asm_meaning.specs.Answer.{Answer}
use Rattle.asm_meaning.specs.Operations.{operation_of, directives}
use Rattle.asm_meaning.specs.State.{State, StartedSegment}
use Rattle.asm_meaning.specs.Statement.{IsDone, IsStep, label_of, is_misplaced, equating}
use Rattle.asm_meaning.specs.laws.Steps.{IsKnown, IsPlaced, equating_global}
use Rattle.orca_object.specs.declared.state.AsmState.{AsmState}
use Rattle.orca_object.specs.DoingView.{IsEquated, IsConstant}
use Rattle.orca_object.specs.StateView.{Leaves, IsLeft}
use Rattle.orca_object.specs.StepView.{IsJudged, IsPlacedAs, Steps}

-- ---- EQU and GEQU

pub equ_left : {U : Type 0} (state : State) (line : Line) (label : Answer (List ℕ)) (text : List ℕ) (done : Result U AsmCause) (k : AsmState) → IsEquated state false label text done k → IsLeft state line (Direct directives.Equ) label text done k
unfolding IsDone
equ_left state line label text done k is = record { left = equating state false label is.found; is = (is.found, is.formula, refl); leaves = is.leaves }

some_of : (found : Option StartedSegment) (b : Bool) → b ≡ is_some found → b ≡ true → (s : StartedSegment) × (found ≡ Some s)
some_of None b is e = absurd cc
some_of (Some s) b is e = (s, refl)

none_of : (found : Option StartedSegment) (b : Bool) → b ≡ is_some found → b ≡ false → found ≡ None
none_of None b is e = refl
none_of (Some s) b is e = absurd cc

pub gequ_inside : {U : Type 0} (state : State) (line : Line) (label : Answer (List ℕ)) (text : List ℕ) (done : Result U AsmCause) (k : AsmState) (inside : Bool) → inside ≡ is_some state.segment → inside ≡ true
    → IsEquated state true label text done k → IsLeft state line (Direct directives.Gequ) label text done k
unfolding IsDone
gequ_inside state line label text done k inside test is_in is =
    let some = some_of state.segment inside test is_in in
    record {
      left = equating_global state state.segment label is.found;
      is = (is.found, is.formula, refl);
      leaves = subst (λ (o : Option StartedSegment). Leaves done k (equating_global state o label is.found)) (sym some.1) is.leaves;
    }

pub gequ_outside : {U : Type 0} (state : State) (line : Line) (label : Answer (List ℕ)) (text : List ℕ) (done : Result U AsmCause) (k : AsmState) (inside : Bool) → inside ≡ is_some state.segment → inside ≡ false
    → IsConstant state label text done k → IsLeft state line (Direct directives.Gequ) label text done k
unfolding IsDone
gequ_outside state line label text done k inside test is_out is = record {
  left = equating_global state state.segment label is.found;
  is = (is.found, is.formula, refl);
  leaves = subst (λ (o : Option StartedSegment). Leaves done k (equating_global state o label is.found)) (sym (none_of state.segment inside test is_out)) is.leaves;
}

-- ---- the mnemonic of an instruction's line

pub instruct_is : (text : List ℕ) (m : Mnemonic) → operation_of text ≡ Some (Instruct m) → mnemonic_of text ≡ Some m
unfolding operation_of
instruct_is [] m e = absurd cc
instruct_is (byte ∷ text) m e = by_mnemonic (mnemonic_of (byte ∷ text)) (value_of_spelling (folded (byte ∷ text)) directives) e
  where
    same : (a b : Mnemonic) → Some (Instruct a) ≡ Some (Instruct b) → Some a ≡ Some b
    same a b e = cc

    by_directive : (d : Option Directive) → option_map Direct d ≡ Some (Instruct m) → ⊥
    by_directive None e = absurd cc
    by_directive (Some d) e = absurd cc

    by_mnemonic : (found : Option Mnemonic) (d : Option Directive) → option_or (option_map Instruct found) (option_map Direct d) ≡ Some (Instruct m) → found ≡ Some m
    by_mnemonic (Some n) d e = same n m e
    by_mnemonic None d e = absurd (by_directive d e)

-- ---- the length

-- ---- lines

abbrev at_step : State → Line → Option Operation → Answer State → Type 0
at_step state line o answer = IsKnown state line o (part line.text line.fields.label) (part line.text line.fields.operand) answer

judged_step : (state : State) (line : Line) (operation : Operation) (label : Answer (List ℕ)) (answer : Answer State) → operation_of (part line.text line.fields.operation) ≡ Some operation
    → is_misplaced state.segment operation (part line.text line.fields.label) (part line.text line.fields.operand) ≡ false → label ≡ label_of state operation (part line.text line.fields.label)
    → IsJudged state line operation label (part line.text line.fields.operand) answer → IsStep state line answer
judged_step state line operation label answer is right same judged =
    subst (λ (o : Option Operation). at_step state line o answer) (sym is)
    (subst (λ (b : Bool). IsPlaced state line operation (part line.text line.fields.label) (part line.text line.fields.operand) b answer) (sym right)
    (subst (λ (l : Answer (List ℕ)). IsJudged state line operation l (part line.text line.fields.operand) answer) same judged))

pub placed_step : {U : Type 0} (state : State) (line : Line) (operation : Operation) (label : Answer (List ℕ)) (done : Result U AsmCause) (k : AsmState) → operation_of (part line.text line.fields.operation) ≡ Some operation
    → is_misplaced state.segment operation (part line.text line.fields.label) (part line.text line.fields.operand) ≡ false → label ≡ label_of state operation (part line.text line.fields.label)
    → IsPlacedAs state line operation label (part line.text line.fields.operand) done k → Steps state line done k
placed_step state line operation label (Ok u) k is right same placed = (placed.0, judged_step state line operation label (Ok placed.0) is right same placed.1, placed.2)
placed_step state line operation label (Err cause) k is right same placed = judged_step state line operation label (Err cause) is right same placed
