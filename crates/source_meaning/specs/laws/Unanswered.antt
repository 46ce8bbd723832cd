-- Why no source with macro files is without an answer: what a text means is a matter of its parse, of which there is one or none, so each
-- lemma here says that something isn't without an answer.
use Rattle.std.proofs.Common.{◌≡◌, ◌⊎◌, inl, inr, ℕ, ◌<◌, ◌≤◌, Bool, true, false, leb, List, [], ◌∷◌, ◌++◌, length, Option, Some, None, Ok, Err, refl, ap, subst}
use Rattle.std.specs.List.{list_any}
use Rattle.std.proofs.lemmas.Bool.{leb-true, leb-false}
use Rattle.omf_format.specs.Field.{◌>>=◌}
use Rattle.omf_format.specs.Expression.{Tree}
use Rattle.omf_format.specs.Record.{End, Using}
use Rattle.orca_meaning.specs.declared.mnemonics.Mnemonic.{Mnemonic}
use Rattle.orca_meaning.specs.Formula.{has_large}
use Rattle.orca_meaning.specs.Line.{Line, part}
use Rattle.orca_meaning.specs.Operand.{Meaning, IsOperand, AreShallow}
use Rattle.macro_meaning.specs.Expansion.{IsExpanded}
use Rattle.macro_meaning.specs.laws.Unanswered as expansion
use Rattle.asm_meaning.specs.declared.directives.Directive.TheVariants as directives
use Rattle.asm_meaning.specs.declared.directives.Operation.{Operation}
use Rattle.asm_meaning.specs.declared.directives.Operation.TheVariants.{Instruct, Direct}
use Rattle.asm_meaning.specs.declared.faults.AsmCause.{AsmCause}
use Rattle.asm_meaning.specs.declared.faults.AsmCause.TheVariants.{UnknownOperation, OutsideSegment, BadOperand, BadNumber}
use Rattle.asm_meaning.specs.Answer.{Answer}
use Rattle.asm_meaning.specs.Elements.{Element, IsList, list_pieces}
use Rattle.asm_meaning.specs.Formulas.{IsFormula}
use Rattle.asm_meaning.specs.Instruction.{instruction}
use Rattle.asm_meaning.specs.Operations.{operation_of}
use Rattle.asm_meaning.specs.Pieces.{records_of}
use Rattle.asm_meaning.specs.State.{StartedSegment, State, start, state_after_end, within_length}
use Rattle.asm_meaning.specs.Statement.{following_here, is_misplaced, label_of, IsOperandOf, Good, Bad, Large, name_of, constants_of, equating, IsMove, marking, IsDone, IsStep}
use Rattle.asm_meaning.specs.laws.Steps.{equating_global, spacing, align_state, moving, kinding, IsMoveText, beginning, turning, entering, IsPlaced, IsKnown}
use Rattle.asm_meaning.specs.Object.{object_text, most_bytes, AreSteps}
use Rattle.source_meaning.specs.Object.{HasLines, InExpansion, InLine, InSegment, InLength}
use Rattle.source_meaning.specs.ObjectLaws.{NoneUnanswered}

-- ---- operands

a_formula : (text : List ℕ) → ((found : Option Tree) → IsFormula text found → ⊥) → ⊥
a_formula text go = go None (λ tree means. go (Some tree) means)

a_list : (text : List ℕ) → ((found : Option (List Element)) → IsList text found → ⊥) → ⊥
a_list text go = go None (λ elements are. go (Some elements) are)

a_move : (o : Option StartedSegment) (text : List ℕ) → ((found : Option Tree) → IsMove o text found → ⊥) → ⊥
a_move None text go = a_formula text go
a_move (Some s) text go = by_text (following_here text) go
  where
    by_text : (o : Option (List ℕ)) → ((found : Option Tree) → IsMoveText o found → ⊥) → ⊥
    by_text None go = go None refl
    by_text (Some following) go = a_formula following go

an_operand : (m : Mnemonic) (text : List ℕ) → ((answer : Answer Meaning) → IsOperandOf m text answer → ⊥) → ⊥
an_operand m text go = go (Err BadOperand) (Bad (λ meaning is shallow. by_numbers meaning is shallow (list_any has_large meaning.trees) refl) refl)
  where
    by_numbers : (meaning : Meaning) → IsOperand (Some m) text meaning → AreShallow (Some m) meaning.trees → (b : Bool) → list_any has_large meaning.trees ≡ b → ⊥
    by_numbers meaning is shallow true large = go (Err BadNumber) (Large (record { meaning = meaning; is = is; shallow = shallow; large = large }) refl)
    by_numbers meaning is shallow false small = go (Ok meaning) (Good meaning (record { is = is; shallow = shallow; small = small }) refl)

-- ---- statements

a_statement : (state : State) (line : Line) (operation : Operation) (label : Answer (List ℕ)) (text : List ℕ) → ((answer : Answer State) → IsDone state line operation label text answer → ⊥) → ⊥
unfolding IsDone
a_statement state line (Instruct m) label text go =
    an_operand m text (λ operand is.
    go (marking state 0x4D label (operand >>= instruction (constants_of state) state.widths m >>= λ pieces. Ok (records_of pieces))) (operand, is, refl))
a_statement state line (Direct (directives.Begin class)) label text go = go (beginning state line class label text) refl
a_statement state line (Direct directives.End) label text go = go (marking state 0x4E label (Ok (End ∷ [])) >>= λ left. Ok (state_after_end left)) refl
a_statement state line (Direct directives.Entry) label text go = go (entering state label) refl
a_statement state line (Direct directives.Using) label text go = go (marking state 0x4E label (name_of text >>= λ name. Ok (Using name ∷ []))) refl
a_statement state line (Direct directives.Equ) label text go = a_formula text (λ found is. go (equating state false label found) (found, is, refl))
a_statement state line (Direct directives.Gequ) label text go = a_formula text (λ found is. go (equating_global state state.segment label found) (found, is, refl))
a_statement state line (Direct directives.Constants) label text go =
    a_list text (λ found is. go (marking state 0x4E label (list_pieces (constants_of state) state.msb found >>= λ pieces. Ok (records_of pieces))) (found, is, refl))
a_statement state line (Direct directives.Space) label text go = a_formula text (λ found is. go (spacing state label found) (found, is, refl))
a_statement state line (Direct directives.Align) label text go = a_formula text (λ found is. go (align_state state label found) (found, is, refl))
a_statement state line (Direct directives.Org) label text go = a_move state.segment text (λ found is. go (moving state label found) (found, is, refl))
a_statement state line (Direct directives.Kind) label text go = a_formula text (λ found is. go (kinding state label found) (found, is, refl))
a_statement state line (Direct (directives.Turn switch)) label text go = go (turning state switch label text) refl
a_statement state line (Direct directives.Nothing) label text go = go (marking state 0x4E label (Ok [])) refl
a_statement state line (Direct directives.Ignored) label text go = go (marking state 0x4E label (Ok [])) refl

a_step : (state : State) (line : Line) → ((answer : Answer State) → IsStep state line answer → ⊥) → ⊥
a_step state line go = by_operation (operation_of (part line.text line.fields.operation)) go
  where
    label : List ℕ
    label = part line.text line.fields.label

    operand : List ℕ
    operand = part line.text line.fields.operand

    by_place : (operation : Operation) (misplaced : Bool) → ((answer : Answer State) → IsPlaced state line operation label operand misplaced answer → ⊥) → ⊥
    by_place operation true go = go (Err OutsideSegment) refl
    by_place operation false go =
        a_statement state line operation (label_of state operation label) operand (λ left is. go (left >>= within_length) (left, is, refl))

    by_operation : (o : Option Operation) → ((answer : Answer State) → IsKnown state line o label operand answer → ⊥) → ⊥
    by_operation None go = go (Err UnknownOperation) refl
    by_operation (Some operation) go = by_place operation (is_misplaced state.segment operation label operand) go

-- ---- lines

-- a line with a fault after lines that have none
record StopsAt (state : State) (lines : List Line) : Type 0 where
  before : List Line
  following : List Line
  line : Line
  cause : AsmCause
  last : State
  parts : lines ≡ before ++ line ∷ following
  steps : AreSteps state before last
  wrong : IsStep last line (Err cause)

-- the lines leave something, or one of them has a fault
all_steps : (state : State) (lines : List Line) → ((last : State) → AreSteps state lines last → ⊥) → (StopsAt state lines → ⊥) → ⊥
all_steps state [] go stop = go state refl
all_steps state (line ∷ lines) go stop = a_step state line (by_answer (λ next on off. all_steps next lines on off))
  where
    by_answer : ((next : State) → ((last : State) → AreSteps next lines last → ⊥) → (StopsAt next lines → ⊥) → ⊥) → (answer : Answer State) → IsStep state line answer → ⊥
    by_answer following (Ok next) is =
        following next (λ last steps. go last (next, is, steps))
        (λ s. stop (record { before = line ∷ s.before; following = s.following; line = s.line; cause = s.cause; last = s.last; parts = ap (λ (l : List Line). line ∷ l) s.parts; steps = (next, is, s.steps); wrong = s.wrong }))
    by_answer following (Err cause) is = stop (record { before = []; following = lines; line = line; cause = cause; last = state; parts = refl; steps = refl; wrong = is })

-- ---- sources

short_or_long : (n most : ℕ) → (n ≤ most) ⊎ (most < n)
short_or_long n most = by_test (leb n most) refl
  where
    by_test : (b : Bool) → leb n most ≡ b → (n ≤ most) ⊎ (most < n)
    by_test true e = inl (leb-true n most e)
    by_test false e = inr (leb-false n most e)

pub none_unanswered : NoneUnanswered
none_unanswered source macros no_object no_fault =
    expansion.none_unanswered source macros by_lines (λ found is. no_fault _ (InExpansion found is refl))
  where
    by_length : (last : State) → HasLines source macros last → last.segment ≡ None → (length (object_text last.ended) ≤ most_bytes) ⊎ (most_bytes < length (object_text last.ended)) → ⊥
    by_length last has ended (inl fits) = no_object (object_text last.ended) (record { last = last; has = has; ended = ended; text = refl; fits = fits })
    by_length last has ended (inr long) = no_fault _ (InLength last has ended long refl)

    by_segment : (last : State) → HasLines source macros last → (o : Option StartedSegment) → last.segment ≡ o → ⊥
    by_segment last has None is = by_length last has is (short_or_long (length (object_text last.ended)) most_bytes)
    by_segment last has (Some s) is = no_fault _ (InSegment last s has is refl)

    by_lines : (lines : List Line) → IsExpanded source macros lines → ⊥
    by_lines lines expanded =
        all_steps start lines (λ last steps. by_segment last (record { lines = lines; expanded = expanded; steps = steps }) last.segment refl)
        (λ s. no_fault _ (InLine s.line s.cause (record { before = s.before; following = s.following; last = s.last; expanded = subst (IsExpanded source macros) s.parts expanded; steps = s.steps; wrong = s.wrong }) refl))
