-- The law on one line, for some of the lines: as the assembler reads it, it gives what it was written for.
use Rattle.std.proofs.Common.{◌≡◌, ℕ, ◌^◌, ◌<◌, ◌≤◌, Bool, true, false, List, [], ◌∷◌, Option, Some, Ok, refl, sym, ap, subst, ◌∙◌, arith, append-nil}
use Rattle.std.specs.Prelude.{codes, ◌==◌, ◌||◌}
use Rattle.std.proofs.lemmas.Bool.{le-ltb, lt-leb, eqb-true}
use Rattle.omf_format.specs.Expression as expression
use Rattle.omf_format.specs.Expression.{Leaf}
use Rattle.omf_format.specs.Record.{Space, Const}
use Rattle.omf_base.specs.Digits.{hexadecimal}
use Rattle.orca_meaning.specs.declared.forms.OperandUse.{OperandUse}
use Rattle.orca_meaning.specs.Operation as operations
use Rattle.orca_meaning.specs.Operation.{operation_use}
use Rattle.orca_meaning.specs.Token as tokens
use Rattle.orca_meaning.specs.Characters.{is_blank}
use Rattle.orca_meaning.specs.Formula.{MeansAt}
use Rattle.orca_meaning.specs.declared.operators.Operands.TheVariants.{Labels}
use Rattle.std.specs.Char.{digit_value}
use Rattle.orca_meaning.specs.Line.{Line, line_of, part}
use Rattle.asm_meaning.specs.declared.directives.Directive.TheVariants as directives
use Rattle.asm_meaning.specs.declared.directives.Operation.{Operation}
use Rattle.asm_meaning.specs.declared.directives.Operation.TheVariants.{Instruct, Direct}
use Rattle.asm_meaning.specs.Answer.{Answer}
use Rattle.asm_meaning.specs.Constant as constant
use Rattle.asm_meaning.specs.Formulas as formulas
use Rattle.asm_meaning.specs.Formulas.{IsFormula}
use Rattle.asm_meaning.specs.Operations as asm_operations
use Rattle.asm_meaning.specs.Operations.{operation_of}
use Rattle.asm_meaning.specs.State.{State, StartedSegment, cells_of, greatest_length, with_local_record, in_segment, within_length}
use Rattle.asm_meaning.specs.laws.Steps.{is_too_long, IsKnown, IsPlaced}
use Rattle.asm_meaning.specs.Statement as statement
use Rattle.std.specs.Option.{option_map}
use Rattle.asm_meaning.specs.Statement.{IsDone, begins_segment, label_of, IsStep, is_misplaced, number_in}
use Rattle.list_laws.specs.laws.LineText.{IsLabelFront, IsOperation, HasNoBlank, IsTaken, laid}
use Rattle.list_meaning.specs.Listed.{statement_text}
use Rattle.list_laws.specs.laws.Numbers.{number_means, hexadecimal_is}
use Rattle.list_meaning.specs.Listed.{number_text}
use Rattle.list_laws.specs.laws.Spelled.{spelled}
use Rattle.orca_meaning.specs.declared.forms.OperandUse.TheVariants.{Never, Accumulator, Signature, Always}
use Rattle.orca_meaning.specs.declared.forms.Form.TheVariants as forms
use Rattle.orca_meaning.specs.declared.forms.Prefix.TheVariants.{Bare}
use Rattle.orca_meaning.specs.declared.mnemonics.Mnemonic.{Mnemonic}
use Rattle.orca_meaning.specs.declared.modes.Mode.TheVariants.{Implied}
use Rattle.orca_meaning.specs.Operation.{mnemonic_of, has_mode}
use Rattle.orca_meaning.specs.Operand.{Meaning, IsMissing}
use Rattle.orca_meaning.specs.Length.{length_of}
use Rattle.omf_format.specs.Field.{◌>>=◌}
use Rattle.asm_meaning.specs.Constant.{Constants}
use Rattle.asm_meaning.specs.Instruction.{Widths, instruction, modes_of_form, modes_of, kind_of, without_amount, operand_bytes, opcode_in}
use Rattle.asm_meaning.specs.Pieces.{records_of, records_after}
use Rattle.asm_meaning.specs.Statement.{IsOperandOf, Good, constants_of}
use Rattle.list_meaning.specs.Listed as listed
use Rattle.list_meaning.specs.Listed.{Ds, Instructs, said_text, spelling_of}

-- a line of a listing is the statement of its three fields
pub step_of : (state : State) (number : ℕ) (label operation operand : List ℕ) (op : Operation) (answer : Answer State)
    → IsLabelFront label → IsOperation operation → HasNoBlank operand → IsTaken (operation_use operation) operand → operation_of operation ≡ Some op
    → IsPlaced state (line_of 0 number (statement_text label operation operand)) op label operand (is_misplaced state.segment op label operand) answer
    → IsStep state (line_of 0 number (statement_text label operation operand)) answer
step_of state number label operation operand op answer front named ink taken is placed =
    let fields = laid label operation operand front named ink taken in
    let line : Line = line_of 0 number (statement_text label operation operand) in
    let known : IsKnown state line (operation_of (part line.text line.fields.operation)) (part line.text line.fields.label) (part line.text line.fields.operand) answer =
    rw (fields.label_is, fields.operation_is, fields.operand_is, is) placed in
    known

-- a statement in the open segment, which isn't too long after it
pub fits_in : (state : State) (s : StartedSegment) (change : StartedSegment → StartedSegment) → state.segment ≡ Some s → cells_of (change s) ≤ greatest_length (change s).class
    → within_length (in_segment change state) ≡ Ok (in_segment change state)
fits_in state s change here room =
    let same : is_too_long (option_map change state.segment) ≡ false = ap (λ (o : Option StartedSegment). is_too_long (option_map change o)) here ∙ le-ltb (greatest_length (change s).class) (cells_of (change s)) room in
    rw same refl

pub inside : (state : State) (s : StartedSegment) (line : Line) (op : Operation) (label text : List ℕ) (change : StartedSegment → StartedSegment) → state.segment ≡ Some s → begins_segment op ≡ false
    → IsDone state line op (label_of state op label) text (Ok (in_segment change state)) → cells_of (change s) ≤ greatest_length (change s).class
    → IsPlaced state line op label text (is_misplaced state.segment op label text) (Ok (in_segment change state))
inside state s line op label text change here begins done room =
    subst (λ (o : Option StartedSegment). IsPlaced state line op label text (is_misplaced o op label text) (Ok (in_segment change state))) (sym here)
    (subst (λ (b : Bool). IsPlaced state line op label text b (Ok (in_segment change state))) (sym begins)
    (Ok (in_segment change state), done, sym (fits_in state s change here room)))

pub operation_is : (m : Mnemonic) → operation_of (spelling_of m) ≡ Some (Instruct m)
unfolding operation_of
operation_is m = by (spelling_of m) (spelled m).named (spelled m).read
  where
    by : (text : List ℕ) → IsOperation text → mnemonic_of text ≡ Some m → operation_of text ≡ Some (Instruct m)
    by [] named read = absurd named
    by (byte ∷ text) named read = rw read refl

-- ---- DS

pub ink_of : (d : ℕ) → digit_value d < 16 → is_blank d ≡ false
ink_of d is = by (d == 0x20) (d == 0x09) refl refl
  where
    no_space : digit_value 0x20 < 16 → ⊥
    no_space less = omega (arith, less)

    no_tab : digit_value 0x09 < 16 → ⊥
    no_tab less = omega (arith, less)

    by : (a b : Bool) → (d == 0x20) ≡ a → (d == 0x09) ≡ b → (a || b) ≡ false
    by true b e f = absurd (no_space (subst (λ (x : ℕ). digit_value x < 16) (eqb-true d 0x20 e) is))
    by false true e f = absurd (no_tab (subst (λ (x : ℕ). digit_value x < 16) (eqb-true d 0x09 f) is))
    by false false e f = refl

pub digits_ink : (ds : List ℕ) → Rattle.std.specs.Str.Parse.AllDigits 16 ds → HasNoBlank ds
digits_ink [] are = tt
digits_ink (d ∷ ds) are = (ink_of d are.0, digits_ink ds are.1)

pub number_ink : (places n : ℕ) → n < 2 ^ 32 → HasNoBlank (number_text places n)
number_ink places n fits = (refl, digits_ink (hexadecimal places n) (hexadecimal_is places n fits).0.1)

pub number_formula : (places n : ℕ) → n < 2 ^ 32 → IsFormula (number_text places n) (Some (Leaf (expression.Constant n)))
unfolding tokens.operator_at tokens.spelled_at
number_formula places n fits = subst (λ (text : List ℕ). MeansAt Labels text (Leaf (expression.Constant n)) []) (append-nil (number_text places n)) (number_means places n [] fits tt refl)

pub number_there : (state : State) (n : ℕ) → n < 2 ^ 32 → number_in state (Some (Leaf (expression.Constant n))) ≡ Ok n
unfolding formulas.checked_formula constant.known_value
number_there state n fits = rw (lt-leb (2 ^ 32) n fits) refl

pub spaces_step : (state : State) (s : StartedSegment) (number n : ℕ) → state.segment ≡ Some s → n < 2 ^ 32 → cells_of (with_local_record [] 0x4E (Space n ∷ []) s) ≤ greatest_length s.class
    → IsStep state (line_of 0 number (said_text (Ds n))) (Ok (in_segment (with_local_record [] 0x4E (Space n ∷ [])) state))
unfolding said_text statement.IsDone operation_of operations.operation_use operations.mnemonic_of operations.value_of_spelling operations.mnemonics operations.without_operand asm_operations.directives asm_operations.ignored_directives
spaces_step state s number n here fits room =
    let left = in_segment (with_local_record [] 0x4E (Space n ∷ [])) state in
    step_of state number [] (codes "DS") (number_text 8 n) (Direct directives.Space) (Ok left) tt (refl, (refl, tt)) (number_ink 8 n fits) tt refl
    (inside state s (line_of 0 number (statement_text [] (codes "DS") (number_text 8 n))) (Direct directives.Space) [] (number_text 8 n) (with_local_record [] 0x4E (Space n ∷ [])) here refl
    (Some (Leaf (expression.Constant n)), number_formula 8 n fits, rw (number_there state n fits) refl) room)

-- ---- an instruction without operand

taken_none : (way : OperandUse) → IsTaken way []
taken_none Never = refl
taken_none Accumulator = refl
taken_none Signature = refl
taken_none Always = tt

no_operand : Meaning
no_operand = record { form = forms.Nothing; prefix = Bare; trees = [] }

missing : (m : Mnemonic) → IsOperandOf m [] (Ok no_operand)
unfolding no_operand
missing m = Good (record { form = forms.Nothing; prefix = Bare; trees = [] }) (record { is = IsMissing refl refl; shallow = tt; small = refl }) refl

implied_gives : (constants : Constants) (widths : Widths) (m : Mnemonic) → has_mode m Implied ≡ true
    → (instruction constants widths m no_operand >>= λ pieces. Ok (records_of pieces)) ≡ Ok (Const (opcode_in m Implied ∷ []) ∷ [])
unfolding no_operand instruction modes_of_form modes_of kind_of without_amount operand_bytes length_of records_after
implied_gives constants widths m has = rw (instruction, has) refl

pub implied_step : (state : State) (s : StartedSegment) (number : ℕ) (m : Mnemonic) → state.segment ≡ Some s → has_mode m Implied ≡ true
    → cells_of (with_local_record [] 0x4D (Const (opcode_in m Implied ∷ []) ∷ []) s) ≤ greatest_length s.class
    → IsStep state (line_of 0 number (said_text (Instructs m Implied listed.None'))) (Ok (in_segment (with_local_record [] 0x4D (Const (opcode_in m Implied ∷ []) ∷ [])) state))
unfolding said_text IsDone operation_of listed.shape_of
implied_step state s number m here has room =
    step_of state number [] (spelling_of m) [] (Instruct m) (Ok (in_segment (with_local_record [] 0x4D (Const (opcode_in m Implied ∷ []) ∷ [])) state)) tt (spelled m).named tt (taken_none (operation_use (spelling_of m))) (operation_is m)
    (inside state s (line_of 0 number (statement_text [] (spelling_of m) [])) (Instruct m) [] [] (with_local_record [] 0x4D (Const (opcode_in m Implied ∷ []) ∷ [])) here refl
    (Ok no_operand, missing m, rw (implied_gives (constants_of state) state.widths m has) refl) room)
