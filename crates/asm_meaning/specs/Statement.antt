-- Statements: what each operation does (ORCA/M reference manual, "Assembler directives"; GS/OS Reference, appendix F), and
-- the first fault of one (the order is this project's own).
use Rattle.std.specs.Prelude.{is_some, ◌≡◌, ℕ, ◌-◌, ◌^◌, Bool, true, false, not, ◌||◌, ◌&&◌, ◌==◌, nat_lt, nat_le, List, [], ◌∷◌, ◌++◌, length, replicate, codes, bytes_eq, Option, Some, None, Ok, Err, if◌then◌else◌}
use Rattle.std.specs.Int.{is_power_of_two}
use Rattle.std.specs.Option.{option_or}
use Rattle.omf_format.specs.declared.codes.TheConstants.{INSTRUCTION_LABEL, DIRECTIVE_LABEL}
use Rattle.omf_format.specs.Ascii as ascii
use Rattle.omf_format.specs.Field.{◌>>=◌}
use Rattle.omf_format.specs.Expression.{Tree, Leaf, Constant}
use Rattle.omf_format.specs.Header.{alignment_of, form_of, is_listed}
use Rattle.omf_format.specs.Record.{Record, End, Align, Org, Space, Using, Label, Equate}
use Rattle.orca_meaning.specs.declared.mnemonics.Mnemonic.{Mnemonic}
use Rattle.orca_meaning.specs.Characters.{folded, is_name}
use Rattle.orca_meaning.specs.Line.{Line, part}
use Rattle.orca_meaning.specs.Names.{with_name}
use Rattle.orca_meaning.specs.Operand.{Meaning, IsGoodOperand, IsBadOperand, HasBadNumber}
use Rattle.asm_meaning.specs.declared.directives.Directive.TheVariants as directives
use Rattle.asm_meaning.specs.declared.faults.AsmCause.TheVariants.{UnknownOperation, OutsideSegment, BadLabel, BadOperand, BadNumber, Duplicate, DoesNotFit}
use Rattle.asm_meaning.specs.Answer.{Answer, pair_or_earlier_fault}
use Rattle.asm_meaning.specs.Constant.{required_number, known_value, Constants, Amount, Known, Written, amount, tree_of_amount}
use Rattle.asm_meaning.specs.Elements.{Element, IsList, list_pieces}
use Rattle.asm_meaning.specs.Formulas.{IsFormula, formula_of, expression_text}
use Rattle.asm_meaning.specs.Instruction.{instruction}
use Rattle.asm_meaning.specs.declared.directives.Operation.{Operation}
use Rattle.asm_meaning.specs.declared.directives.Operation.TheVariants.{Instruct, Direct}
use Rattle.asm_meaning.specs.Operations.{operation_of}
use Rattle.asm_meaning.specs.Pieces.{records_of}
use Rattle.asm_meaning.specs.State.{StartedSegment, State, state_after_start, state_after_end, with_records, with_local_record, in_segment, within_length, with_switch_set}

-- ---- inside and outside of segments

-- what follows `*+` at the start, with which ORG moves the location counter
abbrev pub following_here : List ℕ → Option (List ℕ)
following_here [] = None
following_here (byte ∷ []) = None
following_here (byte ∷ next ∷ following) = if byte == ascii.star && next == ascii.plus then Some following else None

-- the line has a label
abbrev pub is_labelled : List ℕ → Bool
is_labelled [] = false
is_labelled (byte ∷ label) = true

-- Which statements must not be outside segments: those that give something to a segment, and those with a label that isn't
-- the name of a segment or of a GEQU.
abbrev pub needs_segment : Operation → List ℕ → List ℕ → Bool
needs_segment (Instruct mnemonic) label operand = true
needs_segment (Direct (directives.Begin class)) label operand = false
needs_segment (Direct directives.End) label operand = true
needs_segment (Direct directives.Entry) label operand = true
needs_segment (Direct directives.Using) label operand = true
needs_segment (Direct directives.Equ) label operand = true
needs_segment (Direct directives.Gequ) label operand = false
needs_segment (Direct directives.Constants) label operand = true
needs_segment (Direct directives.Space) label operand = true
needs_segment (Direct directives.Align) label operand = is_labelled label
needs_segment (Direct directives.Org) label operand = is_labelled label || is_some (following_here operand)
needs_segment (Direct directives.Kind) label operand = true
needs_segment (Direct (directives.Turn switch)) label operand = is_labelled label
needs_segment (Direct directives.Nothing) label operand = is_labelled label
needs_segment (Direct directives.Ignored) label operand = is_labelled label

-- START, PRIVATE, DATA and PRIVDATA
abbrev pub begins_segment : Operation → Bool
begins_segment (Direct (directives.Begin class)) = true
begins_segment _ = false

-- a statement is outside segments and needs one, or is inside one and begins another
abbrev pub is_misplaced : Option StartedSegment → Operation → List ℕ → List ℕ → Bool
is_misplaced None operation label operand = needs_segment operation label operand
is_misplaced (Some s) operation label operand = begins_segment operation

-- ---- labels

-- the operations that must have a label
abbrev pub needs_label : Operation → Bool
needs_label (Direct (directives.Begin class)) = true
needs_label (Direct directives.Entry) = true
needs_label (Direct directives.Equ) = true
needs_label (Direct directives.Gequ) = true
needs_label _ = false

-- A line's label, in upper case, is defined already: in an open segment by a statement of that segment, and outside by a GEQU there.
-- The name of a new segment isn't: it is the first that the segment defines.
abbrev pub is_taken : State → Option StartedSegment → Operation → List ℕ → Bool
is_taken state None operation label = if begins_segment operation then false else is_some (state.outside label)
is_taken state (Some s) operation label = is_some (s.names label)

-- a label in upper case; nothing is no label
abbrev pub label_of : State → Operation → List ℕ → Answer (List ℕ)
label_of state operation [] = if needs_label operation then Err BadLabel else Ok []
label_of state operation (byte ∷ label) =
    if is_name (byte ∷ label)
    then (if is_taken state state.segment operation (folded (byte ∷ label)) then Err Duplicate else Ok (folded (byte ∷ label)))
    else Err BadLabel

-- ---- operands

-- the operand of an instruction, or what is wrong with it
pub data IsOperandOf (mnemonic : Mnemonic) (text : List ℕ) (answer : Answer Meaning) : Type 0 where
  Good : (operand : Meaning) → IsGoodOperand (Some mnemonic) text operand → answer ≡ Ok operand → IsOperandOf mnemonic text answer
  Bad : IsBadOperand (Some mnemonic) text → answer ≡ Err BadOperand → IsOperandOf mnemonic text answer
  Large : HasBadNumber (Some mnemonic) text → answer ≡ Err BadNumber → IsOperandOf mnemonic text answer

-- a name of at most ten bytes and spaces up to ten; none is ten spaces
unfoldable pub load_name_of : List ℕ → Answer (List ℕ)
load_name_of [] = Ok (replicate 10 ascii.space)
load_name_of (byte ∷ text) =
    if is_name (byte ∷ text) && nat_le (length (byte ∷ text)) 10
    then Ok (folded (byte ∷ text) ++ replicate (10 - length (byte ∷ text)) ascii.space) else Err BadOperand

-- the name that an operand is, in upper case
abbrev pub name_of : List ℕ → Answer (List ℕ)
name_of text = if is_name text then Ok (folded text) else Err BadOperand

-- ON or OFF, in upper or lower case
abbrev pub switch_of : List ℕ → Answer Bool
switch_of text =
    if bytes_eq (folded text) (codes "ON") then Ok true
    else if bytes_eq (folded text) (codes "OFF") then Ok false
    else Err BadOperand

-- a name's value in the segment
abbrev pub value_in : Option (Option ℕ) → Option ℕ
value_in None = None
value_in (Some value) = value

-- the constants of the segment, and else those from outside
abbrev pub constants_of : State → Constants
constants_of state name = option_or (elim state.segment [ None ↦ None | Some s ↦ value_in (s.names name) ]) (state.outside name)

-- the number that a formula is
abbrev pub number_in : State → Option Tree → Answer ℕ
number_in state found = formula_of found >>= λ tree. required_number (known_value (constants_of state) tree)

-- ---- directives with a number

-- an alignment is a power of two up to $10000, and in a segment up to its alignment
abbrev pub alignment_in : State → ℕ → Answer ℕ
alignment_in state n =
    if is_power_of_two n && nat_le n (elim state.segment [ None ↦ 0x10000 | Some s ↦ alignment_of s.header.align ]) then Ok n else Err BadOperand

-- in a segment ORG moves the location counter forward
abbrev pub distance_in : Option StartedSegment → ℕ → Answer ℕ
distance_in None n = Ok n
distance_in (Some s) n = if nat_lt n (2 ^ 31) then Ok n else Err BadOperand

-- KIND has two bytes, and its type is one that is listed
abbrev pub listed_kind : ℕ → Answer ℕ
listed_kind n = if not (is_listed (form_of n)) then Err BadOperand else if nat_lt 0xFFFF n then Err DoesNotFit else Ok n

-- what ALIGN and ORG do: outside segments they wait for the next one
abbrev pub state_after_align : State → Option StartedSegment → List ℕ → ℕ → State
state_after_align state None label n = record state { align = n }
state_after_align state (Some s) label n = in_segment (with_local_record label DIRECTIVE_LABEL (Align n ∷ [])) state

-- what ORG leaves: in a segment its record, and outside a number that waits
abbrev pub state_after_org : State → Option StartedSegment → List ℕ → ℕ → State
state_after_org state None label n = record state { org = n }
state_after_org state (Some s) label n = in_segment (with_local_record label DIRECTIVE_LABEL (Org n ∷ [])) state

-- the segment with KIND n
abbrev pub with_kind : ℕ → StartedSegment → StartedSegment
with_kind n s = record s { header = record s.header { kind = n } }

-- ---- EQU and GEQU

-- the record: no length, type $4E, not private
abbrev pub equate : Bool → List ℕ → Tree → Record
equate global label tree = Equate global label 0 DIRECTIVE_LABEL 0 (expression_text tree)

-- a constant is known from the next line on
abbrev pub with_equate : Bool → List ℕ → Amount → StartedSegment → StartedSegment
with_equate global label a s =
    with_records label (elim a [ Known n ↦ Some n | Written tree ↦ None ]) [] (equate global label (tree_of_amount a) ∷ []) s

-- an equate of the open segment
abbrev pub equating : State → Bool → Answer (List ℕ) → Option Tree → Answer State
equating state global label found =
    pair_or_earlier_fault label (formula_of found >>= amount (constants_of state))
    >>= λ (name, a). Ok (in_segment (with_equate global name a) state)

-- outside segments GEQU is a constant, and waits for the start of the next segment
abbrev pub equating_outside : State → Answer (List ℕ) → Option Tree → Answer State
equating_outside state label found =
    pair_or_earlier_fault label (number_in state found)
    >>= λ (name, n). Ok (record state { outside = with_name name n state.outside; front = state.front ++ equate true name (Leaf (Constant n)) ∷ [] })

-- ---- what a directive does, by the formula of its operand

-- the formula of ORG: in a segment it is after `*+`
abbrev pub IsMove : Option StartedSegment → List ℕ → Option Tree → Type 0
IsMove None text found = IsFormula text found
IsMove (Some s) text found = elim (following_here text) [ None ↦ found ≡ None | Some following ↦ IsFormula following found ]

-- ---- what each operation does

-- a statement that puts its LOCAL and its records at the end of the open segment; its operand gives the records
abbrev pub marking : State → ℕ → Answer (List ℕ) → Answer (List Record) → Answer State
marking state form label contents = pair_or_earlier_fault label contents >>= λ (name, found). Ok (in_segment (with_local_record name form found) state)

-- What a statement leaves, or its first fault, by its operation, its label and the text of its operand: a table with a row for each
-- operation, so it is long.
unfoldable pub IsDone : State → Line → Operation → Answer (List ℕ) → List ℕ → Answer State → Type 0
IsDone state line (Instruct mnemonic) label text answer =
    (operand : Answer Meaning) × IsOperandOf mnemonic text operand
    × (answer ≡ marking state INSTRUCTION_LABEL label (operand >>= instruction (constants_of state) state.widths mnemonic >>= λ pieces. Ok (records_of pieces)))
IsDone state line (Direct (directives.Begin class)) label text answer =
    answer ≡ (pair_or_earlier_fault label (load_name_of text) >>= λ (name, load_name). Ok (state_after_start state line class name load_name))
IsDone state line (Direct directives.End) label text answer = answer ≡ (marking state DIRECTIVE_LABEL label (Ok (End ∷ [])) >>= λ left. Ok (state_after_end left))
IsDone state line (Direct directives.Entry) label text answer =
    answer ≡ (label >>= λ name. Ok (in_segment (with_records name None (Label true name 0 DIRECTIVE_LABEL 0 ∷ []) []) state))
IsDone state line (Direct directives.Using) label text answer = answer ≡ marking state DIRECTIVE_LABEL label (name_of text >>= λ name. Ok (Using name ∷ []))
IsDone state line (Direct directives.Equ) label text answer = (found : Option Tree) × IsFormula text found × (answer ≡ equating state false label found)
IsDone state line (Direct directives.Gequ) label text answer =
    (found : Option Tree) × IsFormula text found × (answer ≡ elim state.segment [ None ↦ equating_outside state label found | Some s ↦ equating state true label found ])
IsDone state line (Direct directives.Constants) label text answer =
    (found : Option (List Element)) × IsList text found
    × (answer ≡ marking state DIRECTIVE_LABEL label (list_pieces (constants_of state) state.msb found >>= λ pieces. Ok (records_of pieces)))
IsDone state line (Direct directives.Space) label text answer =
    (found : Option Tree) × IsFormula text found
    × (answer ≡ (pair_or_earlier_fault label (number_in state found) >>= λ (name, n). Ok (in_segment (with_local_record name DIRECTIVE_LABEL (Space n ∷ [])) state)))
IsDone state line (Direct directives.Align) label text answer =
    (found : Option Tree) × IsFormula text found
    × (answer ≡ (pair_or_earlier_fault label (number_in state found >>= alignment_in state) >>= λ (name, n). Ok (state_after_align state state.segment name n)))
IsDone state line (Direct directives.Org) label text answer =
    (found : Option Tree) × IsMove state.segment text found
    × (answer ≡ (pair_or_earlier_fault label (number_in state found >>= distance_in state.segment) >>= λ (name, n). Ok (state_after_org state state.segment name n)))
IsDone state line (Direct directives.Kind) label text answer =
    (found : Option Tree) × IsFormula text found
    × (answer ≡ (pair_or_earlier_fault label (number_in state found >>= listed_kind)
    >>= λ (name, n). Ok (in_segment (λ s. with_kind n (with_local_record name DIRECTIVE_LABEL [] s)) state)))
IsDone state line (Direct (directives.Turn switch)) label text answer =
    answer ≡ (pair_or_earlier_fault label (switch_of text) >>= λ (name, on). Ok (with_switch_set switch on (in_segment (with_local_record name DIRECTIVE_LABEL []) state)))
IsDone state line (Direct directives.Nothing) label text answer = answer ≡ marking state DIRECTIVE_LABEL label (Ok [])
IsDone state line (Direct directives.Ignored) label text answer = answer ≡ marking state DIRECTIVE_LABEL label (Ok [])

-- ---- lines

-- what a line leaves where lines before it left this, or its first fault
abbrev pub IsStep : State → Line → Answer State → Type 0
IsStep state line answer = elim (operation_of (part line.text line.fields.operation)) [
  | None ↦ answer ≡ Err UnknownOperation
  | Some operation ↦ elim (is_misplaced state.segment operation (part line.text line.fields.label) (part line.text line.fields.operand)) [
    | true ↦ answer ≡ Err OutsideSegment
    | false ↦
        (left : Answer State) × IsDone state line operation (label_of state operation (part line.text line.fields.label)) (part line.text line.fields.operand) left
        × (answer ≡ (left >>= within_length))
  ]
]
