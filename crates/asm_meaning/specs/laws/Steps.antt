-- Steps of definitions: the words that the lemmas have for parts of them.
use Rattle.std.specs.Prelude.{List, ◌∷◌, Ok, Err, ℕ, ◌==◌, Option, Some, None, if◌then◌else◌, ◌≡◌, Bool, not, bit_or, filter, true, false, [], find, nat_lt, length, ◌&&◌, nat_le}
use Rattle.asm_meaning.specs.Answer.{Answer, pair_or_earlier_fault}
use Rattle.omf_format.specs.Expression.{Term, Operator, Location, Constant, Named, Offset, Tree, Leaf}
use Rattle.omf_format.specs.Value.{number_of_one}
use Rattle.asm_meaning.specs.declared.faults.AsmCause.TheVariants.{DivideByZero, BadMode, DoesNotFit, UnknownOperation, OutsideSegment, Duplicate}
use Rattle.asm_meaning.specs.Constant.{Constants, KnownValue, Amount, Number, Open, Divided, Known, Written}
use Rattle.std.specs.List.{flat_map}
use Rattle.omf_format.specs.declared.codes.TheConstants.{EXPR, DIRECTIVE_LABEL}
use Rattle.omf_format.specs.Ascii as ascii
use Rattle.omf_format.specs.Record.{Formula, Strong, Space, Label}
use Rattle.orca_meaning.specs.declared.operators.Operands.TheVariants.{Labels}
use Rattle.orca_meaning.specs.Formula.{MeansAt}
use Rattle.orca_meaning.specs.Token.{Found}
use Rattle.asm_meaning.specs.Formulas.{expression_text, IsFormula}
use Rattle.asm_meaning.specs.Pieces.{Piece, Whole}
use Rattle.asm_meaning.specs.Elements.{Repeat, Once, Digits, Computed}
use Rattle.orca_meaning.specs.declared.forms.Prefix.{Prefix}
use Rattle.orca_meaning.specs.declared.forms.Prefix.TheVariants.{Bare, Less, Bar, Greater, Caret}
use Rattle.orca_meaning.specs.declared.mnemonics.Mnemonic.{Mnemonic}
use Rattle.orca_meaning.specs.declared.modes.Mode.{Mode}
use Rattle.asm_meaning.specs.Instruction.{Widths, kind_of, is_address, or_first, given_by}
use Rattle.asm_meaning.specs.State.{StartedSegment, FinishedSegment, cells_of, greatest_length, State, state_after_start, with_records, with_local_record, in_segment, within_length, with_switch_set}
use Rattle.std.specs.Int.{is_power_of_two}
use Rattle.omf_format.specs.Field.{◌>>=◌}
use Rattle.omf_format.specs.Header.{alignment_of}
use Rattle.orca_meaning.specs.Line.{Line}
use Rattle.asm_meaning.specs.declared.directives.Class.{Class}
use Rattle.asm_meaning.specs.declared.directives.Switch.{Switch}
use Rattle.asm_meaning.specs.declared.directives.Operation.{Operation}
use Rattle.asm_meaning.specs.Statement.{is_misplaced, label_of, load_name_of, switch_of, value_in, number_in, alignment_in, distance_in, listed_kind, state_after_align, state_after_org, with_kind, equating, equating_outside, IsDone}

abbrev pub with_first : {A : Type 0} → Answer (A × List A) → Answer (List A)
with_first (Ok (a, more)) = Ok (a ∷ more)
with_first (Err cause) = Err cause

abbrev pub number_or_open : Option ℕ → KnownValue
number_or_open None = Open
number_or_open (Some n) = Number n

-- of a name ($83) its value, and of its length or its count nothing
abbrev pub worth_of_term : Constants → Term → KnownValue
worth_of_term constants (Operator code) = Open
worth_of_term constants Location = Open
worth_of_term constants (Constant n) = Number n
worth_of_term constants (Named code name) = if code == 0x83 then number_or_open (constants name) else Open
worth_of_term constants (Offset n) = Open

abbrev pub worth_of_one : ℕ → KnownValue → KnownValue
worth_of_one code (Number a) = Number (number_of_one code a)
worth_of_one code Open = Open
worth_of_one code Divided = Divided

abbrev pub number_or : Term → Option ℕ → Term
number_or term None = term
number_or term (Some n) = Constant n

abbrev pub amount_by : Tree → KnownValue → Answer Amount
amount_by tree (Number n) = Ok (Known n)
amount_by tree Open = Ok (Written tree)
amount_by tree Divided = Err DivideByZero

abbrev pub without_spaces : List ℕ → List ℕ
without_spaces text = filter (λ byte. not (byte == ascii.space)) text

-- the repeat count of an element, at the start: a formula in parentheses, decimal digits, or nothing
abbrev pub IsRepeatBy : Option (List ℕ) → Found ℕ → List ℕ → Repeat → List ℕ → Type 0
IsRepeatBy o digits text repeat rest = elim o [
  | Some following ↦ (tree : Tree) × MeansAt Labels following tree (ascii.closing_round ∷ rest) × (repeat ≡ Computed tree)
  | None ↦ elim digits [ Some found ↦ (repeat ≡ Digits found.0) × (rest ≡ found.1) | None ↦ (repeat ≡ Once) × (rest ≡ text) ]
]

-- with MSB on the bytes of a text have their high bits set
abbrev pub text_byte : Bool → ℕ → ℕ
text_byte msb byte = if msb then bit_or byte 0x80 else byte

-- EXPR of two bytes with the weak name ($82)
abbrev pub weak_piece : List ℕ → Piece
weak_piece name = Whole (Formula EXPR 2 0 (expression_text (Leaf (Named 0x82 name))))

abbrev pub strong_piece : List ℕ → Piece
strong_piece name = Whole (Strong name)

abbrev pub joined_pieces : List (List Piece) → List Piece
joined_pieces all = flat_map (λ pieces. pieces) all

abbrev pub in_modes : Constants → Widths → Mnemonic → Prefix → List Tree → List Mode → Answer (List Piece)
in_modes constants widths mnemonic prefix trees [] = Err BadMode
in_modes constants widths mnemonic prefix trees (mode ∷ modes) = given_by constants widths mnemonic prefix mode modes trees

-- a formula that is no constant takes the address of two bytes where there is one, and else the first mode
abbrev pub mode_of_tree : Mode → List Mode → Mode
mode_of_tree mode modes = or_first mode (find (λ other. is_address 2 (kind_of other)) (mode ∷ modes))

abbrev pub is_bare : Prefix → Bool
is_bare Bare = true
is_bare _ = false

-- `#>` means the value shifted right by 8, and `#^` by 16
abbrev pub value_shift : Prefix → ℕ
value_shift Bare = 0
value_shift Less = 0
value_shift Bar = 0
value_shift Greater = 8
value_shift Caret = 16

abbrev pub or_fault : {A : Type 0} → Option A → Answer A
or_fault None = Err DoesNotFit
or_fault (Some a) = Ok a

-- the segment ends, and LENGTH is the number of its cells
abbrev pub ended_of : Option StartedSegment → List FinishedSegment
ended_of None = []
ended_of (Some s) = record { header = record s.header { length = cells_of s }; body = s.body } ∷ []

abbrev pub is_too_long : Option StartedSegment → Bool
is_too_long None = false
is_too_long (Some s) = nat_lt (greatest_length s.class) (cells_of s)

abbrev pub constants_in : Option StartedSegment → Constants
constants_in o name = elim o [ None ↦ None | Some s ↦ value_in (s.names name) ]

-- a power of two up to $10000, and in a segment up to its alignment
abbrev pub is_alignment : Option StartedSegment → ℕ → Bool
is_alignment o n = is_power_of_two n && nat_le n (elim o [ None ↦ 0x10000 | Some s ↦ alignment_of s.header.align ])

abbrev pub free_label : Bool → List ℕ → Answer (List ℕ)
free_label taken label = if taken then Err Duplicate else Ok label

-- a constant is known from the next line on
abbrev pub value_of : Amount → Option ℕ
value_of (Known n) = Some n
value_of (Written tree) = None

abbrev pub equating_global : State → Option StartedSegment → Answer (List ℕ) → Option Tree → Answer State
equating_global state o label found = elim o [ None ↦ equating_outside state label found | Some s ↦ equating state true label found ]

abbrev pub spacing : State → Answer (List ℕ) → Option Tree → Answer State
spacing state label found =
    pair_or_earlier_fault label (number_in state found) >>= λ (name, n). Ok (in_segment (with_local_record name DIRECTIVE_LABEL (Space n ∷ [])) state)

abbrev pub kinding : State → Answer (List ℕ) → Option Tree → Answer State
kinding state label found =
    pair_or_earlier_fault label (number_in state found >>= listed_kind)
    >>= λ (name, n). Ok (in_segment (λ s. with_kind n (with_local_record name DIRECTIVE_LABEL [] s)) state)

abbrev pub align_state : State → Answer (List ℕ) → Option Tree → Answer State
align_state state label found =
    pair_or_earlier_fault label (number_in state found >>= alignment_in state) >>= λ (name, n). Ok (state_after_align state state.segment name n)

abbrev pub moving : State → Answer (List ℕ) → Option Tree → Answer State
moving state label found =
    pair_or_earlier_fault label (number_in state found >>= distance_in state.segment) >>= λ (name, n). Ok (state_after_org state state.segment name n)

abbrev pub beginning : State → Line → Class → Answer (List ℕ) → List ℕ → Answer State
beginning state line class label text =
    pair_or_earlier_fault label (load_name_of text) >>= λ (name, load_name). Ok (state_after_start state line class name load_name)

abbrev pub turning : State → Switch → Answer (List ℕ) → List ℕ → Answer State
turning state switch label text =
    pair_or_earlier_fault label (switch_of text) >>= λ (name, on). Ok (with_switch_set switch on (in_segment (with_local_record name DIRECTIVE_LABEL []) state))

-- an ENTRY's label is a GLOBAL of length 0 that isn't private
abbrev pub entering : State → Answer (List ℕ) → Answer State
entering state label = label >>= λ name. Ok (in_segment (with_records name None (Label true name 0 DIRECTIVE_LABEL 0 ∷ []) []) state)

-- the formula of ORG: in a segment it is after `*+`
abbrev pub IsMoveText : Option (List ℕ) → Option Tree → Type 0
IsMoveText o found = elim o [ None ↦ found ≡ None | Some text ↦ IsFormula text found ]

abbrev pub IsPlaced : State → Line → Operation → List ℕ → List ℕ → Bool → Answer State → Type 0
IsPlaced state line operation label text misplaced answer = elim misplaced [
  | true ↦ answer ≡ Err OutsideSegment
  | false ↦ (left : Answer State) × IsDone state line operation (label_of state operation label) text left × (answer ≡ (left >>= within_length))
]

abbrev pub IsKnown : State → Line → Option Operation → List ℕ → List ℕ → Answer State → Type 0
IsKnown state line o label text answer = elim o [
  | None ↦ answer ≡ Err UnknownOperation
  | Some operation ↦ IsPlaced state line operation label text (is_misplaced state.segment operation label text) answer
]
