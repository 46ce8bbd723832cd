-- Words of lemmas and of internal contracts: steps of the definitions, whose text these have in place.
use Rattle.orca_meaning.specs.Characters.{is_blank}
use Rattle.orca_meaning.specs.Line.{LineFields, operand_span, part, span}
use Rattle.orca_meaning.specs.Matrix.{Instruction}
use Rattle.orca_meaning.specs.Operation.{operation_use}
use Rattle.orca_meaning.specs.Quotes.{outside_from}
use Rattle.orca_meaning.specs.Token.{Found, Label, Operand, attribute_at, location_at, name_at, seen_as, symbol_at}
use Rattle.orca_meaning.specs.declared.forms.Form.{Form}
use Rattle.orca_meaning.specs.declared.forms.Form.TheVariants.{Immediate}
use Rattle.orca_meaning.specs.declared.forms.Opening.{Opening}
use Rattle.orca_meaning.specs.declared.forms.Opening.TheVariants.{Hash, Open, Round, Square}
use Rattle.orca_meaning.specs.declared.forms.OperandUse.{OperandUse}
use Rattle.orca_meaning.specs.declared.forms.Prefix.{Prefix}
use Rattle.orca_meaning.specs.declared.forms.Prefix.TheVariants.{Bare, Bar, Caret}
use Rattle.orca_meaning.specs.declared.forms.Prefix.TheVariants as prefixes
use Rattle.orca_meaning.specs.declared.lines.TextCause.{TextCause}
use Rattle.orca_meaning.specs.declared.mnemonics.Mnemonic.{Mnemonic}
use Rattle.orca_meaning.specs.declared.modes.Mode.{Mode}
use Rattle.orca_meaning.specs.declared.operators.Operands.{Operands}
use Rattle.orca_meaning.specs.declared.operators.Operands.TheVariants.{Labels, Symbols}
use Rattle.orca_meaning.specs.declared.operators.Operator.{Operator}
use Rattle.orca_meaning.specs.declared.operators.Operator.TheVariants.{Add, And, Divide, Eor, Equal, Greater, GreaterOrEqual, Less, LessOrEqual, Multiply, NotEqual, Or, Shift, Subtract}
use Rattle.orca_meaning.specs.declared.operators.Sign.{Sign}
use Rattle.orca_meaning.specs.declared.operators.Sign.TheVariants.{Negate, Not}
use Rattle.std.specs.Option.{option_or}
use Rattle.std.specs.Prelude.{◌&&◌, ◌+◌, ◌==◌, Bool, List, None, Option, Some, [], ◌^◌, codes, drop, false, if◌then◌else◌, nat_le, not, true, ◌||◌, ℕ, ◌∷◌}
use denote.Enum.Bare.{sameb}
use Rattle.omf_format.specs.Ascii as ascii
use Rattle.omf_format.specs.Expression as expression
use Rattle.orca_meaning.specs.contracts.mnemonics.Mnemonic as mnemonic_type
use Rattle.orca_meaning.specs.contracts.modes.Mode as mode_type
use Rattle.orca_meaning.specs.declared.forms.OperandUse.TheVariants as uses

-- whether an instruction is this mnemonic in this mode
abbrev pub is_instruction : Mnemonic → Mode → Instruction → Bool
is_instruction mnemonic mode (m, n) = sameb mnemonic_type.the_type m mnemonic && sameb mode_type.the_type n mode

-- `<`, `>` and `^` after `#`
abbrev pub immediate_prefix : ℕ → Prefix
immediate_prefix byte = if byte == ascii.less then prefixes.Less else if byte == ascii.greater then prefixes.Greater else if byte == ascii.caret then Caret else Bare

-- `<`, `>`, and `|` or `!` elsewhere
abbrev pub address_prefix : ℕ → Prefix
address_prefix byte =
    if byte == ascii.less then prefixes.Less else if byte == ascii.greater then prefixes.Greater else if byte == ascii.bar || byte == ascii.exclamation then Bar else Bare

abbrev pub after_prefix : Prefix → List ℕ → List ℕ
after_prefix found text = elim found [ Bare ↦ text | _ ↦ drop 1 text ]

abbrev pub immediate_form : List ℕ → Option Form
immediate_form [] = Some Immediate
immediate_form (byte ∷ following) = None

abbrev pub means_accumulator : OperandUse → Bool
means_accumulator uses.Never = false
means_accumulator uses.Accumulator = true
means_accumulator uses.Signature = false
means_accumulator uses.Always = false

-- how many values the location counter counts: in an instruction it is written as two
abbrev pub values_here : Option Mnemonic → ℕ
values_here (Some mnemonic) = 2
values_here None = 1

-- `#` and `[` open an operand, and `(` where the operation is an instruction; elsewhere `(` belongs to the formula
abbrev pub opening_of : Bool → List ℕ → Opening
opening_of is_instruction [] = Open
opening_of is_instruction (byte ∷ following) =
    if byte == ascii.number_sign then Hash
    else if byte == ascii.opening_round && is_instruction then Round
    else if byte == ascii.opening_square then Square
    else Open

-- how many values are pending at once at an operand, where the location counter counts as a given number of them
abbrev pub values_of : ℕ → expression.Term → ℕ
values_of here term = elim term [ expression.Location ↦ here | _ ↦ 1 ]

-- a number above 4,294,967,295
abbrev pub is_large : expression.Term → Bool
is_large (expression.Constant n) = nat_le (2 ^ 32) n
is_large _ = false

-- a byte that is no blank
abbrev pub is_ink : ℕ → Bool
is_ink byte = not (is_blank byte)

-- a comment has no fields
abbrev pub no_fields : LineFields
no_fields = record { label = span 0 0; operation = span 0 0; operand = span 0 0 }

-- the fault of a line with this number, or that of later ones
abbrev pub or_later : ℕ → Option TextCause → Option (ℕ × TextCause) → Option (ℕ × TextCause)
or_later number found later = elim found [ Some cause ↦ Some (number, cause) | None ↦ later ]

abbrev pub next_outside : List ℕ → ℕ → ℕ
next_outside text at = at + outside_from is_blank None (drop at text)

abbrev pub statement_fields : List ℕ → LineFields → LineFields
statement_fields text fields =
    record fields { operand = operand_span (operation_use (part text fields.operation)) text fields.operand }

abbrev pub signs : List (List ℕ × Sign)
signs = (codes "-", Negate) ∷ (codes ".NOT.", Not) ∷ []

-- the longer spellings are listed first
abbrev pub operators : List (List ℕ × Operator)
operators =
    (codes "<=", LessOrEqual) ∷ (codes ">=", GreaterOrEqual) ∷ (codes "<>", NotEqual) ∷ (codes "<", Less) ∷ (codes ">", Greater) ∷
    (codes "=", Equal) ∷ (codes "*", Multiply) ∷ (codes "/", Divide) ∷ (codes "|", Shift) ∷ (codes "+", Add) ∷
    (codes "-", Subtract) ∷ (codes ".AND.", And) ∷ (codes ".OR.", Or) ∷ (codes ".EOR.", Eor) ∷ []

-- the operand at the start that isn't a number
abbrev pub other_operand_at : Operands → List ℕ → Found Operand
other_operand_at operands text = elim operands [
  | Labels ↦ option_or (location_at text) (option_or (attribute_at name_at text) (seen_as Label (name_at text)))
  | Symbols ↦ attribute_at symbol_at text
]
