-- Operands: their forms (WDC 65C816 data sheet, addressing modes; ORCA/M reference manual, "The operand field").
use Rattle.std.specs.Prelude.{◌≡◌, ℕ, ◌≤◌, Bool, true, false, ◌&&◌, ◌||◌, ◌==◌, List, [], ◌∷◌, drop, codes, bytes_eq, Option, Some, None, is_some, if◌then◌else◌}
use Rattle.std.specs.Char.{to_ascii_uppercase}
use Rattle.std.specs.List.{list_any, AllByRecursion}
use Rattle.std.specs.Option.{option_map}
use Rattle.omf_format.specs.Ascii as ascii
use Rattle.omf_format.specs.Expression.{Tree}
use Rattle.orca_meaning.specs.declared.forms.Form.{Form}
use Rattle.orca_meaning.specs.declared.forms.Form.TheVariants.{Nothing, Accumulator, Immediate, Plain, IndexX, IndexY, IndexS, Paren, ParenY, ParenX, ParenSY, Bracket, BracketY, Pair, Other}
use Rattle.orca_meaning.specs.declared.forms.Index.{Index}
use Rattle.orca_meaning.specs.declared.forms.Index.TheVariants.{Absent, X, Y, S}
use Rattle.orca_meaning.specs.declared.forms.Opening.{Opening}
use Rattle.orca_meaning.specs.declared.forms.Opening.TheVariants.{Open, Hash, Round, Square}
use Rattle.orca_meaning.specs.declared.forms.Prefix.{Prefix}
use Rattle.orca_meaning.specs.declared.forms.Prefix.TheVariants.{Bare, Less, Bar, Greater, Caret}
use Rattle.orca_meaning.specs.declared.lines.TextCause.{TextCause}
use Rattle.orca_meaning.specs.declared.lines.TextCause.TheVariants.{LineTooLong, TooManyLines, BadOperand, BadNumber, Memory}
use Rattle.orca_meaning.specs.declared.mnemonics.Mnemonic.{Mnemonic}
use Rattle.orca_meaning.specs.declared.forms.OperandUse.TheVariants as uses
use Rattle.orca_meaning.specs.declared.operators.Operands.TheVariants.{Labels}
use Rattle.orca_meaning.specs.Characters.{folded}
use Rattle.orca_meaning.specs.Formula.{MeansAt, pending, has_large}
use Rattle.orca_meaning.specs.Operation.{use_of}

-- ---- before the formula

-- what follows the opening byte, where there is one
abbrev pub after_opening : Opening → List ℕ → List ℕ
after_opening Open text = text
after_opening Hash text = drop 1 text
after_opening Round text = drop 1 text
after_opening Square text = drop 1 text

-- `<`, `>` and `^` after `#`; `<`, `>`, and `|` or `!` elsewhere
abbrev pub prefix_of : Opening → List ℕ → Prefix
prefix_of opening [] = Bare
prefix_of Hash (byte ∷ following) =
    if byte == ascii.less then Less else if byte == ascii.greater then Greater else if byte == ascii.caret then Caret else Bare
prefix_of _ (byte ∷ following) =
    if byte == ascii.less then Less else if byte == ascii.greater then Greater else if byte == ascii.bar || byte == ascii.exclamation then Bar else Bare

-- ---- after the formula

-- the register of an index, in upper or lower case
abbrev pub register_of : ℕ → Option Index
register_of letter =
    let capital = to_ascii_uppercase letter in
    if capital == ascii.capital_x then Some X else if capital == ascii.capital_y then Some Y else if capital == ascii.capital_s then Some S else None

-- the index at the start, a comma and a register, and what follows it
unfoldable pub index_at : List ℕ → Index × List ℕ
index_at [] = (Absent, [])
index_at (byte ∷ []) = (Absent, byte ∷ [])
index_at (comma ∷ letter ∷ following) = elim (if comma == ascii.comma then register_of letter else None) [
  | None ↦ (Absent, comma ∷ letter ∷ following)
  | Some index ↦ (index, following)
]

-- the index of a whole text, if it is one or nothing
unfoldable pub whole_index : List ℕ → Option Index
whole_index text = let (index, rest) = index_at text in elim rest [ [] ↦ Some index | byte ∷ following ↦ None ]

-- an index or none, the closing byte, and an index or none up to the end
unfoldable pub indexes_around : ℕ → List ℕ → Option (Index × Index)
indexes_around close text =
    let (inner, rest) = index_at text in
    elim rest [ [] ↦ None | byte ∷ following ↦ if byte == close then option_map (λ outer. (inner, outer)) (whole_index following) else None ]

-- the forms by their indexes, those in and after the parentheses or brackets; what mnemonics have is listed first
abbrev pub plain_form : Index → Form
plain_form Absent = Plain
plain_form X = IndexX
plain_form Y = IndexY
plain_form S = IndexS

-- the forms in parentheses, by the index in them and the one after them
abbrev pub round_form : Index × Index → Form
round_form (Absent, Absent) = Paren
round_form (Absent, Y) = ParenY
round_form (X, Absent) = ParenX
round_form (S, Y) = ParenSY
round_form _ = Other

-- the forms in brackets, by the index in them and the one after them
abbrev pub square_form : Index × Index → Form
square_form (Absent, Absent) = Bracket
square_form (Absent, Y) = BracketY
square_form _ = Other

-- the form of an operand by its opening and what follows its formula
abbrev pub form_after : Opening → List ℕ → Option Form
form_after Open rest = option_map plain_form (whole_index rest)
form_after Hash rest = elim rest [ [] ↦ Some Immediate | byte ∷ following ↦ None ]
form_after Round rest = option_map round_form (indexes_around ascii.closing_round rest)
form_after Square rest = option_map square_form (indexes_around ascii.closing_square rest)

-- ---- operands

-- an operand: its form, its prefix and the expressions that its formulas mean
pub record Meaning : Type 0 where
  pub form : Form
  pub prefix : Prefix
  pub trees : List Tree

-- `A` alone, of a mnemonic with the accumulator mode
abbrev pub is_accumulator : Option Mnemonic → List ℕ → Bool
is_accumulator (Some mnemonic) text = (elim (use_of mnemonic) [ uses.Accumulator ↦ true | _ ↦ false ]) && bytes_eq (folded text) (codes "A")
is_accumulator None text = false

-- `#` and `[` open an operand, and `(` where the operation is an instruction; elsewhere `(` belongs to the formula
abbrev pub opening : Option Mnemonic → List ℕ → Opening
opening mnemonic [] = Open
opening mnemonic (byte ∷ following) =
    if byte == ascii.number_sign then Hash
    else if byte == ascii.opening_round && is_some mnemonic then Round
    else if byte == ascii.opening_square then Square
    else Open

-- the prefix of an operand's text
abbrev pub prefix : Option Mnemonic → List ℕ → Prefix
prefix mnemonic text = prefix_of (opening mnemonic text) (after_opening (opening mnemonic text) text)

-- where the formula begins
abbrev pub body : Option Mnemonic → List ℕ → List ℕ
body mnemonic text =
    let following = after_opening (opening mnemonic text) text in
    elim (prefix mnemonic text) [ Bare ↦ following | _ ↦ drop 1 following ]

-- what the text of an operand field means, in a line with this mnemonic or none (a formula's operand is `Operand`, of Token)
pub data IsOperand (mnemonic : Option Mnemonic) (text : List ℕ) (meaning : Meaning) : Type 0 where
  IsMissing : text ≡ [] → meaning ≡ record { form = Nothing; prefix = Bare; trees = [] } → IsOperand mnemonic text meaning
  IsInAccumulator : is_accumulator mnemonic text ≡ true → meaning ≡ record { form = Accumulator; prefix = Bare; trees = [] }
      → IsOperand mnemonic text meaning
  IsOne : is_accumulator mnemonic text ≡ false → (tree : Tree) (rest : List ℕ) (form : Form)
      → MeansAt Labels (body mnemonic text) tree rest → form_after (opening mnemonic text) rest ≡ Some form
      → meaning ≡ record { form = form; prefix = prefix mnemonic text; trees = tree ∷ [] } → IsOperand mnemonic text meaning
  IsTwo : is_accumulator mnemonic text ≡ false → opening mnemonic text ≡ Open → (first second : Tree) (following : List ℕ)
      → MeansAt Labels (body mnemonic text) first (ascii.comma ∷ following) → whole_index (ascii.comma ∷ following) ≡ None
      → MeansAt Labels following second [] → meaning ≡ record { form = Pair; prefix = prefix mnemonic text; trees = first ∷ second ∷ [] }
      → IsOperand mnemonic text meaning

-- no formula has more than 64 pending values; the location counter counts as two in an instruction, which writes it so
abbrev pub AreShallow : Option Mnemonic → List Tree → Type 0
AreShallow mnemonic trees = AllByRecursion (λ tree. pending (elim mnemonic [ Some of_line ↦ 2 | None ↦ 1 ]) tree ≤ 64) trees

-- an operand with which nothing is wrong
pub record IsGoodOperand (mnemonic : Option Mnemonic) (text : List ℕ) (meaning : Meaning) : Type 0 where
  pub is : IsOperand mnemonic text meaning
  pub shallow : AreShallow mnemonic meaning.trees
  pub small : list_any has_large meaning.trees ≡ false

-- none of the forms, or a formula that is too deep
abbrev pub IsBadOperand : Option Mnemonic → List ℕ → Type 0
IsBadOperand mnemonic text = (meaning : Meaning) → IsOperand mnemonic text meaning → AreShallow mnemonic meaning.trees → ⊥

-- an operand with a number that is too large
pub record HasBadNumber (mnemonic : Option Mnemonic) (text : List ℕ) : Type 0 where
  pub meaning : Meaning
  pub is : IsOperand mnemonic text meaning
  pub shallow : AreShallow mnemonic meaning.trees
  pub large : list_any has_large meaning.trees ≡ true

-- what an operand is refused for, unless out of memory
abbrev pub IsRefusedFor : TextCause → Option Mnemonic → List ℕ → Type 0
IsRefusedFor LineTooLong mnemonic text = ⊥
IsRefusedFor TooManyLines mnemonic text = ⊥
IsRefusedFor BadOperand mnemonic text = IsBadOperand mnemonic text
IsRefusedFor BadNumber mnemonic text = HasBadNumber mnemonic text
IsRefusedFor Memory mnemonic text = Unit {0}
