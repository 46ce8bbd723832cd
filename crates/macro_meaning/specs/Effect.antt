-- What a visited line does (ORCA/M reference manual, "Conditional assembly directives").
use Rattle.std.specs.Prelude.{◌≡◌, ℕ, zero, suc, ◌==◌, Bool, true, false, nat_lt, ℤ, pos, negsuc, int_le, List, [], ◌∷◌, length, take, drop, codes, slice_get, Option, Some, None, is_some, Result, Ok, Err, if◌then◌else◌}
use Rattle.omf_format.specs.Ascii as ascii
use Rattle.omf_format.specs.Value.{signed}
use Rattle.orca_meaning.specs.Line.{Line, LineFields, part, is_comment, three_fields}
use Rattle.macro_meaning.specs.declared.faults.MacroCause.{MacroCause}
use Rattle.macro_meaning.specs.declared.faults.MacroCause.TheVariants.{LineTooLong, NoSuchSymbol, BadSetting, BadArguments, Noted}
use Rattle.macro_meaning.specs.declared.statements.SymbolKind.{SymbolKind}
use Rattle.macro_meaning.specs.declared.statements.SymbolKind.TheVariants.{Number, Flag, Text}
use Rattle.macro_meaning.specs.declared.statements.Declaration.{Declaration}
use Rattle.macro_meaning.specs.declared.statements.Declaration.TheVariants.{Local, Shared}
use Rattle.macro_meaning.specs.declared.statements.Statement.{Statement}
use Rattle.macro_meaning.specs.declared.statements.Statement.TheVariants.{Declare, Set, Middle, BranchIf, Branch, Count, Nothing, Leave, Note, Define}
use Rattle.macro_meaning.specs.Call.{bound_arguments, names_count}
use Rattle.macro_meaning.specs.Condition.{Answer, IsNumber, IsCondition}
use Rattle.macro_meaning.specs.Definition.{MacroDefinition, first_named, operation_is}
use Rattle.macro_meaning.specs.Pieces.{pieces, unquoted_text, joined_texts}
use Rattle.macro_meaning.specs.Statements.{statement_of, symbol_name, sequence_name, target_name}
use Rattle.macro_meaning.specs.Substitution.{naming_at, substituted_from}
use Rattle.macro_meaning.specs.Symbol.{Symbols, Values, text_of, is_count, kind_of, declaration_of, is_kind, is_declaration, signed_decimal}
use Rattle.orca_meaning.specs.Characters.{folded}

-- what a line does
pub data Effect : Type 0 where
  -- nothing
  NoEffect : Effect
  -- it gives a line
  Emit : (text : List ℕ) → Effect
  -- it declares a symbol
  DeclareSymbol : (name : List ℕ) (declaration : Declaration) → Effect
  -- it sets a symbol to a text
  SetSymbol : (name : List ℕ) (kind : SymbolKind) (text : List ℕ) → Effect
  -- it branches to a sequence symbol
  BranchTo : (name : List ℕ) → Effect
  -- it sets the counter
  SetCounter : (n : ℕ) → Effect
  -- it ends its expansion
  Exit : Effect
  -- it calls the macro at this place among the definitions, with these symbols
  CallMacro : (place : ℕ) (symbols : Symbols) → Effect
  -- it has a fault
  Fail : (cause : MacroCause) → Effect

-- ---- two faults at once

-- two answers, or the earlier of their faults: NoSuchSymbol precedes BadSetting
abbrev pub pair_or_earlier_fault : {A B : Type 0} → Result A MacroCause → Result B MacroCause → Result (A × B) MacroCause
pair_or_earlier_fault (Ok a) (Ok b) = Ok (a, b)
pair_or_earlier_fault (Ok a) (Err cause) = Err cause
pair_or_earlier_fault (Err cause) (Ok b) = Err cause
pair_or_earlier_fault (Err cause) (Err other) = Err (elim cause [ BadSetting ↦ other | first ↦ first ])

-- what is there, or BadSetting
abbrev pub or_bad : {A : Type 0} → Option A → Result A MacroCause
or_bad None = Err BadSetting
or_bad (Some a) = Ok a

-- ---- declarations

-- a shared symbol has one kind everywhere
abbrev pub first_time : List ℕ → Declaration → Option (SymbolKind × List ℕ) → Effect
first_time name (Local kind) shared = DeclareSymbol name (Local kind)
first_time name (Shared kind) None = DeclareSymbol name (Shared kind)
first_time name (Shared kind) (Some (other, text)) = if is_kind kind other then DeclareSymbol name (Shared kind) else Fail BadSetting

-- a second declaration by the same statement changes nothing
unfoldable pub declaring : Values → Declaration → Option (List ℕ) → Effect
declaring values declaration None = Fail BadSetting
declaring values declaration (Some name) =
    if is_count name then Fail BadSetting
    else elim (values.symbols name) [
      | None ↦ first_time name declaration (values.texts name)
      | Some symbol ↦ if is_declaration declaration (declaration_of symbol) then NoEffect else Fail BadSetting
    ]

-- ---- settings

-- the symbol of this kind that a label names
unfoldable pub settable : Values → SymbolKind → Option (List ℕ) → Result (List ℕ) MacroCause
settable values kind None = Err BadSetting
settable values kind (Some name) =
    if is_count name then Err BadSetting
    else elim (values.symbols name) [ None ↦ Err NoSuchSymbol | Some symbol ↦ if is_kind kind (kind_of symbol) then Ok name else Err BadSetting ]

-- the symbol in the label is set to this text
unfoldable pub setting : Values → SymbolKind → List ℕ → Result (List ℕ) MacroCause → Effect
setting values kind label text = elim (pair_or_earlier_fault (settable values kind (symbol_name label)) text) [
  | Ok (name, value) ↦ SetSymbol name kind value
  | Err cause ↦ Fail cause
]

-- a given number of bytes from a place on, which is counted from 1
abbrev pub middle_from : List ℕ → ℤ → ℤ → Result (List ℕ) MacroCause
middle_from text (pos zero) count = Err BadSetting
middle_from text (pos (suc start)) (pos count) = Ok (take count (drop start text))
middle_from text (pos (suc start)) (negsuc count) = Err BadSetting
middle_from text (negsuc start) count = Err BadSetting

-- ---- branches, the counter, notes

-- ---- statements

-- `'text',s,n`: this many bytes of the text from a place on
abbrev pub IsMiddle : Values → List ℕ → List (List ℕ) → Effect → Type 0
IsMiddle values label (text ∷ start ∷ count ∷ []) effect =
    (s n : Answer) × IsNumber values start s × IsNumber values count n
    × (effect ≡ setting values Text label (elim (pair_or_earlier_fault (or_bad (unquoted_text text)) (pair_or_earlier_fault s n)) [
      | Ok (inside, (from, size)) ↦ middle_from inside (signed from) (signed size)
      | Err cause ↦ Err cause
    ]))
IsMiddle values label _ effect = effect ≡ setting values Text label (Err BadSetting)

-- SETA sets a signed number, SETB 0 or 1, and SETC texts in quotes, joined by plus signs
abbrev pub IsSetting : Values → SymbolKind → List ℕ → List ℕ → Effect → Type 0
IsSetting values Number label operand effect = (answer : Answer) × IsCondition values operand answer
    × (effect ≡ setting values Number label (elim answer [ Ok n ↦ Ok (signed_decimal (signed n)) | Err cause ↦ Err cause ]))
IsSetting values Flag label operand effect = (answer : Answer) × IsCondition values operand answer
    × (effect ≡ setting values Flag label (elim answer [ Ok n ↦ Ok (if n == 0 then codes "0" else codes "1") | Err cause ↦ Err cause ]))
IsSetting values Text label operand effect = effect ≡ setting values Text label (or_bad (joined_texts (pieces ascii.plus operand)))

-- What a statement does, a table by statement: from what symbols represent, the line's text, its label and its operand. ANOP and
-- MACRO give the line itself, ANOP only where it has a label.
abbrev pub IsDone : Values → Statement → List ℕ → List ℕ → List ℕ → Effect → Type 0
IsDone values (Declare declaration) text label operand effect = effect ≡ declaring values declaration (symbol_name operand)
IsDone values (Set kind) text label operand effect = IsSetting values kind label operand effect
IsDone values Middle text label operand effect = IsMiddle values label (pieces ascii.comma operand) effect
IsDone values BranchIf text label operand effect = elim (pieces ascii.comma operand) [
  | condition ∷ target ∷ [] ↦ (answer : Answer) × IsCondition values condition answer
      × (effect ≡ (elim (pair_or_earlier_fault answer (or_bad (target_name target))) [ Ok (n, name) ↦ if n == 0 then NoEffect else BranchTo name | Err cause ↦ Fail cause ]))
  | _ ↦ effect ≡ Fail BadSetting
]
IsDone values Branch text label operand effect = effect ≡ (elim (target_name operand) [ None ↦ Fail BadSetting | Some name ↦ BranchTo name ])
IsDone values Count text label operand effect =
    (answer : Answer) × IsNumber values operand answer × (effect ≡ (elim answer [ Ok n ↦ SetCounter n | Err cause ↦ Fail cause ]))
IsDone values Nothing text label operand effect = effect ≡ (elim label [ [] ↦ NoEffect | byte ∷ following ↦ Emit text ])
IsDone values Leave text label operand effect = effect ≡ Exit
IsDone values Note text label operand effect = elim (pieces ascii.comma operand) [
  | message ∷ severity ∷ [] ↦ (answer : Answer) × IsNumber values severity answer × (effect ≡ (elim (pair_or_earlier_fault (or_bad (unquoted_text message)) answer) [
    | Ok (said, n) ↦ if int_le (pos 8) (signed n) then Fail (Noted n) else NoEffect
    | Err cause ↦ Fail cause
  ]))
  | _ ↦ effect ≡ Fail BadSetting
]
IsDone values Define text label operand effect = effect ≡ Emit text

-- ---- calls

-- a call of the macro at a place, where it counts in an expansion that began at this line of the source; any other line is given
abbrev pub calling_at : List MacroDefinition → ℕ → List ℕ → Option ℕ → List ℕ → List ℕ → Effect
calling_at definitions root text None label operand = Emit text
calling_at definitions root text (Some place) label operand = elim (slice_get definitions place) [
  | None ↦ Emit text
  | Some d ↦
      if nat_lt d.visible_after root
      then (if names_count d.model then Fail BadSetting else elim (bound_arguments d.model label operand) [ None ↦ Fail BadArguments | Some symbols ↦ CallMacro place symbols ])
      else Emit text
]

-- ---- lines

-- where a line is: the definitions, the line of the source at which its outermost expansion began, whether it is a
-- line of the source itself, and what its symbols represent
pub record SymbolSetting : Type 0 where
  pub definitions : List MacroDefinition
  pub root : ℕ
  pub in_source : Bool
  pub values : Values

-- the statement of an operation; a line without operation is read as ANOP
abbrev pub operation_or_anop : List ℕ → Option Statement
operation_or_anop [] = Some Nothing
operation_or_anop (byte ∷ following) = statement_of (byte ∷ following)

-- the rest of the line after a sequence symbol in column 1
unfoldable pub without_sequence_symbol : List ℕ → List ℕ
without_sequence_symbol text =
    let label = part text (three_fields text).label in
    if is_some (sequence_name label) then drop (length label) text else text

-- a statement, a call of a macro, or a line that is given; a line without operation is read as ANOP
abbrev pub IsStatement : SymbolSetting → List ℕ → LineFields → Effect → Type 0
IsStatement s text fields effect = elim (operation_or_anop (part text fields.operation)) [
  | Some statement ↦ IsDone s.values statement text (part text fields.label) (part text fields.operand) effect
  | None ↦ effect ≡ calling_at s.definitions s.root text (first_named (folded (part text fields.operation)) s.definitions) (part text fields.label) (part text fields.operand)
]

-- The MACRO line of a definition in the source does nothing more. What follows a sequence symbol is a line of its own.
abbrev pub IsAfterText : SymbolSetting → Bool → List ℕ → Effect → Type 0
IsAfterText s true text effect = effect ≡ NoEffect
IsAfterText s false text effect = elim (is_comment (without_sequence_symbol text)) [
  | true ↦ effect ≡ NoEffect
  | false ↦ IsStatement s (without_sequence_symbol text) (three_fields (without_sequence_symbol text)) effect
]

-- What a visited line does, by where it is: a comment does nothing; another line is read with the symbols' texts in place, where each
-- symbol is declared and that text has at most 255 bytes.
abbrev pub IsEffect : SymbolSetting → Line → Effect → Type 0
IsEffect s line effect = elim (is_comment line.text) [
  | true ↦ effect ≡ NoEffect
  | false ↦ elim (substituted_from (text_of s.values) (naming_at line.text line.fields) 0 0 line.text) [
    | None ↦ effect ≡ Fail NoSuchSymbol
    | Some text ↦ elim (nat_lt 255 (length text)) [
      | true ↦ effect ≡ Fail LineTooLong
      | false ↦ IsAfterText s (if s.in_source then operation_is (codes "MACRO") line else false) text effect
    ]
  ]
]
