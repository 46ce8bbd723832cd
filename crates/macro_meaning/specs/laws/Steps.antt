-- Words of lemmas and of internal contracts: steps of the definitions, whose text these have in place.
use Rattle.macro_meaning.specs.Call.{Binding, bound_arguments, names_count, with_missing}
use Rattle.macro_meaning.specs.Condition.{Answer, IsCondition, IsNumber}
use Rattle.macro_meaning.specs.Definition.{MacroBody, MacroDefinition, Model, first_named, label_of, operation_is, parameters_of}
use Rattle.macro_meaning.specs.Effect.{BranchTo, CallMacro, Effect, Emit, Fail, IsAfterText, IsDone, IsEffect, IsStatement, NoEffect, SetCounter, SetSymbol, SymbolSetting, calling_at, middle_from, or_bad, pair_or_earlier_fault}
use Rattle.macro_meaning.specs.Expansion.{IsFirstFault}
use Rattle.macro_meaning.specs.Pieces.{pieces, unquoted_text}
use Rattle.macro_meaning.specs.Statements.{target_name, whole_match}
use Rattle.macro_meaning.specs.Substitution.{Declared, Named, Naming, Replaced, declares, is_asked, lies_in, may_ask, naming_at, sets_label, substituted_from}
use Rattle.macro_meaning.specs.Symbol.{Common, Own, Symbol, Symbols, Values, declaration_of, is_declaration, is_kind, kind_of, signed_decimal, text_of}
use Rattle.orca_meaning.specs.Names.{with_name}
use Rattle.macro_meaning.specs.Visit.{Ends, MacroProgram, Move, On, Stops, Visit, most_visits, move_of, setting_of}
use Rattle.macro_meaning.specs.declared.faults.MacroCause.{MacroCause}
use Rattle.macro_meaning.specs.declared.faults.MacroCause.TheVariants.{BadArguments, BadSetting, Counter, LineTooLong, Memory, NoSequenceSymbol, NoSuchSymbol, Noted, TooManyLines}
use Rattle.macro_meaning.specs.declared.faults.MacroFault.{MacroFault}
use Rattle.macro_meaning.specs.declared.statements.Declaration.{Declaration}
use Rattle.macro_meaning.specs.declared.statements.Statement.{Statement}
use Rattle.macro_meaning.specs.declared.statements.SymbolKind.{SymbolKind}
use Rattle.macro_meaning.specs.declared.statements.SymbolKind.TheVariants.{Flag, Number, Text}
use Rattle.omf_format.specs.Value.{signed, truth}
use Rattle.omf_format.specs.declared.value.Value.{Value}
use Rattle.omf_format.specs.declared.value.Value.TheVariants.{At, Fixed}
use Rattle.omf_format.specs.declared.value.ValueFault.{ValueFault}
use Rattle.orca_meaning.specs.Characters.{folded}
use Rattle.orca_meaning.specs.Line.{Line, LineFields, line_of, part, three_fields}
use Rattle.orca_meaning.specs.Token.{Found, name_at}
use Rattle.std.specs.Char.{to_ascii_uppercase}
use Rattle.std.specs.List.{list_any}
use Rattle.std.specs.Prelude.{◌&&◌, ◌+◌, ◌++◌, ◌-◌, ◌==◌, Bool, Err, List, None, Ok, Option, Result, Some, [], bytes_eq, codes, false, if◌then◌else◌, int_le, is_some, length, nat_lt, not, option_map, pos, slice_index, true, ◌||◌, ℕ, ◌∷◌, ◌≡◌}
use Rattle.omf_format.specs.Ascii as ascii
use Rattle.omf_format.specs.Expression as expression

-- an allocation failure has no line; any other fault is the first
abbrev pub IsFaultFor : MacroCause → List ℕ → List (List ℕ) → MacroFault → Type 0
IsFaultFor cause source macros fault = elim cause [ Memory ↦ (fault.file ≡ 0) × (fault.line ≡ 0) | _ ↦ IsFirstFault source macros fault ]

abbrev pub no_body : MacroBody
no_body = record { lines = []; reach = 0 }

abbrev pub set_by : List ℕ → SymbolKind → List ℕ → Visit → Option Symbol → Visit
set_by name kind text v None = v
set_by name kind text v (Some (Own other old)) = record v { symbols = with_name name (Own kind text) v.symbols }
set_by name kind text v (Some (Common other)) = record v { texts = with_name name (kind, text) v.texts }

abbrev pub next_visit : Visit → Visit
next_visit v = record v { line = v.line + 1 }

-- the visit of the line after a call, with what all expansions share as it is now
abbrev pub visit_after_call : Visit → Visit → Visit
visit_after_call v last = record v { line = v.line + 1; texts = last.texts; calls = last.calls }

abbrev pub only_one : List ℕ → Option ℕ
only_one [] = None
only_one (place ∷ []) = Some place
only_one (place ∷ next ∷ places) = None

-- a branch lowers the counter of its expansion
abbrev pub branch_to : Visit → Line → Option ℕ → Move
branch_to v line None = Stops line NoSequenceSymbol
branch_to v line (Some place) =
    if v.counter == 0 then Stops line Counter else On (record v { line = place; counter = v.counter - 1 })

-- the lines that an effect gives
abbrev pub given_by : Line → Effect → List Line
given_by line (Emit text) = line_of line.file line.number text ∷ []
given_by _ _ = []

abbrev pub IsVisitOf : MacroProgram → List Visit → Visit → Line → Bool → List Line → Move → Type 0
IsVisitOf program before v line full given move = elim full [
  | true ↦ (given ≡ []) × (move ≡ Stops line TooManyLines)
  | false ↦ (effect : Effect) × IsEffect (setting_of program v line.number) line effect × (given ≡ given_by line effect) × (move ≡ move_of program before v line effect)
]

abbrev pub IsVisitAt : MacroProgram → List Visit → Visit → Option Line → List Line → Move → Type 0
IsVisitAt program before v found given move = elim found [
  | None ↦ (given ≡ []) × (move ≡ Ends)
  | Some line ↦ IsVisitOf program before v line (length before == most_visits) given move
]

-- a note of severity 8 or more
abbrev pub note_effect : ℕ → Effect
note_effect n = if int_le (pos 8) (signed n) then Fail (Noted n) else NoEffect

abbrev pub noting : Result (List ℕ × ℕ) MacroCause → Effect
noting (Ok (text, n)) = note_effect n
noting (Err cause) = Fail cause

abbrev pub going : Result (ℕ × List ℕ) MacroCause → Effect
going (Ok (n, name)) = if n == 0 then NoEffect else BranchTo name
going (Err cause) = Fail cause

-- `e,.NAME`
abbrev pub IsBranchIf : Values → List (List ℕ) → Effect → Type 0
IsBranchIf values operands effect = elim operands [
  | condition ∷ target ∷ [] ↦ (answer : Answer) × IsCondition values condition answer × (effect ≡ going (pair_or_earlier_fault answer (or_bad (target_name target))))
  | _ ↦ effect ≡ Fail BadSetting
]

-- `'text',n`
abbrev pub IsNote : Values → List (List ℕ) → Effect → Type 0
IsNote values operands effect = elim operands [
  | message ∷ severity ∷ [] ↦ (answer : Answer) × IsNumber values severity answer × (effect ≡ noting (pair_or_earlier_fault (or_bad (unquoted_text message)) answer))
  | _ ↦ effect ≡ Fail BadSetting
]

-- a number as SETA and SETB print it
abbrev pub printed_number : SymbolKind → ℕ → List ℕ
printed_number kind n = elim kind [ Number ↦ signed_decimal (signed n) | Flag ↦ if n == 0 then codes "0" else codes "1" | Text ↦ signed_decimal (signed n) ]

abbrev pub printed_answer : SymbolKind → Answer → Result (List ℕ) MacroCause
printed_answer kind (Ok n) = Ok (printed_number kind n)
printed_answer kind (Err cause) = Err cause

abbrev pub middle_of : Result (List ℕ × (ℕ × ℕ)) MacroCause → Result (List ℕ) MacroCause
middle_of (Ok (text, (start, count))) = middle_from text (signed start) (signed count)
middle_of (Err cause) = Err cause

abbrev pub going_to : Option (List ℕ) → Effect
going_to None = Fail BadSetting
going_to (Some name) = BranchTo name

abbrev pub counting : Answer → Effect
counting (Ok n) = SetCounter n
counting (Err cause) = Fail cause

-- a line without operation, and ANOP: a line is given for an ordinary label
abbrev pub resting : List ℕ → List ℕ → Effect
resting label text = elim label [ [] ↦ NoEffect | byte ∷ following ↦ Emit text ]

abbrev pub of_kind : List ℕ → SymbolKind → Option Symbol → Result (List ℕ) MacroCause
of_kind name kind None = Err NoSuchSymbol
of_kind name kind (Some symbol) = if is_kind kind (kind_of symbol) then Ok name else Err BadSetting

abbrev pub set_to : SymbolKind → Result (List ℕ × List ℕ) MacroCause → Effect
set_to kind (Ok (name, text)) = SetSymbol name kind text
set_to kind (Err cause) = Fail cause

-- NoSuchSymbol precedes BadSetting
abbrev pub earlier : MacroCause → MacroCause → MacroCause
earlier cause other = elim cause [ BadSetting ↦ other | first ↦ first ]

abbrev pub call_effect : ℕ → Option Symbols → Effect
call_effect place None = Fail BadArguments
call_effect place (Some symbols) = CallMacro place symbols

abbrev pub calling : ℕ → MacroDefinition → List ℕ → List ℕ → Effect
calling place d label operand = if names_count d.model then Fail BadSetting else call_effect place (bound_arguments d.model label operand)

-- it counts in an expansion that began at this line of the source, or at that line
abbrev pub is_visible_in : ℕ → MacroDefinition → Bool
is_visible_in root d = nat_lt d.visible_after root

-- the macro at a place, where it counts; any other line is given
abbrev pub calling_if : ℕ → List ℕ → ℕ → Option MacroDefinition → List ℕ → List ℕ → Effect
calling_if root text place found label operand = elim found [
  | None ↦ Emit text
  | Some d ↦ if is_visible_in root d then calling place d label operand else Emit text
]

-- a statement, a call of a macro, or a line that is given; a line without operation is read as ANOP
abbrev pub IsDoneBy : SymbolSetting → List ℕ → LineFields → Option Statement → Effect → Type 0
IsDoneBy s text fields found effect = elim found [
  | Some statement ↦ IsDone s.values statement text (part text fields.label) (part text fields.operand) effect
  | None ↦ effect ≡ calling_at s.definitions s.root text (first_named (folded (part text fields.operation)) s.definitions) (part text fields.label) (part text fields.operand)
]

abbrev pub IsAfterCut : SymbolSetting → Bool → List ℕ → Effect → Type 0
IsAfterCut s comment text effect = elim comment [ true ↦ effect ≡ NoEffect | false ↦ IsStatement s text (three_fields text) effect ]

abbrev pub begins_definition : SymbolSetting → Line → Bool
begins_definition s line = if s.in_source then operation_is (codes "MACRO") line else false

abbrev pub IsShort : SymbolSetting → Line → Bool → List ℕ → Effect → Type 0
IsShort s line long text effect = elim long [ true ↦ effect ≡ Fail LineTooLong | false ↦ IsAfterText s (begins_definition s line) text effect ]

-- with the symbols' texts in place
abbrev pub IsWithTexts : SymbolSetting → Line → Option (List ℕ) → Effect → Type 0
IsWithTexts s line found effect = elim found [
  | None ↦ effect ≡ Fail NoSuchSymbol
  | Some text ↦ IsShort s line (nat_lt 255 (length text)) text effect
]

-- the text of a line with the symbols' texts in place
abbrev pub substituted_line : Values → Line → Option (List ℕ)
substituted_line values line = substituted_from (text_of values) (naming_at line.text line.fields) 0 0 line.text

abbrev pub IsWritten : SymbolSetting → Line → Bool → Effect → Type 0
IsWritten s line comment effect = elim comment [ true ↦ effect ≡ NoEffect | false ↦ IsWithTexts s line (substituted_line s.values line) effect ]

-- what a declaration does where its name is this already, and else another effect
abbrev pub declared_again : Declaration → Option Symbol → Effect → Effect
declared_again declaration found other = elim found [
  | None ↦ other
  | Some symbol ↦ if is_declaration declaration (declaration_of symbol) then NoEffect else Fail BadSetting
]

-- the model line with these fields
abbrev pub model_by : List ℕ → LineFields → Option Model
model_by text fields = elim (whole_match (name_at (part text fields.operation))) [
  | None ↦ None
  | Some name ↦ elim (label_of (part text fields.label)) [
    | None ↦ None
    | Some label ↦ elim (parameters_of (part text fields.operand)) [ None ↦ None | Some parameters ↦ Some (record { name = name; label = label; parameters = parameters }) ]
  ]
]

abbrev pub one_more : Option (List ℕ) → Option (List (List ℕ)) → Option (List (List ℕ))
one_more first more = elim first [ None ↦ None | Some name ↦ elim more [ None ↦ None | Some names ↦ Some (name ∷ names) ] ]

abbrev pub definition_by : ℕ → List Line → Line → Option Model → Option MacroDefinition
definition_by following inner ends None = None
definition_by following inner ends (Some model) = Some (record { model = model; visible_after = following; body = record { lines = inner ++ ends ∷ []; reach = length inner } })

abbrev pub next_place : Option ℕ → Option ℕ
next_place None = None
next_place (Some place) = Some (place + 1)

abbrev pub model_fault : Line → Option Model → Option (Line × MacroCause)
model_fault line None = Some (line, BadArguments)
model_fault line (Some model) = None

-- the line from which a definition counts: in a macro file all count everywhere
abbrev pub counts_after : Bool → Line → ℕ
counts_after in_source begins = if in_source then begins.number else 0

abbrev pub number_of : Result Value ValueFault → Answer
number_of (Ok (Fixed n)) = Ok n
number_of (Ok (At file segment offset shift)) = Err BadSetting
number_of (Err fault) = Err BadSetting

-- the symbol of which a term asks is declared
abbrev pub is_declared : Values → expression.Term → Bool
is_declared values (expression.Operator code) = true
is_declared values expression.Location = true
is_declared values (expression.Constant n) = true
is_declared values (expression.Named code name) = is_some (text_of values name)
is_declared values (expression.Offset n) = true

-- whether the comparison of a text with what follows it holds
abbrev pub compared_with : List ℕ → Option (Bool × List ℕ) → Option Bool
compared_with a None = None
compared_with a (Some (equal, rest)) = option_map (λ b. if equal then bytes_eq a b else not (bytes_eq a b)) (unquoted_text rest)

-- a condition is a comparison of two texts, or a formula
abbrev pub IsConditionBy : Option Bool → Values → List ℕ → Answer → Type 0
IsConditionBy found values text answer = elim found [ Some holds ↦ answer ≡ Ok (truth holds) | None ↦ IsNumber values text answer ]

abbrev pub is_among : List (List ℕ) → List ℕ → Bool
is_among names name = list_any (bytes_eq name) names

-- the parameter at a place
abbrev pub by_place : List ℕ → ℕ → Option (List ℕ) → Option Binding
by_place piece place None = None
by_place piece place (Some name) = Some (record { name = name; text = piece; next = place + 1 })

abbrev pub or_place : Option Binding → Option Binding → Option Binding
or_place found other = elim found [ Some b ↦ Some b | None ↦ other ]

-- the operands of a call, separated by commas outside quotes and parentheses; none where there is no operand
abbrev pub arguments : List ℕ → List (List ℕ)
arguments [] = []
arguments (byte ∷ following) = pieces ascii.comma (byte ∷ following)

abbrev pub complete : List (List ℕ) → Option Symbols → Option Symbols
complete names None = None
complete names (Some symbols) = Some (with_missing names symbols)

-- one more byte of the first piece
abbrev pub with_byte : ℕ → List (List ℕ) → List (List ℕ)
with_byte byte [] = (byte ∷ []) ∷ []
with_byte byte (piece ∷ pieces) = (byte ∷ piece) ∷ pieces

abbrev pub appended_texts : Option (List ℕ) → Option (List ℕ) → Option (List ℕ)
appended_texts first more = elim first [ None ↦ None | Some a ↦ elim more [ None ↦ None | Some b ↦ Some (a ++ b) ] ]

abbrev pub after_dot : List ℕ → Found (List ℕ)
after_dot [] = None
after_dot (byte ∷ following) = if byte == ascii.dot then name_at following else None

abbrev pub is_operation : List ℕ → List ℕ → Bool
is_operation spelling operation = bytes_eq (folded operation) spelling

-- `L:` or `C:` is directly before a place
abbrev pub asks_before : List ℕ → ℕ → Bool
asks_before text at =
    let letter = to_ascii_uppercase (slice_index text (at - 2)) in
    (letter == ascii.capital_l || letter == ascii.capital_c) && slice_index text (at - 1) == ascii.colon

-- which it is in a line with this statement or none
abbrev pub naming_by : Option Statement → List ℕ → LineFields → ℕ → Naming
naming_by found text fields at = elim found [
  | None ↦ Replaced
  | Some statement ↦
      if declares statement && lies_in fields.operand at then Declared
      else if sets_label statement && lies_in fields.label at then Named
      else if may_ask statement && is_asked text fields.operand at then Named
      else Replaced
]

abbrev pub shared_text : Option (SymbolKind × List ℕ) → Option (List ℕ)
shared_text None = None
shared_text (Some (kind, text)) = Some text

-- the symbol SYSCNT, which is declared everywhere
abbrev pub count_name : List ℕ
count_name = codes "SYSCNT"
