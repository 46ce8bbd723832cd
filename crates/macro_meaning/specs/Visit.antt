-- Visits: the lines that an expansion goes over, one after another (ORCA/M reference manual, "Macros" and "Conditional
-- assembly").
use Rattle.std.specs.Prelude.{◌≡◌, ℕ, zero, suc, ◌+◌, ◌-◌, ◌==◌, Bool, true, false, List, [], ◌∷◌, ◌++◌, length, take, slice_get, bytes_eq, Option, Some, None, is_some, is_none, if◌then◌else◌}
use Rattle.orca_meaning.specs.Line.{Line, line_of, part}
use Rattle.macro_meaning.specs.declared.faults.MacroCause.{MacroCause}
use Rattle.macro_meaning.specs.declared.faults.MacroCause.TheVariants.{TooManyLines, NoSequenceSymbol, Counter, TooNested}
use Rattle.macro_meaning.specs.declared.statements.SymbolKind.{SymbolKind}
use Rattle.macro_meaning.specs.declared.statements.Declaration.TheVariants.{Local, Shared}
use Rattle.macro_meaning.specs.Call.{no_symbols}
use Rattle.macro_meaning.specs.Effect.{Effect, NoEffect, Emit, DeclareSymbol, SetSymbol, BranchTo, SetCounter, Exit, CallMacro, Fail, SymbolSetting, IsEffect}
use Rattle.macro_meaning.specs.Definition.{MacroBody, MacroDefinition}
use Rattle.macro_meaning.specs.Statements.{sequence_name}
use Rattle.macro_meaning.specs.Symbol.{Own, Common, Symbols, SharedTexts, first_text}
use Rattle.orca_meaning.specs.Names.{with_name}

-- the lines of the source, and the macros
pub record MacroProgram : Type 0 where
  pub source : MacroBody
  pub definitions : List MacroDefinition

-- A visited line: the macro whose line it is by its place among the definitions, or the source; the line's place there; how
-- deep its expansion is nested; the place in the list of visits of the one that called it; the line of the source at
-- which the outermost expansion began; the counter and the symbols of its expansion; the shared texts; and how many macros
-- were called.
pub record Visit : Type 0 where
  pub macro : Option ℕ
  pub line : ℕ
  pub depth : ℕ
  pub caller : Option ℕ
  pub root : ℕ
  pub counter : ℕ
  pub symbols : Symbols
  pub texts : SharedTexts
  pub calls : ℕ

-- what follows a visit
pub data Move : Type 0 where
  -- this visit
  On : (v : Visit) → Move
  -- nothing: the whole expansion has ended without a fault
  Ends : Move
  -- nothing: the visited line has a fault
  Stops : (line : Line) (cause : MacroCause) → Move

-- ---- lines

-- the lines of a macro by its place among the definitions, or those of the source
abbrev pub body_of : MacroProgram → Option ℕ → MacroBody
body_of program None = program.source
body_of program (Some place) = elim (slice_get program.definitions place) [ None ↦ record { lines = []; reach = 0 } | Some d ↦ d.body ]

-- the line at a place of a macro, or of the source
abbrev pub line_at : MacroProgram → Option ℕ → ℕ → Option Line
line_at program macro place = slice_get (body_of program macro).lines place

-- the line of the source at which the outermost expansion of a visit began; for a line of the source that line
abbrev pub root_by : Option ℕ → ℕ → ℕ → ℕ
root_by None root number = number
root_by (Some place) root number = root

-- where the line of this number is in a visit
abbrev pub setting_of : MacroProgram → Visit → ℕ → SymbolSetting
setting_of program v number = record {
  definitions = program.definitions;
  root = root_by v.caller v.root number;
  in_source = is_none v.macro;
  values = record { symbols = v.symbols; texts = v.texts; calls = v.calls };
}

-- ---- what an effect leaves

-- the first declaration of a shared symbol gives it a text
abbrev pub shared_first : List ℕ → SymbolKind → SharedTexts → SharedTexts
shared_first name kind texts = if is_some (texts name) then texts else with_name name (kind, first_text kind) texts

-- the visit with what its line declares or sets
abbrev pub visit_after : Visit → Effect → Visit
visit_after v (DeclareSymbol name (Local kind)) = record v { symbols = with_name name (Own kind (first_text kind)) v.symbols }
visit_after v (DeclareSymbol name (Shared kind)) = record v { symbols = with_name name (Common kind) v.symbols; texts = shared_first name kind v.texts }
visit_after v (SetSymbol name kind text) = elim (v.symbols name) [
  | None ↦ v
  | Some (Own other old) ↦ record v { symbols = with_name name (Own kind text) v.symbols }
  | Some (Common other) ↦ record v { texts = with_name name (kind, text) v.texts }
]
visit_after v (SetCounter n) = record v { counter = n }
visit_after v _ = v

-- ---- what follows

-- the first move where the line is there, and else the other
abbrev pub if_line : Option Line → Move → Move → Move
if_line None on otherwise = otherwise
if_line (Some line) on otherwise = on

-- What follows the last visit of an expansion of this depth, which the visit at the place `caller` called: the line after that call,
-- with what all expansions share as it is now; where the call is in the last line of its body, what follows that expansion. After the
-- source, of depth 0, all ends.
unfoldable pub move_after_expansion : MacroProgram → List Visit → Visit → ℕ → Option ℕ → Move
move_after_expansion program before last zero caller = Ends
move_after_expansion program before last (suc depth) None = Ends
move_after_expansion program before last (suc depth) (Some place) = elim (slice_get before place) [
  | None ↦ Ends
  | Some v ↦ if_line (line_at program v.macro (v.line + 1)) (On (record v { line = v.line + 1; texts = last.texts; calls = last.calls })) (move_after_expansion program before last depth v.caller)
]

-- the next line of the body, or what follows the expansion
unfoldable pub next_line : MacroProgram → List Visit → Visit → Move
next_line program before v = if_line (line_at program v.macro (v.line + 1)) (On (record v { line = v.line + 1 })) (move_after_expansion program before v v.depth v.caller)

-- the label of the line is this sequence symbol
abbrev pub has_sequence : List ℕ → Line → Bool
has_sequence name line = elim (sequence_name (part line.text line.fields.label)) [ None ↦ false | Some other ↦ bytes_eq other name ]

-- the places of the lines with this sequence symbol, of which the first is at this place
unfoldable pub places_from : ℕ → List ℕ → List Line → List ℕ
places_from at name [] = []
places_from at name (line ∷ lines) =
    if has_sequence name line then at ∷ places_from (at + 1) name lines else places_from (at + 1) name lines

-- the only line to which a branch can go
unfoldable pub target_of : MacroBody → List ℕ → Option ℕ
target_of body name = elim (places_from 0 name (take body.reach body.lines)) [ [] ↦ None | place ∷ [] ↦ Some place | place ∷ next ∷ places ↦ None ]

-- an expansion begins at the first line of the macro
abbrev pub call_of : List Visit → Visit → Line → ℕ → Symbols → Move
call_of before v line place symbols =
    if v.depth == 32 then Stops line TooNested
    else On (record {
      macro = Some place;
      line = 0;
      depth = v.depth + 1;
      caller = Some (length before);
      root = root_by v.caller v.root line.number;
      counter = 255;
      symbols = symbols;
      texts = v.texts;
      calls = v.calls + 1;
    })

-- what follows a visit with this effect; a branch lowers the counter of its expansion
unfoldable pub move_of : MacroProgram → List Visit → Visit → Line → Effect → Move
move_of program before v line NoEffect = next_line program before v
move_of program before v line (Emit text) = next_line program before v
move_of program before v line (DeclareSymbol name declaration) = next_line program before (visit_after v (DeclareSymbol name declaration))
move_of program before v line (SetSymbol name kind text) = next_line program before (visit_after v (SetSymbol name kind text))
move_of program before v line (BranchTo name) = elim (target_of (body_of program v.macro) name) [
  | None ↦ Stops line NoSequenceSymbol
  | Some place ↦ if v.counter == 0 then Stops line Counter else On (record v { line = place; counter = v.counter - 1 })
]
move_of program before v line (SetCounter n) = next_line program before (visit_after v (SetCounter n))
move_of program before v line Exit = move_after_expansion program before v v.depth v.caller
move_of program before v line (CallMacro place symbols) = call_of before v line place symbols
move_of program before v line (Fail cause) = Stops line cause

-- ---- visits

-- the most visits
abbrev pub most_visits : ℕ
most_visits = 1000000

-- a visit after these others gives these lines, and this follows it
abbrev pub IsVisit : MacroProgram → List Visit → Visit → List Line → Move → Type 0
IsVisit program before v given move = elim (line_at program v.macro v.line) [
  | None ↦ (given ≡ []) × (move ≡ Ends)
  | Some line ↦ elim (length before == most_visits) [
    | true ↦ (given ≡ []) × (move ≡ Stops line TooManyLines)
    | false ↦ (effect : Effect) × IsEffect (setting_of program v line.number) line effect
        × (given ≡ (elim effect [ Emit text ↦ line_of line.file line.number text ∷ [] | _ ↦ [] ])) × (move ≡ move_of program before v line effect)
  ]
]

-- each of these visits follows the one before it; together they give these lines, and the last is followed by this
abbrev pub Follow : MacroProgram → List Visit → Visit → List Visit → List Line → Move → Type 0
Follow program before v [] given end = IsVisit program before v given end
Follow program before v (w ∷ ws) given end =
    (first rest : List Line) × IsVisit program before v first (On w) × (given ≡ first ++ rest) × Follow program (before ++ v ∷ []) w ws rest end

-- no shared symbol has a text
abbrev pub no_texts : SharedTexts
no_texts name = None

-- the source's first line
abbrev pub first_visit : Visit
first_visit = record {
  macro = None;
  line = 0;
  depth = 0;
  caller = None;
  root = 0;
  counter = 255;
  symbols = no_symbols;
  texts = no_texts;
  calls = 0;
}
