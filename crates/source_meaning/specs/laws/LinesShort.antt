-- An expanded line has at most 255 bytes.
use Rattle.std.proofs.Common.{◌≡◌, ℕ, ◌≤◌, Bool, true, false, cond, eqb, ltb, List, [], ◌∷◌, ◌++◌, length, drop, Option, Some, None, Result, Ok, Err, refl, sym, subst, arith}
use Rattle.std.specs.Prelude.{pos, int_le, is_some, slice_get}
use Rattle.std.specs.List.{AllByRecursion}
use Rattle.std.proofs.lemmas.Bool.{ltb-false}
use Rattle.std.proofs.lemmas.List.{length-drop}
use Rattle.omf_format.specs.Value.{signed}
use Rattle.orca_meaning.specs.Line.{Line, LineFields, part, is_comment, three_fields}
use Rattle.macro_meaning.specs.declared.faults.MacroCause.{MacroCause}
use Rattle.macro_meaning.specs.declared.faults.MacroCause.TheVariants.{BadSetting, LineTooLong, NoSuchSymbol, Noted}
use Rattle.macro_meaning.specs.declared.statements.SymbolKind.{SymbolKind}
use Rattle.macro_meaning.specs.declared.statements.SymbolKind.TheVariants.{Number, Flag, Text}
use Rattle.macro_meaning.specs.declared.statements.Declaration.{Declaration}
use Rattle.macro_meaning.specs.declared.statements.Declaration.TheVariants.{Local, Shared}
use Rattle.macro_meaning.specs.declared.statements.Statement.{Statement}
use Rattle.macro_meaning.specs.declared.statements.Statement.TheVariants.{Declare, Set, Middle, BranchIf, Branch, Count, Nothing, Leave, Note, Define}
use Rattle.macro_meaning.specs.Call.{bound_arguments, names_count}
use Rattle.macro_meaning.specs.Condition.{Answer}
use Rattle.macro_meaning.specs.Effect.{Effect, NoEffect, Emit, DeclareSymbol, SetSymbol, BranchTo, SetCounter, Exit, CallMacro, Fail, first_time, declaring, settable, setting, pair_or_earlier_fault, or_bad, IsMiddle, IsSetting, IsDone, calling_at, SymbolSetting, operation_or_anop, without_sequence_symbol, IsAfterText, IsEffect}
use Rattle.macro_meaning.specs.Definition.{MacroDefinition}
use Rattle.macro_meaning.specs.Expansion.{IsExpanded, program_of}
use Rattle.macro_meaning.specs.Pieces.{pieces, unquoted_text}
use Rattle.macro_meaning.specs.Statements.{sequence_name, symbol_name, target_name}
use Rattle.macro_meaning.specs.Symbol.{Symbol, Symbols, Values, is_count, is_kind, is_declaration, declaration_of}
use Rattle.macro_meaning.specs.Visit.{MacroProgram, Visit, Move, On, IsVisit, Follow, line_at, setting_of, most_visits, first_visit}
use Rattle.macro_meaning.specs.laws.Steps.{declared_again, set_to, going, going_to, counting, noting, IsBranchIf, IsNote, resting, call_effect, calling, calling_if, IsDoneBy, IsAfterCut, begins_definition, IsShort, IsWithTexts, substituted_line, IsWritten, is_visible_in, given_by, IsVisitOf, IsVisitAt}
use Rattle.asm_meaning.specs.laws.PieceLaws.{all-append}

-- an effect gives a line of at most 255 bytes, or none
abbrev IsShortEffect : Effect → Type 0
IsShortEffect NoEffect = Unit {0}
IsShortEffect (Emit text) = length text ≤ 255
IsShortEffect (DeclareSymbol name declaration) = Unit {0}
IsShortEffect (SetSymbol name kind text) = Unit {0}
IsShortEffect (BranchTo name) = Unit {0}
IsShortEffect (SetCounter n) = Unit {0}
IsShortEffect Exit = Unit {0}
IsShortEffect (CallMacro place symbols) = Unit {0}
IsShortEffect (Fail cause) = Unit {0}

if_effect : (b : Bool) (x y : Effect) → IsShortEffect x → IsShortEffect y → IsShortEffect (cond b x y)
if_effect true x y p q = p
if_effect false x y p q = q

short_again : (name : List ℕ) (d : Declaration) (o : Option Symbol) (other : Effect) → IsShortEffect other → IsShortEffect (declared_again d o other)
short_again name d None other is = is
short_again name d (Some symbol) other is = if_effect (is_declaration d (declaration_of symbol)) NoEffect (Fail BadSetting) tt tt

short_first : (name : List ℕ) (d : Declaration) (o : Option (SymbolKind × List ℕ)) → IsShortEffect (first_time name d o)
short_first name (Local kind) o = tt
short_first name (Shared kind) None = tt
short_first name (Shared kind) (Some (other, text)) = if_effect (is_kind kind other) (DeclareSymbol name (Shared kind)) (Fail BadSetting) tt tt

short_declaring : (values : Values) (d : Declaration) (o : Option (List ℕ)) → IsShortEffect (declaring values d o)
unfolding declaring
short_declaring values d None = tt
short_declaring values d (Some name) =
    if_effect (is_count name) (Fail BadSetting) _ tt (short_again name d (values.symbols name) (first_time name d (values.texts name)) (short_first name d (values.texts name)))

short_set : (kind : SymbolKind) (r : Result (List ℕ × List ℕ) MacroCause) → IsShortEffect (set_to kind r)
short_set kind (Ok (name, text)) = tt
short_set kind (Err cause) = tt

short_setting : (values : Values) (kind : SymbolKind) (label : List ℕ) (r : Result (List ℕ) MacroCause) → IsShortEffect (setting values kind label r)
unfolding setting
short_setting values kind label r = short_set kind (pair_or_earlier_fault (settable values kind (symbol_name label)) r)

short_going : (r : Result (ℕ × List ℕ) MacroCause) → IsShortEffect (going r)
short_going (Ok (n, name)) = if_effect (eqb n 0) NoEffect (BranchTo name) tt tt
short_going (Err cause) = tt

short_going_to : (o : Option (List ℕ)) → IsShortEffect (going_to o)
short_going_to None = tt
short_going_to (Some name) = tt

short_counting : (a : Answer) → IsShortEffect (counting a)
short_counting (Ok n) = tt
short_counting (Err cause) = tt

short_noting : (r : Result (List ℕ × ℕ) MacroCause) → IsShortEffect (noting r)
short_noting (Ok (text, n)) = if_effect (int_le (pos 8) (signed n)) (Fail (Noted n)) NoEffect tt tt
short_noting (Err cause) = tt

short_resting : (label text : List ℕ) → length text ≤ 255 → IsShortEffect (resting label text)
short_resting [] text short = tt
short_resting (byte ∷ following) text short = short

so : (d e : Effect) → d ≡ e → IsShortEffect e → IsShortEffect d
so d e is short = subst IsShortEffect (sym is) short

short_branch_if : (values : Values) (ps : List (List ℕ)) (d : Effect) → IsBranchIf values ps d → IsShortEffect d
short_branch_if values [] d is = so d _ is tt
short_branch_if values (a ∷ []) d is = so d _ is tt
short_branch_if values (a ∷ b ∷ []) d is = so d _ is.2 (short_going (pair_or_earlier_fault is.0 (or_bad (target_name b))))
short_branch_if values (a ∷ b ∷ c ∷ ps) d is = so d _ is tt

short_middle : (values : Values) (label : List ℕ) (ps : List (List ℕ)) (d : Effect) → IsMiddle values label ps d → IsShortEffect d
short_middle values label [] d is = so d _ is (short_setting values Text label (Err BadSetting))
short_middle values label (a ∷ []) d is = so d _ is (short_setting values Text label (Err BadSetting))
short_middle values label (a ∷ b ∷ []) d is = so d _ is (short_setting values Text label (Err BadSetting))
short_middle values label (a ∷ b ∷ c ∷ []) d is = so d _ is.4 (short_setting values Text label _)
short_middle values label (a ∷ b ∷ c ∷ x ∷ ps) d is = so d _ is (short_setting values Text label (Err BadSetting))

short_note : (values : Values) (ps : List (List ℕ)) (d : Effect) → IsNote values ps d → IsShortEffect d
short_note values [] d is = so d _ is tt
short_note values (a ∷ []) d is = so d _ is tt
short_note values (a ∷ b ∷ []) d is = so d _ is.2 (short_noting (pair_or_earlier_fault (or_bad (unquoted_text a)) is.0))
short_note values (a ∷ b ∷ c ∷ ps) d is = so d _ is tt

short_sets : (values : Values) (kind : SymbolKind) (label operand : List ℕ) (d : Effect) → IsSetting values kind label operand d → IsShortEffect d
short_sets values Number label operand d is = so d _ is.2 (short_setting values Number label _)
short_sets values Flag label operand d is = so d _ is.2 (short_setting values Flag label _)
short_sets values Text label operand d is = so d _ is (short_setting values Text label _)

short_done : (values : Values) (s : Statement) (text label operand : List ℕ) (d : Effect) → length text ≤ 255 → IsDone values s text label operand d → IsShortEffect d
short_done values (Declare declaration) text label operand d short is = so d _ is (short_declaring values declaration (symbol_name operand))
short_done values (Set kind) text label operand d short is = short_sets values kind label operand d is
short_done values Middle text label operand d short is = short_middle values label (pieces 0x2C operand) d is
short_done values BranchIf text label operand d short is = short_branch_if values (pieces 0x2C operand) d is
short_done values Branch text label operand d short is = so d _ is (short_going_to _)
short_done values Count text label operand d short is = so d _ is.2 (short_counting is.0)
short_done values Nothing text label operand d short is = so d _ is (short_resting label text short)
short_done values Leave text label operand d short is = so d _ is tt
short_done values Note text label operand d short is = short_note values (pieces 0x2C operand) d is
short_done values Define text label operand d short is = so d (Emit text) is short

short_called : (place : ℕ) (o : Option Symbols) → IsShortEffect (call_effect place o)
short_called place None = tt
short_called place (Some symbols) = tt

short_call : (root : ℕ) (text : List ℕ) (place : ℕ) (o : Option MacroDefinition) (label operand : List ℕ) → length text ≤ 255 → IsShortEffect (calling_if root text place o label operand)
short_call root text place None label operand short = short
short_call root text place (Some d) label operand short =
    if_effect (is_visible_in root d) (calling place d label operand) (Emit text) (if_effect (names_count d.model) (Fail BadSetting) _ tt (short_called place (bound_arguments d.model label operand))) short

short_calls : (definitions : List MacroDefinition) (root : ℕ) (text : List ℕ) (o : Option ℕ) (label operand : List ℕ) → length text ≤ 255 → IsShortEffect (calling_at definitions root text o label operand)
short_calls definitions root text None label operand short = short
short_calls definitions root text (Some place) label operand short = short_call root text place (slice_get definitions place) label operand short

cut-le : (text : List ℕ) → length (without_sequence_symbol text) ≤ length text
unfolding without_sequence_symbol
cut-le text = by_sequence (is_some (sequence_name label))
  where
    label : List ℕ
    label = part text (three_fields text).label

    by_sequence : (b : Bool) → length (cond b (drop (length label) text) text) ≤ length text
    by_sequence true = omega (arith, length-drop (length label) text)
    by_sequence false = omega arith

short_effect : (s : SymbolSetting) (line : Line) (d : Effect) → IsEffect s line d → IsShortEffect d
short_effect s line d is = by_comment (is_comment line.text) is
  where
    by_statement : (text : List ℕ) (fields : LineFields) (o : Option Statement) → length text ≤ 255 → IsDoneBy s text fields o d → IsShortEffect d
    by_statement text fields None short is = so d _ is (short_calls s.definitions s.root text _ (part text fields.label) (part text fields.operand) short)
    by_statement text fields (Some statement) short is = short_done s.values statement text (part text fields.label) (part text fields.operand) d short is

    by_cut : (b : Bool) (text : List ℕ) → length text ≤ 255 → IsAfterCut s b text d → IsShortEffect d
    by_cut true text short is = so d NoEffect is tt
    by_cut false text short is = by_statement text (three_fields text) (operation_or_anop (part text (three_fields text).operation)) short is

    by_begins : (b : Bool) (text : List ℕ) → length text ≤ 255 → IsAfterText s b text d → IsShortEffect d
    by_begins true text short is = so d NoEffect is tt
    by_begins false text short is = by_cut (is_comment (without_sequence_symbol text)) (without_sequence_symbol text) (omega (arith, cut-le text, short)) is

    by_length : (b : Bool) (text : List ℕ) → ltb 255 (length text) ≡ b → IsShort s line b text d → IsShortEffect d
    by_length true text long is = so d (Fail LineTooLong) is tt
    by_length false text long is = by_begins (begins_definition s line) text (omega (arith, ltb-false 255 (length text) long)) is

    by_texts : (o : Option (List ℕ)) → IsWithTexts s line o d → IsShortEffect d
    by_texts None is = so d (Fail NoSuchSymbol) is tt
    by_texts (Some text) is = by_length (ltb 255 (length text)) text refl is

    by_comment : (b : Bool) → IsWritten s line b d → IsShortEffect d
    by_comment true is = so d NoEffect is tt
    by_comment false is = by_texts (substituted_line s.values line) is

abbrev pub AreShortLines : List Line → Type 0
AreShortLines lines = AllByRecursion (λ line. length line.text ≤ 255) lines

given_short : (line : Line) (d : Effect) → IsShortEffect d → AreShortLines (given_by line d)
given_short line NoEffect is = tt
given_short line (Emit text) is = (is, tt)
given_short line (DeclareSymbol name declaration) is = tt
given_short line (SetSymbol name kind text) is = tt
given_short line (BranchTo name) is = tt
given_short line (SetCounter n) is = tt
given_short line Exit is = tt
given_short line (CallMacro place symbols) is = tt
given_short line (Fail cause) is = tt

visit_short : (program : MacroProgram) (before : List Visit) (v : Visit) (given : List Line) (move : Move) → IsVisit program before v given move → AreShortLines given
visit_short program before v given move is = by_line (line_at program v.macro v.line) is
  where
    by_count : (line : Line) (b : Bool) → IsVisitOf program before v line b given move → AreShortLines given
    by_count line true is = subst AreShortLines (sym is.0) tt
    by_count line false is = subst AreShortLines (sym is.2) (given_short line is.0 (short_effect (setting_of program v line.number) line is.0 is.1))

    by_line : (o : Option Line) → IsVisitAt program before v o given move → AreShortLines given
    by_line None is = subst AreShortLines (sym is.0) tt
    by_line (Some line) is = by_count line (eqb (length before) most_visits) is

follow_short : (program : MacroProgram) (before : List Visit) (v : Visit) (ws : List Visit) (given : List Line) (end : Move) → Follow program before v ws given end → AreShortLines given
follow_short program before v [] given end is = visit_short program before v given end is
follow_short program before v (w ∷ ws) given end is =
    subst AreShortLines (sym is.3) (all-append (λ line. length line.text ≤ 255) is.0 is.1 (visit_short program before v is.0 (On w) is.2) (follow_short program (before ++ v ∷ []) w ws is.1 end is.4))

-- the expanded lines of a source with macro files
pub expanded_short : (source : List ℕ) (macros : List (List ℕ)) (lines : List Line) → IsExpanded source macros lines → AreShortLines lines
expanded_short source macros lines is = follow_short (program_of source macros) [] first_visit is.visited.visits lines _ is.visited.follow
