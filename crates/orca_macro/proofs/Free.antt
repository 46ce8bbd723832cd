-- No line's fault is a lack of memory.
use Rattle.std.proofs.Common.{◌≡◌, ℕ, zero, suc, ◌+◌, Bool, true, false, cond, eqb, ltb, ℤ, pos, negsuc, List, [], ◌∷◌, ◌++◌, length, Option, Some, None, refl, sym, subst}
use Rattle.std.specs.Prelude.{not, slice_get, int_le, Result, Ok, Err}
use Rattle.std.specs.List.{list_all}
use Rattle.omf_format.specs.declared.value.Value.{Value}
use Rattle.omf_format.specs.declared.value.Value.TheVariants.{Fixed, At}
use Rattle.omf_format.specs.declared.value.ValueFault.{ValueFault}
use Rattle.omf_format.specs.Expression.{Tree, terms_of, depth}
use Rattle.omf_format.specs.Value.{value, signed}
use Rattle.orca_meaning.specs.Formula.{has_large}
use Rattle.orca_meaning.specs.Line.{Line, LineFields, part, is_comment, three_fields}
use Rattle.orca_meaning.specs.Characters.{folded}
use Rattle.macro_meaning.specs.declared.faults.MacroCause.{MacroCause}
use Rattle.macro_meaning.specs.declared.faults.MacroCause.TheVariants.{LineTooLong, TooManyLines, NoSuchSymbol, BadSetting, BadArguments, NoSequenceSymbol, Unclosed, Counter, TooNested, Noted, Memory}
use Rattle.macro_meaning.specs.declared.faults.MacroFault.{MacroFault}
use Rattle.macro_meaning.specs.declared.statements.SymbolKind.{SymbolKind}
use Rattle.macro_meaning.specs.declared.statements.SymbolKind.TheVariants.{Number, Flag, Text}
use Rattle.macro_meaning.specs.declared.statements.Declaration.{Declaration}
use Rattle.macro_meaning.specs.declared.statements.Declaration.TheVariants.{Local, Shared}
use Rattle.macro_meaning.specs.declared.statements.Statement.{Statement}
use Rattle.macro_meaning.specs.declared.statements.Statement.TheVariants.{Declare, Set, Middle, BranchIf, Branch, Count, Nothing, Leave, Note, Define}
use Rattle.macro_meaning.specs.Call.{bound_arguments, names_count}
use Rattle.macro_meaning.specs.Condition.{Answer, answer_of, symbol_environment, IsNumber, Formula, NoFormula, IsCondition, comparison}
use Rattle.macro_meaning.specs.Effect.{Effect, NoEffect, Emit, DeclareSymbol, SetSymbol, BranchTo, SetCounter, Exit, CallMacro, Fail, SymbolSetting, pair_or_earlier_fault, or_bad, first_time, declaring, settable, setting, middle_from, IsMiddle, IsSetting, IsDone, calling_at, operation_or_anop, without_sequence_symbol, IsAfterText, IsEffect}
use Rattle.macro_meaning.specs.Definition.{MacroDefinition, DefinitionPart, Plain, Closed, Open, Model, model_of, part_fault, first_part_fault, or_else, first_named}
use Rattle.macro_meaning.specs.Expansion.{line_fault_of, file_parts, file_part_fault, first_in, first_of_files, next_file, StopsAt}
use Rattle.macro_meaning.specs.Pieces.{pieces, unquoted_text, joined_texts}
use Rattle.macro_meaning.specs.Statements.{symbol_name, target_name}
use Rattle.macro_meaning.specs.Symbol.{Symbol, Symbols, Values, is_count, kind_of, declaration_of, is_kind, is_declaration}
use Rattle.macro_meaning.specs.Visit.{MacroProgram, Visit, Move, On, Ends, Stops, IsVisit, Follow, line_at, if_line, move_after_expansion, next_line, target_of, body_of, call_of, move_of, visit_after, setting_of, most_visits, first_visit}
use Rattle.macro_meaning.specs.laws.Steps.{number_of, is_declared, IsConditionBy, earlier, declared_again, of_kind, set_to, printed_answer, middle_of, going, going_to, counting, noting, IsBranchIf, IsNote, resting, call_effect, calling_if, IsDoneBy, IsAfterCut, begins_definition, IsShort, IsWithTexts, substituted_line, IsWritten, model_fault, is_visible_in, IsVisitOf, IsVisitAt, next_visit, visit_after_call, branch_to}

unfoldable pub is_memory : MacroCause → Bool
is_memory LineTooLong = false
is_memory TooManyLines = false
is_memory NoSuchSymbol = false
is_memory BadSetting = false
is_memory BadArguments = false
is_memory NoSequenceSymbol = false
is_memory Unclosed = false
is_memory Counter = false
is_memory TooNested = false
is_memory (Noted n) = false
is_memory Memory = true

abbrev Free : {A : Type 0} → Result A MacroCause → Type 0
Free (Ok a) = Unit {0}
Free (Err cause) = is_memory cause ≡ false

abbrev EffectFree : Effect → Type 0
EffectFree NoEffect = Unit {0}
EffectFree (Emit text) = Unit {0}
EffectFree (DeclareSymbol name declaration) = Unit {0}
EffectFree (SetSymbol name kind text) = Unit {0}
EffectFree (BranchTo name) = Unit {0}
EffectFree (SetCounter n) = Unit {0}
EffectFree Exit = Unit {0}
EffectFree (CallMacro place symbols) = Unit {0}
EffectFree (Fail cause) = is_memory cause ≡ false

-- ---- answers

bad_free : is_memory BadSetting ≡ false
unfolding is_memory
bad_free = refl

lost_free : is_memory NoSuchSymbol ≡ false
unfolding is_memory
lost_free = refl

earlier_free : (a b : MacroCause) → is_memory a ≡ false → is_memory b ≡ false → is_memory (earlier a b) ≡ false
unfolding is_memory
earlier_free LineTooLong b p q = p
earlier_free TooManyLines b p q = p
earlier_free NoSuchSymbol b p q = p
earlier_free BadSetting b p q = q
earlier_free BadArguments b p q = p
earlier_free NoSequenceSymbol b p q = p
earlier_free Unclosed b p q = p
earlier_free Counter b p q = p
earlier_free TooNested b p q = p
earlier_free (Noted n) b p q = p
earlier_free Memory b p q = absurd cc

both_free : {A B : Type 0} (a : Result A MacroCause) (b : Result B MacroCause) → Free a → Free b → Free (pair_or_earlier_fault a b)
both_free (Ok a) (Ok b) p q = tt
both_free (Ok a) (Err c) p q = q
both_free (Err c) (Ok b) p q = p
both_free (Err c) (Err d) p q = earlier_free c d p q

or_bad_free : {A : Type 0} (o : Option A) → Free (or_bad o)
or_bad_free None = bad_free
or_bad_free (Some a) = tt

number_of_free : (r : Result Value ValueFault) → Free (number_of r)
number_of_free (Ok (Fixed n)) = tt
number_of_free (Ok (At file segment offset shift)) = bad_free
number_of_free (Err fault) = bad_free

cond_free : {A : Type 0} (b : Bool) (x y : Result A MacroCause) → Free x → Free y → Free (cond b x y)
cond_free true x y p q = p
cond_free false x y p q = q

answer_free : (values : Values) (t : Tree) → Free (answer_of values t)
unfolding answer_of
answer_free values t =
    cond_free (not (list_all (is_declared values) (terms_of t))) _ _ lost_free
    (cond_free (has_large t) _ _ bad_free (cond_free (ltb 64 (depth t)) _ _ bad_free (number_of_free (value (symbol_environment values) 0 0 t))))

as_free : {A : Type 0} (a b : Result A MacroCause) → a ≡ b → Free b → Free a
as_free a b e p = subst Free (sym e) p

is_number_free : (values : Values) (text : List ℕ) (a : Answer) → IsNumber values text a → Free a
is_number_free values text a (Formula t means is) = as_free a (answer_of values t) is (answer_free values t)
is_number_free values text a (NoFormula none is) = as_free a (Err BadSetting) is bad_free

condition_free : (values : Values) (text : List ℕ) (a : Answer) → IsCondition values text a → Free a
condition_free values text a is = by_comparison (comparison text) is
  where
    by_comparison : (o : Option Bool) → IsConditionBy o values text a → Free a
    by_comparison (Some holds) is = subst Free (sym is) tt
    by_comparison None is = is_number_free values text a is

-- ---- effects

effect_as : (d e : Effect) → d ≡ e → EffectFree e → EffectFree d
effect_as d e is p = subst EffectFree (sym is) p

cond_effect : (b : Bool) (x y : Effect) → EffectFree x → EffectFree y → EffectFree (cond b x y)
cond_effect true x y p q = p
cond_effect false x y p q = q

declaring_free : (values : Values) (declaration : Declaration) (o : Option (List ℕ)) → EffectFree (declaring values declaration o)
unfolding declaring
declaring_free values declaration None = bad_free
declaring_free values declaration (Some name) = cond_effect (is_count name) _ _ bad_free (by_symbol (values.symbols name))
  where
    by_text : (d : Declaration) (o : Option (SymbolKind × List ℕ)) → EffectFree (first_time name d o)
    by_text (Local kind) o = tt
    by_text (Shared kind) None = tt
    by_text (Shared kind) (Some x) = cond_effect (is_kind kind x.0) _ _ tt bad_free

    by_symbol : (o : Option Symbol) → EffectFree (declared_again declaration o (first_time name declaration (values.texts name)))
    by_symbol None = by_text declaration (values.texts name)
    by_symbol (Some s) = cond_effect (is_declaration declaration (declaration_of s)) _ _ tt bad_free

settable_free : (values : Values) (kind : SymbolKind) (o : Option (List ℕ)) → Free (settable values kind o)
unfolding settable
settable_free values kind None = bad_free
settable_free values kind (Some name) = cond_free (is_count name) _ _ bad_free (by_symbol (values.symbols name))
  where
    by_symbol : (o : Option Symbol) → Free (of_kind name kind o)
    by_symbol None = lost_free
    by_symbol (Some s) = cond_free (is_kind kind (kind_of s)) _ _ tt bad_free

set_to_free : (kind : SymbolKind) (r : Result (List ℕ × List ℕ) MacroCause) → Free r → EffectFree (set_to kind r)
set_to_free kind (Ok x) p = tt
set_to_free kind (Err c) p = p

setting_free : (values : Values) (kind : SymbolKind) (label : List ℕ) (text : Result (List ℕ) MacroCause) → Free text → EffectFree (setting values kind label text)
unfolding setting
setting_free values kind label text p = set_to_free kind (pair_or_earlier_fault (settable values kind (symbol_name label)) text) (both_free _ text (settable_free values kind (symbol_name label)) p)

printed_free : (kind : SymbolKind) (a : Answer) → Free a → Free (printed_answer kind a)
printed_free kind (Ok n) p = tt
printed_free kind (Err c) p = p

middle_from_free : (text : List ℕ) (start count : ℤ) → Free (middle_from text start count)
middle_from_free text (pos zero) count = bad_free
middle_from_free text (pos (suc start)) (pos count) = tt
middle_from_free text (pos (suc start)) (negsuc count) = bad_free
middle_from_free text (negsuc start) count = bad_free

middle_free : (r : Result (List ℕ × (ℕ × ℕ)) MacroCause) → Free r → Free (middle_of r)
middle_free (Ok x) p = middle_from_free x.0 (signed x.1.0) (signed x.1.1)
middle_free (Err c) p = p

going_free : (r : Result (ℕ × List ℕ) MacroCause) → Free r → EffectFree (going r)
going_free (Ok x) p = cond_effect (eqb x.0 0) _ _ tt tt
going_free (Err c) p = p

going_to_free : (o : Option (List ℕ)) → EffectFree (going_to o)
going_to_free None = bad_free
going_to_free (Some name) = tt

counting_free : (a : Answer) → Free a → EffectFree (counting a)
counting_free (Ok n) p = tt
counting_free (Err c) p = p

noted_free : (n : ℕ) → is_memory (Noted n) ≡ false
unfolding is_memory
noted_free n = refl

noting_free : (r : Result (List ℕ × ℕ) MacroCause) → Free r → EffectFree (noting r)
noting_free (Ok x) p = cond_effect (int_le (pos 8) (signed x.1)) _ _ (noted_free x.1) tt
noting_free (Err c) p = p

branch_if_free : (values : Values) (ps : List (List ℕ)) (d : Effect) → IsBranchIf values ps d → EffectFree d
branch_if_free values [] d p = effect_as d (Fail BadSetting) p bad_free
branch_if_free values (a ∷ []) d p = effect_as d (Fail BadSetting) p bad_free
branch_if_free values (a ∷ b ∷ []) d p = effect_as d _ p.2 (going_free _ (both_free p.0 (or_bad (target_name b)) (condition_free values a p.0 p.1) (or_bad_free (target_name b))))
branch_if_free values (a ∷ b ∷ c ∷ ps) d p = effect_as d (Fail BadSetting) p bad_free

middle_effect_free : (values : Values) (label : List ℕ) (ps : List (List ℕ)) (d : Effect) → IsMiddle values label ps d → EffectFree d
middle_effect_free values label [] d p = effect_as d _ p (setting_free values Text label (Err BadSetting) bad_free)
middle_effect_free values label (a ∷ []) d p = effect_as d _ p (setting_free values Text label (Err BadSetting) bad_free)
middle_effect_free values label (a ∷ b ∷ []) d p = effect_as d _ p (setting_free values Text label (Err BadSetting) bad_free)
middle_effect_free values label (a ∷ b ∷ c ∷ []) d p =
    effect_as d _ p.4 (setting_free values Text label _ (middle_free _ (both_free (or_bad (unquoted_text a)) (pair_or_earlier_fault p.0 p.1) (or_bad_free (unquoted_text a))
    (both_free p.0 p.1 (is_number_free values b p.0 p.2) (is_number_free values c p.1 p.3)))))
middle_effect_free values label (a ∷ b ∷ c ∷ x ∷ ps) d p = effect_as d _ p (setting_free values Text label (Err BadSetting) bad_free)

note_free : (values : Values) (ps : List (List ℕ)) (d : Effect) → IsNote values ps d → EffectFree d
note_free values [] d p = effect_as d (Fail BadSetting) p bad_free
note_free values (a ∷ []) d p = effect_as d (Fail BadSetting) p bad_free
note_free values (a ∷ b ∷ []) d p = effect_as d _ p.2 (noting_free _ (both_free (or_bad (unquoted_text a)) p.0 (or_bad_free (unquoted_text a)) (is_number_free values b p.0 p.1)))
note_free values (a ∷ b ∷ c ∷ ps) d p = effect_as d (Fail BadSetting) p bad_free

setting_effect_free : (values : Values) (kind : SymbolKind) (label operand : List ℕ) (d : Effect) → IsSetting values kind label operand d → EffectFree d
setting_effect_free values Number label operand d p = effect_as d _ p.2 (setting_free values Number label _ (printed_free Number p.0 (condition_free values operand p.0 p.1)))
setting_effect_free values Flag label operand d p = effect_as d _ p.2 (setting_free values Flag label _ (printed_free Flag p.0 (condition_free values operand p.0 p.1)))
setting_effect_free values Text label operand d p = effect_as d _ p (setting_free values Text label _ (or_bad_free (joined_texts (pieces 0x2B operand))))

resting_free : (label text : List ℕ) → EffectFree (resting label text)
resting_free [] text = tt
resting_free (byte ∷ label) text = tt

done_free : (values : Values) (s : Statement) (text label operand : List ℕ) (d : Effect) → IsDone values s text label operand d → EffectFree d
done_free values (Declare declaration) text label operand d p = effect_as d _ p (declaring_free values declaration (symbol_name operand))
done_free values (Set kind) text label operand d p = setting_effect_free values kind label operand d p
done_free values Middle text label operand d p = middle_effect_free values label (pieces 0x2C operand) d p
done_free values BranchIf text label operand d p = branch_if_free values (pieces 0x2C operand) d p
done_free values Branch text label operand d p = effect_as d _ p (going_to_free (target_name operand))
done_free values Count text label operand d p = effect_as d _ p.2 (counting_free p.0 (is_number_free values operand p.0 p.1))
done_free values Nothing text label operand d p = effect_as d _ p (resting_free label text)
done_free values Leave text label operand d p = effect_as d Exit p tt
done_free values Note text label operand d p = note_free values (pieces 0x2C operand) d p
done_free values Define text label operand d p = effect_as d (Emit text) p tt

arguments_free : is_memory BadArguments ≡ false
unfolding is_memory
arguments_free = refl

calling_free : (definitions : List MacroDefinition) (root : ℕ) (text : List ℕ) (o : Option ℕ) (label operand : List ℕ) → EffectFree (calling_at definitions root text o label operand)
calling_free definitions root text None label operand = tt
calling_free definitions root text (Some place) label operand = by_definition (slice_get definitions place)
  where
    by_bound : (o : Option Symbols) → EffectFree (call_effect place o)
    by_bound None = arguments_free
    by_bound (Some symbols) = tt

    by_definition : (o : Option MacroDefinition) → EffectFree (calling_if root text place o label operand)
    by_definition None = tt
    by_definition (Some d) = cond_effect (is_visible_in root d) _ _ (cond_effect (names_count d.model) _ _ bad_free (by_bound (bound_arguments d.model label operand))) tt

long_free : is_memory LineTooLong ≡ false
unfolding is_memory
long_free = refl

effect_free : (s : SymbolSetting) (line : Line) (d : Effect) → IsEffect s line d → EffectFree d
effect_free s line d p = by_comment (is_comment line.text) p
  where
    by_statement : (text : List ℕ) (fields : LineFields) (o : Option Statement) → IsDoneBy s text fields o d → EffectFree d
    by_statement text fields None p = effect_as d _ p (calling_free s.definitions s.root text (first_named (folded (part text fields.operation)) s.definitions) (part text fields.label) (part text fields.operand))
    by_statement text fields (Some statement) p = done_free s.values statement text (part text fields.label) (part text fields.operand) d p

    by_cut : (b : Bool) (text : List ℕ) → IsAfterCut s b text d → EffectFree d
    by_cut true text p = effect_as d NoEffect p tt
    by_cut false text p = by_statement text (three_fields text) (operation_or_anop (part text (three_fields text).operation)) p

    by_begins : (b : Bool) (text : List ℕ) → IsAfterText s b text d → EffectFree d
    by_begins true text p = effect_as d NoEffect p tt
    by_begins false text p = by_cut (is_comment (without_sequence_symbol text)) (without_sequence_symbol text) p

    by_length : (b : Bool) (text : List ℕ) → IsShort s line b text d → EffectFree d
    by_length true text p = effect_as d (Fail LineTooLong) p long_free
    by_length false text p = by_begins (begins_definition s line) text p

    by_texts : (o : Option (List ℕ)) → IsWithTexts s line o d → EffectFree d
    by_texts None p = effect_as d (Fail NoSuchSymbol) p lost_free
    by_texts (Some text) p = by_length (ltb 255 (length text)) text p

    by_comment : (b : Bool) → IsWritten s line b d → EffectFree d
    by_comment true p = effect_as d NoEffect p tt
    by_comment false p = by_texts (substituted_line s.values line) p

-- ---- visits

abbrev MoveFree : Move → Type 0
MoveFree (On v) = Unit {0}
MoveFree Ends = Unit {0}
MoveFree (Stops line cause) = is_memory cause ≡ false

if_line_free : (o : Option Line) (a b : Move) → MoveFree a → MoveFree b → MoveFree (if_line o a b)
if_line_free None a b p q = q
if_line_free (Some line) a b p q = p

returned_free : (program : MacroProgram) (before : List Visit) (last : Visit) (depth : ℕ) (caller : Option ℕ) → MoveFree (move_after_expansion program before last depth caller)
unfolding move_after_expansion
returned_free program before last zero caller = tt
returned_free program before last (suc depth) None = tt
returned_free program before last (suc depth) (Some place) = by_visit (slice_get before place) (λ (c : Option ℕ). returned_free program before last depth c)
  where
    by_visit : (o : Option Visit) → ((c : Option ℕ) → MoveFree (move_after_expansion program before last depth c))
        → MoveFree (elim o [ None ↦ Ends | Some v ↦ if_line (line_at program v.macro (v.line + 1)) (On (visit_after_call v last)) (move_after_expansion program before last depth v.caller) ])
    by_visit None more = tt
    by_visit (Some v) more = if_line_free (line_at program v.macro (v.line + 1)) (On (visit_after_call v last)) (move_after_expansion program before last depth v.caller) tt (more v.caller)

next_free : (program : MacroProgram) (before : List Visit) (v : Visit) → MoveFree (next_line program before v)
unfolding next_line
next_free program before v = if_line_free (line_at program v.macro (v.line + 1)) (On (next_visit v)) (move_after_expansion program before v v.depth v.caller) tt (returned_free program before v v.depth v.caller)

cond_move : (b : Bool) (x y : Move) → MoveFree x → MoveFree y → MoveFree (cond b x y)
cond_move true x y p q = p
cond_move false x y p q = q

branch_free : (v : Visit) (line : Line) (o : Option ℕ) → MoveFree (branch_to v line o)
unfolding is_memory
branch_free v line None = refl
branch_free v line (Some place) = cond_move (eqb v.counter 0) _ _ refl tt

call_free : (before : List Visit) (v : Visit) (line : Line) (place : ℕ) (symbols : Symbols) → MoveFree (call_of before v line place symbols)
unfolding is_memory
call_free before v line place symbols = cond_move (eqb v.depth 32) _ _ refl tt

move_free : (program : MacroProgram) (before : List Visit) (v : Visit) (line : Line) (d : Effect) → EffectFree d → MoveFree (move_of program before v line d)
unfolding move_of
move_free program before v line NoEffect p = next_free program before v
move_free program before v line (Emit text) p = next_free program before v
move_free program before v line (DeclareSymbol name declaration) p = next_free program before (visit_after v (DeclareSymbol name declaration))
move_free program before v line (SetSymbol name kind text) p = next_free program before (visit_after v (SetSymbol name kind text))
move_free program before v line (BranchTo name) p = branch_free v line (target_of (body_of program v.macro) name)
move_free program before v line (SetCounter n) p = next_free program before (visit_after v (SetCounter n))
move_free program before v line Exit p = returned_free program before v v.depth v.caller
move_free program before v line (CallMacro place symbols) p = call_free before v line place symbols
move_free program before v line (Fail cause) p = p

many_free : is_memory TooManyLines ≡ false
unfolding is_memory
many_free = refl

visit_free : (program : MacroProgram) (before : List Visit) (v : Visit) (given : List Line) (move : Move) → IsVisit program before v given move → MoveFree move
visit_free program before v given move p = by_line (line_at program v.macro v.line) p
  where
    by_count : (line : Line) (b : Bool) → IsVisitOf program before v line b given move → MoveFree move
    by_count line true p = subst MoveFree (sym p.1) many_free
    by_count line false p = subst MoveFree (sym p.3) (move_free program before v line p.0 (effect_free (setting_of program v line.number) line p.0 p.1))

    by_line : (o : Option Line) → IsVisitAt program before v o given move → MoveFree move
    by_line None p = subst MoveFree (sym p.1) tt
    by_line (Some line) p = by_count line (eqb (length before) most_visits) p

follow_free : (program : MacroProgram) (before : List Visit) (v : Visit) (ws : List Visit) (given : List Line) (end : Move) → Follow program before v ws given end → MoveFree end
follow_free program before v [] given end p = visit_free program before v given end p
follow_free program before v (w ∷ ws) given end p = follow_free program (before ++ v ∷ []) w ws p.1 end p.4

pub stops_free : (program : MacroProgram) (line : Line) (cause : MacroCause) → StopsAt program line cause → is_memory cause ≡ false
stops_free program line cause stops = follow_free program [] first_visit stops.visited.visits stops.given (Stops line cause) stops.visited.follow

-- ---- definitions

abbrev FaultFree : Option MacroFault → Type 0
FaultFree None = Unit {0}
FaultFree (Some fault) = is_memory fault.cause ≡ false

or_else_free : (a b : Option MacroFault) → FaultFree a → FaultFree b → FaultFree (or_else a b)
or_else_free None b p q = q
or_else_free (Some fault) b p q = p

part_free : (p : DefinitionPart) → FaultFree (line_fault_of (part_fault p))
unfolding is_memory
part_free (Plain line) = tt
part_free (Closed begins [] ends) = refl
part_free (Closed begins (l ∷ inner) ends) = by_model (model_of l.text)
  where
    by_model : (o : Option Model) → FaultFree (line_fault_of (model_fault l o))
    by_model None = refl
    by_model (Some m) = tt
part_free (Open begins inner) = refl

first_free : (ps : List DefinitionPart) → FaultFree (line_fault_of (first_part_fault ps))
unfolding first_part_fault
first_free [] = tt
first_free (p ∷ ps) = by_fault (part_fault p) (part_free p) (first_free ps)
  where
    by_fault : (o : Option (Line × MacroCause)) → FaultFree (line_fault_of o) → FaultFree (line_fault_of (first_part_fault ps)) → FaultFree (line_fault_of (or_else o (first_part_fault ps)))
    by_fault None q more = more
    by_fault (Some x) q more = q

files_free : (file : ℕ) (texts : List (List ℕ)) → FaultFree (first_in file_part_fault file texts)
unfolding first_in
files_free file [] = tt
files_free file (bytes ∷ more) = or_else_free (file_part_fault file bytes) (first_in file_part_fault (next_file file) more) (first_free (file_parts file bytes)) (files_free (next_file file) more)

pub parts_free : (source : List ℕ) (macros : List (List ℕ)) (fault : MacroFault) → first_of_files file_part_fault source macros ≡ Some fault → is_memory fault.cause ≡ false
parts_free source macros fault is =
    subst FaultFree is (or_else_free (first_in file_part_fault 1 macros) (file_part_fault 0 source) (files_free 1 macros) (first_free (file_parts 0 source)))
