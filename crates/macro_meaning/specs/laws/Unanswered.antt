-- Why no source with macro files is without an answer. What a text means is a matter of its parse, of which there is one or none; so each
-- lemma here says that something isn't without an answer.
use Rattle.std.proofs.Common.{◌≡◌, ℕ, zero, suc, ◌+◌, Bool, true, false, List, [], ◌∷◌, ◌++◌, length, Option, Some, None, Err, refl, sym, subst, arith}
use Rattle.std.specs.Prelude.{Ok, nat_lt, ◌==◌}
use Rattle.std.proofs.lemmas.Bool.{eq-eqb}
use Rattle.std.proofs.lemmas.List.{length-append}
use Rattle.omf_format.specs.Ascii as ascii
use Rattle.omf_format.specs.Value.{truth}
use Rattle.orca_meaning.specs.Line.{Line, LineFields, part, is_comment, three_fields}
use Rattle.macro_meaning.specs.declared.faults.MacroCause.TheVariants.{LineTooLong, TooManyLines, NoSuchSymbol, BadSetting}
use Rattle.macro_meaning.specs.declared.faults.MacroFault.{MacroFault}
use Rattle.macro_meaning.specs.declared.statements.SymbolKind.{SymbolKind}
use Rattle.macro_meaning.specs.declared.statements.SymbolKind.TheVariants.{Number, Flag, Text}
use Rattle.macro_meaning.specs.declared.statements.Statement.{Statement}
use Rattle.macro_meaning.specs.declared.statements.Statement.TheVariants.{Declare, Set, Middle, BranchIf, Branch, Count, Nothing, Leave, Note, Define}
use Rattle.macro_meaning.specs.Condition.{Answer, IsNumber, Formula, NoFormula, answer_of, comparison, IsCondition}
use Rattle.macro_meaning.specs.Effect.{Effect, NoEffect, Emit, Fail, Exit, pair_or_earlier_fault, or_bad, declaring, setting, IsMiddle, IsSetting, IsDone, SymbolSetting, operation_or_anop, without_sequence_symbol, IsAfterText, IsEffect}
use Rattle.macro_meaning.specs.Pieces.{pieces, unquoted_text, joined_texts}
use Rattle.macro_meaning.specs.Statements.{symbol_name, target_name}
use Rattle.macro_meaning.specs.Symbol.{Values}
use Rattle.macro_meaning.specs.Visit.{MacroProgram, Visit, Move, On, Ends, Stops, line_at, setting_of, move_of, most_visits, IsVisit, Follow, first_visit}
use Rattle.macro_meaning.specs.laws.Steps.{IsConditionBy, printed_answer, middle_of, going, going_to, counting, noting, resting, IsBranchIf, IsNote, IsDoneBy, IsAfterCut, begins_definition, IsShort, IsWithTexts, substituted_line, IsWritten, given_by, IsVisitOf, IsVisitAt}
use Rattle.macro_meaning.specs.Expansion.{AreGoodFiles, InText, InDefinition, InVisit, first_of_files, file_text_fault, file_part_fault, program_of, fault_at}
use Rattle.macro_meaning.specs.ExpansionLaws.{NoneUnanswered}

-- ---- numbers and conditions

a_number : (values : Values) (text : List ℕ) → ((answer : Answer) → IsNumber values text answer → ⊥) → ⊥
a_number values text go = go (Err BadSetting) (NoFormula (λ tree means. go (answer_of values tree) (Formula tree means refl)) refl)

a_condition : (values : Values) (text : List ℕ) → ((answer : Answer) → IsCondition values text answer → ⊥) → ⊥
a_condition values text go = by_comparison (comparison text) go
  where
    by_comparison : (o : Option Bool) → ((answer : Answer) → IsConditionBy o values text answer → ⊥) → ⊥
    by_comparison (Some holds) go = go (Ok (truth holds)) refl
    by_comparison None go = a_number values text go

-- ---- statements

a_setting : (values : Values) (kind : SymbolKind) (label operand : List ℕ) → ((effect : Effect) → IsSetting values kind label operand effect → ⊥) → ⊥
a_setting values Number label operand go = a_condition values operand (λ answer is. go (setting values Number label (printed_answer Number answer)) (answer, is, refl))
a_setting values Flag label operand go = a_condition values operand (λ answer is. go (setting values Flag label (printed_answer Flag answer)) (answer, is, refl))
a_setting values Text label operand go = go (setting values Text label (or_bad (joined_texts (pieces ascii.plus operand)))) refl

a_branch : (values : Values) (operands : List (List ℕ)) → ((effect : Effect) → IsBranchIf values operands effect → ⊥) → ⊥
a_branch values [] go = go (Fail BadSetting) refl
a_branch values (condition ∷ []) go = go (Fail BadSetting) refl
a_branch values (condition ∷ target ∷ []) go = a_condition values condition (λ answer is. go (going (pair_or_earlier_fault answer (or_bad (target_name target)))) (answer, is, refl))
a_branch values (condition ∷ target ∷ other ∷ more) go = go (Fail BadSetting) refl

a_middle : (values : Values) (label : List ℕ) (operands : List (List ℕ)) → ((effect : Effect) → IsMiddle values label operands effect → ⊥) → ⊥
a_middle values label [] go = go (setting values Text label (Err BadSetting)) refl
a_middle values label (text ∷ []) go = go (setting values Text label (Err BadSetting)) refl
a_middle values label (text ∷ start ∷ []) go = go (setting values Text label (Err BadSetting)) refl
a_middle values label (text ∷ start ∷ count ∷ []) go =
    a_number values start (λ s of_start. a_number values count (λ n of_count. go (setting values Text label (middle_of (pair_or_earlier_fault (or_bad (unquoted_text text)) (pair_or_earlier_fault s n)))) (s, n, of_start, of_count, refl)))
a_middle values label (text ∷ start ∷ count ∷ other ∷ more) go = go (setting values Text label (Err BadSetting)) refl

a_note : (values : Values) (operands : List (List ℕ)) → ((effect : Effect) → IsNote values operands effect → ⊥) → ⊥
a_note values [] go = go (Fail BadSetting) refl
a_note values (text ∷ []) go = go (Fail BadSetting) refl
a_note values (text ∷ severity ∷ []) go = a_number values severity (λ answer is. go (noting (pair_or_earlier_fault (or_bad (unquoted_text text)) answer)) (answer, is, refl))
a_note values (text ∷ severity ∷ other ∷ more) go = go (Fail BadSetting) refl

a_statement : (values : Values) (statement : Statement) (text label operand : List ℕ) → ((effect : Effect) → IsDone values statement text label operand effect → ⊥) → ⊥
a_statement values (Declare declaration) text label operand go = go (declaring values declaration (symbol_name operand)) refl
a_statement values (Set kind) text label operand go = a_setting values kind label operand go
a_statement values Middle text label operand go = a_middle values label (pieces ascii.comma operand) go
a_statement values BranchIf text label operand go = a_branch values (pieces ascii.comma operand) go
a_statement values Branch text label operand go = go (going_to (target_name operand)) refl
a_statement values Count text label operand go = a_number values operand (λ answer is. go (counting answer) (answer, is, refl))
a_statement values Nothing text label operand go = go (resting label text) refl
a_statement values Leave text label operand go = go Exit refl
a_statement values Note text label operand go = a_note values (pieces ascii.comma operand) go
a_statement values Define text label operand go = go (Emit text) refl

-- ---- lines

done_by : (s : SymbolSetting) (text : List ℕ) (fields : LineFields) (o : Option Statement) → ((effect : Effect) → IsDoneBy s text fields o effect → ⊥) → ⊥
done_by s text fields (Some statement) go = a_statement s.values statement text (part text fields.label) (part text fields.operand) go
done_by s text fields None go = go _ refl

after_cut : (s : SymbolSetting) (comment : Bool) (text : List ℕ) → ((effect : Effect) → IsAfterCut s comment text effect → ⊥) → ⊥
after_cut s true text go = go NoEffect refl
after_cut s false text go = done_by s text (three_fields text) (operation_or_anop (part text (three_fields text).operation)) go

after_text : (s : SymbolSetting) (begins : Bool) (text : List ℕ) → ((effect : Effect) → IsAfterText s begins text effect → ⊥) → ⊥
after_text s true text go = go NoEffect refl
after_text s false text go = after_cut s (is_comment (without_sequence_symbol text)) (without_sequence_symbol text) go

of_length : (s : SymbolSetting) (line : Line) (long : Bool) (text : List ℕ) → ((effect : Effect) → IsShort s line long text effect → ⊥) → ⊥
of_length s line true text go = go (Fail LineTooLong) refl
of_length s line false text go = after_text s (begins_definition s line) text go

with_texts : (s : SymbolSetting) (line : Line) (o : Option (List ℕ)) → ((effect : Effect) → IsWithTexts s line o effect → ⊥) → ⊥
with_texts s line None go = go (Fail NoSuchSymbol) refl
with_texts s line (Some text) go = of_length s line (nat_lt 255 (length text)) text go

as_written : (s : SymbolSetting) (line : Line) (comment : Bool) → ((effect : Effect) → IsWritten s line comment effect → ⊥) → ⊥
as_written s line true go = go NoEffect refl
as_written s line false go = with_texts s line (substituted_line s.values line) go

a_effect : (s : SymbolSetting) (line : Line) → ((effect : Effect) → IsEffect s line effect → ⊥) → ⊥
a_effect s line go = as_written s line (is_comment line.text) go

-- ---- visits

a_visit : (program : MacroProgram) (before : List Visit) (v : Visit) → ((given : List Line) (move : Move) → IsVisit program before v given move → ⊥) → ⊥
a_visit program before v go = by_line (line_at program v.macro v.line) go
  where
    by_count : (line : Line) (full : Bool) → ((given : List Line) (move : Move) → IsVisitOf program before v line full given move → ⊥) → ⊥
    by_count line true go = go [] (Stops line TooManyLines) (refl, refl)
    by_count line false go =
        a_effect (setting_of program v line.number) line (λ effect is. go (given_by line effect) (move_of program before v line effect) (effect, is, refl, refl))

    by_line : (o : Option Line) → ((given : List Line) (move : Move) → IsVisitAt program before v o given move → ⊥) → ⊥
    by_line None go = go [] Ends (refl, refl)
    by_line (Some line) go = by_count line (length before == most_visits) go

-- no visit follows
abbrev IsEnd : Move → Type 0
IsEnd (On w) = ⊥
IsEnd Ends = Unit {0}
IsEnd (Stops line cause) = Unit {0}

-- the last visit that may be is followed by none
last_visit : (program : MacroProgram) (before : List Visit) (v : Visit) → length before ≡ most_visits → ((given : List Line) (end : Move) → IsVisit program before v given end → IsEnd end → ⊥) → ⊥
last_visit program before v most go = by_line (line_at program v.macro v.line) go
  where
    full : (length before == most_visits) ≡ true
    full = eq-eqb (length before) most_visits most

    by_line : (o : Option Line) → ((given : List Line) (end : Move) → IsVisitAt program before v o given end → IsEnd end → ⊥) → ⊥
    by_line None go = go [] Ends (refl, refl) tt
    by_line (Some line) go = go [] (Stops line TooManyLines) (subst (λ (b : Bool). IsVisitOf program before v line b [] (Stops line TooManyLines)) (sym full) (refl, refl)) tt

-- the visits end, after at most n more
visits_end : (n : ℕ) (program : MacroProgram) (before : List Visit) (v : Visit) → length before + n ≡ most_visits
    → ((visits : List Visit) (given : List Line) (end : Move) → Follow program before v visits given end → IsEnd end → ⊥) → ⊥
visits_end zero program before v most go = last_visit program before v (none_more (length before) most_visits most) (λ given end is ends. go [] given end is ends)
  where
    none_more : (k m : ℕ) → k + 0 ≡ m → k ≡ m
    none_more k m e = omega (arith, e)
visits_end (suc n) program before v most go =
    a_visit program before v (by_move (λ w next. visits_end n program (before ++ v ∷ []) w (one_more (length before) most_visits most (length-append before (v ∷ []))) next))
  where
    one_more : (k m : ℕ) → k + suc n ≡ m → length (before ++ v ∷ []) ≡ k + 1 → length (before ++ v ∷ []) + n ≡ m
    one_more k m e size = omega (arith, e, size)

    by_move : ((w : Visit) → ((visits : List Visit) (given : List Line) (end : Move) → Follow program (before ++ v ∷ []) w visits given end → IsEnd end → ⊥) → ⊥)
        → (given : List Line) (move : Move) → IsVisit program before v given move → ⊥
    by_move following given (On w) is = following w (λ visits rest end follow ends. go (w ∷ visits) (given ++ rest) end (given, rest, is, refl, follow) ends)
    by_move following given Ends is = go [] given Ends is tt
    by_move following given (Stops line cause) is = go [] given (Stops line cause) is tt

-- ---- sources

pub none_unanswered : NoneUnanswered
none_unanswered source macros no_lines no_fault = by_texts (first_of_files file_text_fault source macros) refl
  where
    all_visits : AreGoodFiles source macros → (n : ℕ) → n ≡ most_visits → ⊥
    all_visits good n most = visits_end n (program_of source macros) [] first_visit (none_before n most_visits most) by_end
      where
        none_before : (n m : ℕ) → n ≡ m → length {A = Visit} [] + n ≡ m
        none_before n m e = omega (arith, e)

        by_end : (visits : List Visit) (given : List Line) (end : Move) → Follow (program_of source macros) [] first_visit visits given end → IsEnd end → ⊥
        by_end visits given (On w) follow ends = ends
        by_end visits given Ends follow ends = no_lines given (record { good = good; visited = record { visits = visits; follow = follow } })
        by_end visits given (Stops line cause) follow ends =
            no_fault (fault_at line cause) (InVisit good line cause (record { given = given; visited = record { visits = visits; follow = follow } }) refl)

    by_parts : (o : Option MacroFault) → first_of_files file_text_fault source macros ≡ None → first_of_files file_part_fault source macros ≡ o → ⊥
    by_parts (Some fault) texts is = no_fault fault (InDefinition texts is)
    by_parts None texts is = all_visits (record { texts = texts; definitions = is }) most_visits refl

    by_texts : (o : Option MacroFault) → first_of_files file_text_fault source macros ≡ o → ⊥
    by_texts (Some fault) is = no_fault fault (InText is)
    by_texts None is = by_parts (first_of_files file_part_fault source macros) is refl
