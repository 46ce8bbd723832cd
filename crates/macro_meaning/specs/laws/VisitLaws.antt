-- A line does one thing, so a source has one list of visits.
use Rattle.std.proofs.Common.{◌≡◌, ℕ, Bool, true, false, eqb, ltb, List, [], ◌∷◌, ◌++◌, length, Option, Some, None, sym, ap, subst, ◌∙◌}
use Rattle.orca_meaning.specs.declared.operators.Operands.TheVariants as operands
use Rattle.orca_meaning.specs.laws.FormulaLaws.{one_tree}
use Rattle.orca_meaning.specs.Line.{Line, LineFields, is_comment, three_fields, part}
use Rattle.macro_meaning.specs.declared.statements.SymbolKind.{SymbolKind}
use Rattle.macro_meaning.specs.declared.statements.SymbolKind.TheVariants.{Number, Flag, Text}
use Rattle.macro_meaning.specs.declared.statements.Statement.{Statement}
use Rattle.macro_meaning.specs.declared.statements.Statement.TheVariants.{Declare, Set, Middle, BranchIf, Branch, Count, Nothing, Leave, Note, Define}
use Rattle.macro_meaning.specs.Condition.{Answer, answer_of, IsNumber, Formula, NoFormula, IsCondition, comparison}
use Rattle.macro_meaning.specs.Effect.{Effect, SymbolSetting, pair_or_earlier_fault, or_bad, setting, IsMiddle, IsSetting, IsDone, operation_or_anop, without_sequence_symbol, IsAfterText, IsEffect}
use Rattle.macro_meaning.specs.Pieces.{unquoted_text, pieces}
use Rattle.macro_meaning.specs.Statements.{target_name}
use Rattle.macro_meaning.specs.Symbol.{Values}
use Rattle.macro_meaning.specs.Visit.{MacroProgram, Visit, Move, On, Ends, Stops, IsVisit, Follow, line_at, setting_of, move_of, most_visits}
use Rattle.macro_meaning.specs.laws.Steps.{IsConditionBy, going, middle_of, noting, printed_answer, counting, IsBranchIf, IsNote, IsDoneBy, IsAfterCut, begins_definition, IsShort, IsWithTexts, substituted_line, IsWritten, IsVisitOf, IsVisitAt, given_by}

-- ---- answers

number_once : (values : Values) (text : List ℕ) (a b : Answer) → IsNumber values text a → IsNumber values text b → a ≡ b
number_once values text a b (Formula t means is) (Formula u means' is') =
    is ∙ ap (answer_of values) (one_tree operands.Symbols text t u [] [] means means').0 ∙ sym is'
number_once values text a b (Formula t means is) (NoFormula none is') = absurd (none t means)
number_once values text a b (NoFormula none is) (Formula t means is') = absurd (none t means)
number_once values text a b (NoFormula none is) (NoFormula none' is') = is ∙ sym is'

condition_once : (values : Values) (text : List ℕ) (a b : Answer) → IsCondition values text a → IsCondition values text b → a ≡ b
condition_once values text a b p q = by_comparison (comparison text) p q
  where
    by_comparison : (c : Option Bool) → IsConditionBy c values text a → IsConditionBy c values text b → a ≡ b
    by_comparison (Some holds) p q = p ∙ sym q
    by_comparison None p q = number_once values text a b p q

-- ---- effects

branch_if_once : (values : Values) (ps : List (List ℕ)) (d e : Effect) → IsBranchIf values ps d → IsBranchIf values ps e → d ≡ e
branch_if_once values [] d e p q = p ∙ sym q
branch_if_once values (a ∷ []) d e p q = p ∙ sym q
branch_if_once values (a ∷ b ∷ []) d e p q =
    p.2 ∙ ap (λ (x : Answer). going (pair_or_earlier_fault x (or_bad (target_name b)))) (condition_once values a p.0 q.0 p.1 q.1) ∙ sym q.2
branch_if_once values (a ∷ b ∷ c ∷ ps) d e p q = p ∙ sym q

middle_once : (values : Values) (label : List ℕ) (ps : List (List ℕ)) (d e : Effect) → IsMiddle values label ps d → IsMiddle values label ps e → d ≡ e
middle_once values label [] d e p q = p ∙ sym q
middle_once values label (a ∷ []) d e p q = p ∙ sym q
middle_once values label (a ∷ b ∷ []) d e p q = p ∙ sym q
middle_once values label (a ∷ b ∷ c ∷ []) d e p q =
    p.4 ∙ ap (λ (x : Answer). setting values Text label (middle_of (pair_or_earlier_fault (or_bad (unquoted_text a)) (pair_or_earlier_fault x p.1)))) (number_once values b p.0 q.0 p.2 q.2)
    ∙ ap (λ (x : Answer). setting values Text label (middle_of (pair_or_earlier_fault (or_bad (unquoted_text a)) (pair_or_earlier_fault q.0 x)))) (number_once values c p.1 q.1 p.3 q.3) ∙ sym q.4
middle_once values label (a ∷ b ∷ c ∷ x ∷ ps) d e p q = p ∙ sym q

note_once : (values : Values) (ps : List (List ℕ)) (d e : Effect) → IsNote values ps d → IsNote values ps e → d ≡ e
note_once values [] d e p q = p ∙ sym q
note_once values (a ∷ []) d e p q = p ∙ sym q
note_once values (a ∷ b ∷ []) d e p q = p.2 ∙ ap (λ (x : Answer). noting (pair_or_earlier_fault (or_bad (unquoted_text a)) x)) (number_once values b p.0 q.0 p.1 q.1) ∙ sym q.2
note_once values (a ∷ b ∷ c ∷ ps) d e p q = p ∙ sym q

setting_once : (values : Values) (kind : SymbolKind) (label operand : List ℕ) (d e : Effect) → IsSetting values kind label operand d → IsSetting values kind label operand e → d ≡ e
setting_once values Number label operand d e p q = p.2 ∙ ap (λ (x : Answer). setting values Number label (printed_answer Number x)) (condition_once values operand p.0 q.0 p.1 q.1) ∙ sym q.2
setting_once values Flag label operand d e p q = p.2 ∙ ap (λ (x : Answer). setting values Flag label (printed_answer Flag x)) (condition_once values operand p.0 q.0 p.1 q.1) ∙ sym q.2
setting_once values Text label operand d e p q = p ∙ sym q

done_once : (values : Values) (s : Statement) (text label operand : List ℕ) (d e : Effect) → IsDone values s text label operand d → IsDone values s text label operand e → d ≡ e
done_once values (Declare declaration) text label operand d e p q = p ∙ sym q
done_once values (Set kind) text label operand d e p q = setting_once values kind label operand d e p q
done_once values Middle text label operand d e p q = middle_once values label (pieces 0x2C operand) d e p q
done_once values BranchIf text label operand d e p q = branch_if_once values (pieces 0x2C operand) d e p q
done_once values Branch text label operand d e p q = p ∙ sym q
done_once values Count text label operand d e p q = p.2 ∙ ap counting (number_once values operand p.0 q.0 p.1 q.1) ∙ sym q.2
done_once values Nothing text label operand d e p q = p ∙ sym q
done_once values Leave text label operand d e p q = p ∙ sym q
done_once values Note text label operand d e p q = note_once values (pieces 0x2C operand) d e p q
done_once values Define text label operand d e p q = p ∙ sym q

-- a line does one thing
pub effect_once : (s : SymbolSetting) (line : Line) (d e : Effect) → IsEffect s line d → IsEffect s line e → d ≡ e
effect_once s line d e p q = by_comment (is_comment line.text) p q
  where
    by_statement : (text : List ℕ) (fields : LineFields) (o : Option Statement) → IsDoneBy s text fields o d → IsDoneBy s text fields o e → d ≡ e
    by_statement text fields None p q = p ∙ sym q
    by_statement text fields (Some statement) p q = done_once s.values statement text (part text fields.label) (part text fields.operand) d e p q

    by_cut : (b : Bool) (text : List ℕ) → IsAfterCut s b text d → IsAfterCut s b text e → d ≡ e
    by_cut true text p q = p ∙ sym q
    by_cut false text p q = by_statement text (three_fields text) (operation_or_anop (part text (three_fields text).operation)) p q

    by_begins : (b : Bool) (text : List ℕ) → IsAfterText s b text d → IsAfterText s b text e → d ≡ e
    by_begins true text p q = p ∙ sym q
    by_begins false text p q = by_cut (is_comment (without_sequence_symbol text)) (without_sequence_symbol text) p q

    by_length : (b : Bool) (text : List ℕ) → IsShort s line b text d → IsShort s line b text e → d ≡ e
    by_length true text p q = p ∙ sym q
    by_length false text p q = by_begins (begins_definition s line) text p q

    by_texts : (o : Option (List ℕ)) → IsWithTexts s line o d → IsWithTexts s line o e → d ≡ e
    by_texts None p q = p ∙ sym q
    by_texts (Some text) p q = by_length (ltb 255 (length text)) text p q

    by_comment : (b : Bool) → IsWritten s line b d → IsWritten s line b e → d ≡ e
    by_comment true p q = p ∙ sym q
    by_comment false p q = by_texts (substituted_line s.values line) p q

-- ---- visits

-- what a visit gives, and what follows it
pub visit_once : (program : MacroProgram) (before : List Visit) (v : Visit) (given given' : List Line) (move move' : Move) → IsVisit program before v given move → IsVisit program before v given' move'
    → (given ≡ given') × (move ≡ move')
visit_once program before v given given' move move' p q = by_line (line_at program v.macro v.line) p q
  where
    by_count : (line : Line) (b : Bool) → IsVisitOf program before v line b given move → IsVisitOf program before v line b given' move' → (given ≡ given') × (move ≡ move')
    by_count line true p q = (p.0 ∙ sym q.0, p.1 ∙ sym q.1)
    by_count line false p q =
        let same : p.0 ≡ q.0 = effect_once (setting_of program v line.number) line p.0 q.0 p.1 q.1 in
        (p.2 ∙ ap (given_by line) same ∙ sym q.2, p.3 ∙ ap (move_of program before v line) same ∙ sym q.3)

    by_line : (o : Option Line) → IsVisitAt program before v o given move → IsVisitAt program before v o given' move' → (given ≡ given') × (move ≡ move')
    by_line None p q = (p.0 ∙ sym q.0, p.1 ∙ sym q.1)
    by_line (Some line) p q = by_count line (eqb (length before) most_visits) p q

-- an end is no further visit
abbrev pub IsEnd : Move → Type 0
IsEnd (On v) = ⊥
IsEnd Ends = Unit {0}
IsEnd (Stops line cause) = Unit {0}

not_on : (end : Move) (w : Visit) → IsEnd end → end ≡ On w → ⊥
not_on end w is e = subst IsEnd e is

visit_of : Move → Visit → Visit
visit_of (On v) other = v
visit_of Ends other = other
visit_of (Stops line cause) other = other

same_visit : (v w : Visit) → On v ≡ On w → v ≡ w
unfolding visit_of
same_visit v w e = ap (λ (m : Move). visit_of m v) e

pub follow_once : (program : MacroProgram) (before : List Visit) (v : Visit) (ws xs : List Visit) (given given' : List Line) (end following : Move) → IsEnd end → IsEnd following
    → Follow program before v ws given end → Follow program before v xs given' following → (given ≡ given') × (end ≡ following)
follow_once program before v [] [] given given' end following is is' p q = visit_once program before v given given' end following p q
follow_once program before v [] (x ∷ xs) given given' end following is is' p q =
    absurd (not_on end x is (visit_once program before v given q.0 end (On x) p q.2).1)
follow_once program before v (w ∷ ws) [] given given' end following is is' p q =
    absurd (not_on following w is' (visit_once program before v given' p.0 following (On w) q p.2).1)
follow_once program before v (w ∷ ws) (x ∷ xs) given given' end following is is' p q =
    let step = visit_once program before v p.0 q.0 (On w) (On x) p.2 q.2 in
    let w_is : w ≡ x = same_visit w x step.1 in
    let rest = follow_once program (before ++ v ∷ []) w ws xs p.1 q.1 end following is is' p.4 (subst (λ (y : Visit). Follow program (before ++ v ∷ []) y xs q.1 following) (sym w_is) q.4) in
    (p.3 ∙ ap (λ (f : List Line). f ++ p.1) step.0 ∙ ap (λ (r : List Line). q.0 ++ r) rest.0 ∙ sym q.3, rest.1)
