-- Sources of untouched lines, without macros.
use Rattle.std.proofs.Common.{◌≡◌, ◌≤◌, ◌<◌, ℕ, zero, suc, ◌+◌, Bool, true, false, cond, eqb, List, [], ◌∷◌, ◌++◌, length, Option, Some, None, refl, sym, ap, subst, ◌∙◌, arith, append-nil, length-append}
use Rattle.std.proofs.lemmas.Bool.{ne_eqb, eqb-true, eqb-false}
use Rattle.std.specs.Prelude.{slice_get, codes, Ok, ◌==◌, ◌||◌, not}
use Rattle.std.specs.Global.{Vec}
use Rattle.std.specs.List.{list_any, filter}
use Rattle.omf_format.specs.Lines.{lines_of}
use Rattle.orca_meaning.specs.Characters.{folded}
use Rattle.orca_meaning.specs.Line.{LineFields, Line, part, numbered_lines, is_comment}
use Rattle.macro_meaning.specs.Call.{no_symbols}
use Rattle.macro_meaning.specs.Effect as meaning
use Rattle.macro_meaning.specs.Definition.{operation_is, first_named}
use Rattle.macro_meaning.specs.Expansion.{HasVisits, IsExpanded, file_text_fault, first_in}
use Rattle.macro_meaning.specs.Visit.{MacroProgram, Visit, Move, On, Ends, move_of, next_line, move_after_expansion, if_line, most_visits, setting_of, IsVisit, Follow, no_texts}
use Rattle.macro_meaning.specs.laws.Steps.{given_by, IsVisitAt}
use Rattle.orca_macro.specs.Files.{texts_of_files, lines_from, first_part_in, definitions_of, IsProgram}
use Rattle.orca_macro.specs.Parts.{HaveOwn}
use Rattle.orca_macro.specs.Untouched.{IsUntouched, AreUntouched}
use Rattle.orca_macro.proofs.Plans.{comment_rests}
use Rattle.orca_macro.proofs.Runs.{visit_is}
use Rattle.orca_macro.proofs.Scans.{none_scanned}
use Rattle.orca_macro.proofs.Whole.{own_lines, program_good, visits_expand}

-- the program of these lines, without macros
pub plain : List Line → MacroProgram
plain lines = record { source = record { lines = lines; reach = length lines }; definitions = [] }

-- the visit of the line at a place
pub at : ℕ → Visit
at place = record { macro = None; line = place; depth = 0; caller = None; root = 0; counter = 255; symbols = no_symbols; texts = no_texts; calls = 0 }

-- the lines that are no comments
pub statements : List Line → List Line
statements lines = filter (λ (l : Line). not (is_comment l.text)) lines

-- a line, unless it is a comment
if_statement : Bool → Line → List Line
if_statement true l = []
if_statement false l = l ∷ []

first_of : (l : Line) (rest : List Line) → statements (l ∷ rest) ≡ if_statement (is_comment l.text) l ++ statements rest
unfolding statements if_statement
first_of l rest = by (is_comment l.text)
  where
    by : (b : Bool) → cond (not b) (l ∷ statements rest) (statements rest) ≡ if_statement b l ++ statements rest
    by true = refl
    by false = refl

-- no macro has a name
unnamed : (name : List ℕ) → first_named name [] ≡ None
unfolding first_named
unnamed name = refl

module _ (lines : List Line) (own : HaveOwn lines) (are : AreUntouched lines) where
  -- a line that is visited is given unless it is a comment, and the next one follows
  gives : (before : List Visit) (place : ℕ) (l : Line) → length before ≡ place → place < 1000000 → slice_get lines place ≡ Some l
      → IsVisit (plain lines) before (at place) (if_statement (is_comment l.text) l) (next_line (plain lines) before (at place))
  unfolding plain at move_of if_statement
  gives before place l count few here = by (is_comment l.text) refl
    where
      free : (length before == most_visits) ≡ false
      free = ap (λ (k : ℕ). eqb k 1000000) count ∙ ne_eqb place 1000000 (λ e. omega (arith, e, few))

      line_is : given_by l (meaning.Emit l.text) ≡ l ∷ []
      line_is = ap (λ (f : LineFields). record { file = l.file; number = l.number; text = l.text; fields = f } ∷ []) (sym (own place l here))

      by : (b : Bool) → is_comment l.text ≡ b → IsVisit (plain lines) before (at place) (if_statement b l) (next_line (plain lines) before (at place))
      by true comment = visit_is (plain lines) before (at place) l meaning.NoEffect here free (comment_rests (setting_of (plain lines) (at place) l.number) l comment)
      by false other =
          subst (λ (given : List Line). IsVisit (plain lines) before (at place) given (next_line (plain lines) before (at place))) line_is
          (visit_is (plain lines) before (at place) l (meaning.Emit l.text) here free
          (((are.each place l here).given other [] (unnamed (folded (part l.text l.fields.operation)))).is (setting_of (plain lines) (at place) l.number) refl))

  -- nothing follows the last line
  ends : (before : List Visit) (place : ℕ) → slice_get lines (place + 1) ≡ None → next_line (plain lines) before (at place) ≡ Ends
  unfolding plain at next_line move_after_expansion
  ends before place none = ap (λ (o : Option Line). if_line o (On (at (place + 1))) Ends) none

  goes : (before : List Visit) (place : ℕ) (l : Line) → slice_get lines (place + 1) ≡ Some l → next_line (plain lines) before (at place) ≡ On (at (place + 1))
  unfolding plain at next_line
  goes before place l some = ap (λ (o : Option Line). if_line o (On (at (place + 1))) (move_after_expansion (plain lines) before (at place) 0 None)) some

  -- the visits of the lines from a place on
  follow : (before : List Visit) (place : ℕ) (rest : List Line) → length before ≡ place → place + length rest ≤ 1000000 → ((k n : ℕ) → n ≡ place + k → slice_get lines n ≡ slice_get rest k)
      → (ws : List Visit) × Follow (plain lines) before (at place) ws (statements rest) Ends
  unfolding plain at statements
  follow before place [] count few same =
      let nowhere : slice_get lines place ≡ None = same 0 place (omega arith) in
      ([], subst (λ (o : Option Line). IsVisitAt (plain lines) before (at place) o [] Ends) (sym nowhere) (refl, refl))
  follow before place (l ∷ []) count few same =
      let here : slice_get lines place ≡ Some l = same 0 place (omega arith) in
      let last : slice_get lines (place + 1) ≡ None = same 1 (place + 1) refl in
      let given : if_statement (is_comment l.text) l ≡ statements (l ∷ []) = sym (first_of l [] ∙ append-nil (if_statement (is_comment l.text) l)) in (
        [],
        subst (λ (ls : List Line). IsVisit (plain lines) before (at place) ls Ends) given
            (subst (λ (m : Move). IsVisit (plain lines) before (at place) (if_statement (is_comment l.text) l) m) (ends before place last) (gives before place l count (omega (arith, few)) here)),
      )
  follow before place (l ∷ next ∷ rest) count few same =
      let here : slice_get lines place ≡ Some l = same 0 place (omega arith) in
      let following : slice_get lines (place + 1) ≡ Some next = same 1 (place + 1) refl in
      let others = follow (before ++ at place ∷ []) (place + 1) (next ∷ rest) (omega (arith, count, length-append before (at place ∷ []))) (omega (arith, few))
      (λ k n is. same (suc k) n (omega (arith, is))) in (
        at (place + 1) ∷ others.0,
        (
          if_statement (is_comment l.text) l,
          statements (next ∷ rest),
          subst (λ (m : Move). IsVisit (plain lines) before (at place) (if_statement (is_comment l.text) l) m) (goes before place next following) (gives before place l count (omega (arith, few)) here),
          first_of l (next ∷ rest),
          others.1,
        ),
      )

  pub visited : HasVisits (plain lines) (statements lines) Ends
  unfolding plain at
  visited =
      let all = follow [] 0 lines refl (omega (arith, are.few)) (λ k n is. ap (slice_get lines) (omega (arith, is))) in
      record { visits = all.0; follow = all.1 }

-- none of them begins a definition
none_begins : (lines : List Line) → ((place : ℕ) (l : Line) → slice_get lines place ≡ Some l → IsUntouched l) → list_any (operation_is (codes "MACRO")) lines ≡ false
none_begins [] each = refl
none_begins (l ∷ lines) each =
    ap (λ (b : Bool). b || list_any (operation_is (codes "MACRO")) lines) (each 0 l refl).begins_none ∙ none_begins lines (λ place m here. each (suc place) m here)

program_is : (lines : List Line) → AreUntouched lines → IsProgram lines [] (Ok (plain lines))
unfolding plain first_part_in definitions_of
program_is lines are =
    let scanned = none_scanned lines [] (none_begins lines are.each) in
    program_good lines [] lines [] [] (plain lines) refl refl scanned.0 scanned.1 scanned.2 refl

no_files : (macros : List (Vec ℕ)) → length macros ≡ 0 → texts_of_files macros ≡ []
no_files [] none = refl
no_files (file ∷ macros) none = absurd (omega (arith, none))

-- a source expands to them, without the comments, where there are no macro files
pub untouched_expand : (source : List ℕ) (macros : List (Vec ℕ)) (lines left : List Line) → length macros ≡ 0 → lines ≡ numbered_lines 0 1 (lines_of source) → file_text_fault 0 source ≡ None → AreUntouched lines
    → left ≡ filter (λ (l : Line). not (is_comment l.text)) lines → IsExpanded source (texts_of_files macros) left
unfolding lines_from first_in statements
untouched_expand source macros lines left none lines_are good are left_is =
    subst (λ (texts : List (List ℕ)). IsExpanded source texts left) (sym (no_files macros none))
    (subst (λ (ls : List Line). IsExpanded source [] ls) (sym left_is)
    (visits_expand source [] lines [] lines_are refl refl good (plain lines) (program_is lines are) (statements lines) (visited lines (own_lines 0 source lines lines_are) are)))

-- ---- lines that are gone over

-- each of the first `to` lines
pub record UntouchedTo (lines : List Line) (to : ℕ) : Type 0 where
  pub each : (place : ℕ) (l : Line) → place < to → slice_get lines place ≡ Some l → IsUntouched l

pub to_none : (lines : List Line) (to : ℕ) → to ≡ 0 → UntouchedTo lines to
to_none lines to none = record { each = λ place l less here. absurd (omega (arith, none, less)) }

some_is : {A : Type 0} (a b : A) → Some a ≡ Some b → a ≡ b
some_is a b same = cc

pub to_more : (lines : List Line) (to : ℕ) (l : Line) → UntouchedTo lines to → slice_get lines to ≡ Some l → IsUntouched l → UntouchedTo lines (to + 1)
to_more lines to l so here is = record { each = λ place m less there. by_test place m less there (eqb place to) refl }
  where
    by_test : (place : ℕ) (m : Line) → place < to + 1 → slice_get lines place ≡ Some m → (b : Bool) → eqb place to ≡ b → IsUntouched m
    by_test place m less there true test =
        let same : l ≡ m = some_is l m (sym here ∙ ap (slice_get lines) (sym (eqb-true place to test)) ∙ there) in subst IsUntouched same is
    by_test place m less there false test = so.each place m (omega (arith, less, eqb-false place to test)) there

pub to_all : (lines : List Line) (to : ℕ) → UntouchedTo lines to → length lines ≤ to → length lines ≤ 1000000 → AreUntouched lines
to_all lines to so all few = record { few = few; each = λ place l here. so.each place l (omega (arith, all, within lines place l here)) here }
  where
    within : (ls : List Line) (place : ℕ) (l : Line) → slice_get ls place ≡ Some l → place < length ls
    within [] place l here = absurd cc
    within (m ∷ ls) zero l here = omega arith
    within (m ∷ ls) (suc place) l here = omega (arith, within ls place l here)
