-- Where the visits of a program are, and what one of them shows.
use Rattle.std.specs.Prelude.{◌≡◌, ◌≤◌, ℕ, List, [], ◌∷◌, ◌++◌, length, Option, Some, None}
use Rattle.macro_meaning.specs.Symbol.{SharedTexts}
use Rattle.macro_meaning.specs.Visit as meaning
use Rattle.macro_meaning.specs.Visit.{MacroProgram, Visit, Move, On, IsVisit, line_at, most_visits}
use Rattle.orca_meaning.specs.Line.{Line}
use Rattle.orca_symbols.specs.Frame.{Frame, frame, stack_of}
use Rattle.orca_symbols.specs.View.{texts_of}
use Rattle.orca_text.specs.View.{line}
use Rattle.orca_macro.specs.Stacks.{Stands}
use Rattle.orca_macro.specs.declared.next_visit.Expansion.{Expansion}
use Rattle.orca_macro.specs.declared.next_visit.VisitedLine.{VisitedLine}
use Rattle.orca_macro.specs.declared.visits.Flow.{Flow}
use Rattle.orca_macro.specs.declared.visits.Flow.TheVariants.{Goes, Ends, Stops}

-- Where visits are: the expansion whose line comes next, those that called it, the texts of the shared symbols, how many
-- macros were called, and how many lines were visited.
pub record ExpansionPlace : Type 0 where
  pub scope : Frame
  pub callers : List Frame
  pub texts : SharedTexts
  pub calls : ℕ
  pub count : ℕ

-- where an expansion is
abbrev pub place_of : Expansion → ExpansionPlace
place_of e = record { scope = frame e.state.scope; callers = stack_of e.state.frames; texts = texts_of e.state.texts; calls = e.state.calls; count = e.count }

-- after these visits this one is next
pub record IsNext (before : List Visit) (v : Visit) (at : ExpansionPlace) : Type 0 where
  pub stands : Stands before v at.scope at.callers at.texts at.calls
  pub count_is : at.count ≡ length before
  pub few : at.count ≤ most_visits
  pub calls : at.calls ≤ at.count

-- some visit is next
abbrev pub IsUnderWay : ExpansionPlace → Type 0
IsUnderWay at = (before : List Visit) × (v : Visit) × IsNext before v at

-- what follows the last of these visits, which was of this line: the visit that is next, the end, or the line's fault
abbrev pub IsFollowed : List Visit → Line → Flow → Move → ExpansionPlace → Type 0
IsFollowed visits of Goes move at = (w : Visit) × (move ≡ On w) × IsNext visits w at
IsFollowed visits of Ends move at = move ≡ meaning.Ends
IsFollowed visits of (Stops cause) move at = move ≡ meaning.Stops of cause

-- the line of a visit with its depth, the lines that it gives after those before, and what follows it
pub record IsSeen (program : MacroProgram) (before : List Visit) (v : Visit) (seen : VisitedLine) (at : ExpansionPlace) (old new : List Line) : Type 0 where
  pub given : List Line
  pub move : Move
  pub is : IsVisit program before v given move
  pub of : line_at program v.macro v.line ≡ Some (line seen.line.now)
  pub depth : seen.depth ≡ v.depth
  pub new_is : new ≡ old ++ given
  pub follows : IsFollowed (before ++ v ∷ []) (line seen.line.now) seen.flow move at

-- the visit is made, or its source has no line
abbrev pub MakesVisit : MacroProgram → List Visit → Visit → Option VisitedLine → ExpansionPlace → List Line → List Line → Type 0
MakesVisit program before v None at old new = (line_at program v.macro v.line ≡ None) × (new ≡ old)
MakesVisit program before v (Some seen) at old new = IsSeen program before v seen at old new
