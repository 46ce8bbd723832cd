-- The visited lines of a program, one after another.
use Rattle.std.specs.Prelude.{◌≡◌, List, [], ◌∷◌, ◌++◌, Some, None}
use Rattle.orca_meaning.specs.Line.{Line}
use Rattle.macro_meaning.specs.Visit.{MacroProgram, Visit, Move, On, Ends, Stops, IsVisit, line_at}

-- a visited line: its visit, the line as it stands in its file, and the lines that it gives
pub record SeenLine : Type 0 where
  pub visit : Visit
  pub line : Line
  pub given : List Line

-- the visit is of this line, gives what is seen of it, and is followed by this
pub record IsSeen (program : MacroProgram) (before : List Visit) (seen : SeenLine) (move : Move) : Type 0 where
  pub of : line_at program seen.visit.macro seen.visit.line ≡ Some seen.line
  pub is : IsVisit program before seen.visit seen.given move

-- after a visit with this move the others are seen, or there are none and all ends with the move
abbrev pub ShowAfter : Move → (Visit → Type 0) → List SeenLine → Move → Type 0
ShowAfter (On v) Others seen end = Others v
ShowAfter Ends Others seen end = (seen ≡ []) × (end ≡ Ends)
ShowAfter (Stops line cause) Others seen end = (seen ≡ []) × (end ≡ Stops line cause)

-- the visits from this one on show these lines, and end so
abbrev pub Show : MacroProgram → List Visit → Visit → List SeenLine → Move → Type 0
Show program before v [] end = (line_at program v.macro v.line ≡ None) × (end ≡ Ends)
Show program before v (first ∷ seen) end =
    (first.visit ≡ v) × (move : Move) × IsSeen program before first move × ShowAfter move (λ w. Show program (before ++ v ∷ []) w seen end) seen end
