-- Where the expansion is.
use Rattle.std.specs.Prelude.{◌≡◌, List, [], ◌∷◌, ◌++◌}
use Rattle.macro_meaning.specs.Visit.{MacroProgram, Visit, Move, IsVisit}
use Rattle.orca_meaning.specs.Line.{Line}
use Rattle.orca_symbols.specs.declared.frames.ExpansionState.{ExpansionState}
use Rattle.orca_macro.specs.declared.visits.Flow.{Flow}
use Rattle.orca_symbols.specs.Frame.{frame, stack_of}
use Rattle.orca_macro.specs.Stacks.{Stands, MovesTo}
use Rattle.orca_symbols.specs.View.{texts_of}

-- the visit after these others is where the state says
abbrev pub StandsIn : List Visit → Visit → ExpansionState → Type 0
StandsIn before v s = Stands before v (frame s.scope) (stack_of s.frames) (texts_of s.texts) s.calls

-- the state is that of the next visit, or nothing follows, as this move says
abbrev pub MovesIn : Move → List Visit → Line → Flow → ExpansionState → Type 0
MovesIn move before line outcome s = MovesTo move before line outcome (frame s.scope) (stack_of s.frames) (texts_of s.texts) s.calls

-- a visit gave these lines, and what follows it is where the state says
pub record Visited (program : MacroProgram) (before : List Visit) (v : Visit) (line : Line) (outcome : Flow) (s : ExpansionState) (old new : List Line) : Type 0 where
  pub given : List Line
  pub move : Move
  pub is : IsVisit program before v given move
  pub new_is : new ≡ old ++ given
  pub moves : MovesIn move (before ++ v ∷ []) line outcome s
