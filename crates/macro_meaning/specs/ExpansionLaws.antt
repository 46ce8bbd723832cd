-- A source with macro files has one answer.
use Rattle.std.proofs.Common.{◌≡◌, ℕ, List}
use Rattle.orca_meaning.specs.Line.{Line}
use Rattle.macro_meaning.specs.declared.faults.MacroFault.{MacroFault}
use Rattle.macro_meaning.specs.Expansion.{IsExpanded, IsFirstFault}

-- a source expands to one list of lines at most
abbrev pub OneExpansion : Type 0
OneExpansion = (source : List ℕ) (macros : List (List ℕ)) (a b : List Line) → IsExpanded source macros a → IsExpanded source macros b → a ≡ b

-- a source that expands has no fault
abbrev pub NoFaultBeside : Type 0
NoFaultBeside = (source : List ℕ) (macros : List (List ℕ)) (a : List Line) (fault : MacroFault) → IsExpanded source macros a → IsFirstFault source macros fault → ⊥

-- and another has one first fault at most
abbrev pub OneFirstFault : Type 0
OneFirstFault = (source : List ℕ) (macros : List (List ℕ)) (a b : MacroFault) → IsFirstFault source macros a → IsFirstFault source macros b → a ≡ b

-- none has neither lines nor a fault
abbrev pub NoneUnanswered : Type 0
NoneUnanswered = (source : List ℕ) (macros : List (List ℕ)) → ((lines : List Line) → IsExpanded source macros lines → ⊥) → ((fault : MacroFault) → IsFirstFault source macros fault → ⊥) → ⊥
