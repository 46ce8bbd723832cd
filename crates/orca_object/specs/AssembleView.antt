-- What lines leave, as it is kept, or the first fault.
use Rattle.std.specs.Prelude.{◌≡◌, ℕ, ◌<◌, ◌≤◌, List, ◌∷◌, ◌++◌, length, Option, Some, None, Result, Ok, Err, ◌⊎◌}
use Rattle.std.specs.Global.{Vec}
use Rattle.orca_meaning.specs.Line.{Line}
use Rattle.asm_meaning.specs.declared.faults.AsmCause.{AsmCause}
use Rattle.asm_meaning.specs.declared.faults.AsmFault.{AsmFault}
use Rattle.asm_meaning.specs.Object.{AreSteps, object_text, most_bytes}
use Rattle.asm_meaning.specs.declared.faults.AsmCause.TheVariants.{Unclosed, TooLong}
use Rattle.asm_meaning.specs.State.{State, StartedSegment, start}
use Rattle.asm_meaning.specs.Statement.{IsStep}
use Rattle.orca_object.specs.declared.assembly.Assembly.{Assembly}
use Rattle.orca_object.specs.AssemblyView.{Leaves}

-- a line with a fault, after lines that have none
pub record Stops (lines : List Line) (fault : AsmFault) : Type 0 where
  pub before : List Line
  pub line : Line
  pub following : List Line
  pub cause : AsmCause
  pub last : State
  pub lines_are : lines ≡ before ++ line ∷ following
  pub steps : AreSteps start before last
  pub wrong : IsStep last line (Err cause)
  pub fault_is : fault ≡ record { cause = cause; file = line.file; line = line.number }

-- all lines have left this
pub record Ends (lines : List Line) (a : Assembly) : Type 0 where
  pub last : State
  pub steps : AreSteps start lines last
  pub shows : Leaves last a

-- the state after these lines, or the fault of the first that has one
abbrev pub HasStepped : List Line → Result Assembly AsmFault → Type 0
HasStepped lines (Ok a) = Ends lines a
HasStepped lines (Err fault) = Stops lines fault

-- the fault of what is left at the end: a segment without END, or too many bytes
abbrev pub IsLastFault : Option StartedSegment → State → AsmFault → Type 0
IsLastFault None state fault = (most_bytes < length (object_text state.ended)) × (fault ≡ record { cause = TooLong; file = 0; line = 0 })
IsLastFault (Some s) state fault = fault ≡ record { cause = Unclosed; file = s.start_line.file; line = s.start_line.number }

-- the object of what is left at the end, or its fault
abbrev pub IsLast : State → Result (Vec ℕ) AsmFault → Type 0
IsLast state (Ok object) = (state.segment ≡ None) × (object.items ≡ object_text state.ended) × (length object.items ≤ most_bytes)
IsLast state (Err fault) = IsLastFault state.segment state fault

-- that of lines without a fault
pub record IsLastOf (lines : List Line) (answer : Result (Vec ℕ) AsmFault) : Type 0 where
  pub last : State
  pub steps : AreSteps start lines last
  pub is : IsLast last answer

-- the object of lines, or their first fault
abbrev pub IsAssembled : List Line → Result (Vec ℕ) AsmFault → Type 0
IsAssembled lines (Ok object) = IsLastOf lines (Ok object)
IsAssembled lines (Err fault) = Stops lines fault ⊎ IsLastOf lines (Err fault)
