-- The object that a source with macro files is assembled to, and the first fault of any other (GS/OS Reference, appendix F;
-- the order of faults is this project's own).
use Rattle.std.specs.Prelude.{◌≡◌, ℕ, ◌<◌, ◌≤◌, List, ◌∷◌, ◌++◌, length, Some, None, Err}
use Rattle.orca_meaning.specs.Line.{Line}
use Rattle.macro_meaning.specs.declared.faults.MacroCause.{MacroCause}
use Rattle.macro_meaning.specs.declared.faults.MacroCause.TheVariants as macros
use Rattle.macro_meaning.specs.declared.faults.MacroFault.{MacroFault}
use Rattle.macro_meaning.specs.Expansion as expansion
use Rattle.macro_meaning.specs.Expansion.{IsExpanded}
use Rattle.asm_meaning.specs.declared.faults.AsmCause.{AsmCause}
use Rattle.asm_meaning.specs.declared.faults.AsmCause.TheVariants.{LineTooLong, TooManyLines, NoSuchSymbol, BadSetting, BadArguments, NoSequenceSymbol, Unclosed, Counter, TooNested, Noted, TooLong, Memory}
use Rattle.asm_meaning.specs.declared.faults.AsmFault.{AsmFault}
use Rattle.asm_meaning.specs.Object.{object_text, most_bytes, AreSteps}
use Rattle.asm_meaning.specs.State.{StartedSegment, State, start}
use Rattle.asm_meaning.specs.Statement.{IsStep}

-- ---- lines

-- the expanded lines have no fault, and leave this
pub record HasLines (source : List ℕ) (macros : List (List ℕ)) (last : State) : Type 0 where
  pub lines : List Line
  pub expanded : IsExpanded source macros lines
  pub steps : AreSteps start lines last

-- ---- the object

-- the object: the segments that its lines leave, each with its END
pub record IsObject (source : List ℕ) (macros : List (List ℕ)) (object : List ℕ) : Type 0 where
  pub last : State
  pub has : HasLines source macros last
  pub ended : last.segment ≡ None
  pub text : object ≡ object_text last.ended
  pub fits : length object ≤ most_bytes

-- ---- the first fault

-- the cause of an expansion's fault, by the same name
abbrev pub cause_of : MacroCause → AsmCause
cause_of macros.LineTooLong = LineTooLong
cause_of macros.TooManyLines = TooManyLines
cause_of macros.NoSuchSymbol = NoSuchSymbol
cause_of macros.BadSetting = BadSetting
cause_of macros.BadArguments = BadArguments
cause_of macros.NoSequenceSymbol = NoSequenceSymbol
cause_of macros.Unclosed = Unclosed
cause_of macros.Counter = Counter
cause_of macros.TooNested = TooNested
cause_of (macros.Noted n) = Noted n
cause_of macros.Memory = Memory

-- a line with a fault, after lines that have none
pub record HasBadLine (source : List ℕ) (macros : List (List ℕ)) (line : Line) (cause : AsmCause) : Type 0 where
  pub before : List Line
  pub following : List Line
  pub last : State
  pub expanded : IsExpanded source macros (before ++ line ∷ following)
  pub steps : AreSteps start before last
  pub wrong : IsStep last line (Err cause)

-- The first fault: of the expansion; else of the first line with a fault; else a segment without END, at the line that
-- begins it; else the object's length.
pub data IsFirstFault (source : List ℕ) (macros : List (List ℕ)) (fault : AsmFault) : Type 0 where
  InExpansion : (found : MacroFault) → expansion.IsFirstFault source macros found
      → fault ≡ record { cause = cause_of found.cause; file = found.file; line = found.line } → IsFirstFault source macros fault
  InLine : (line : Line) (cause : AsmCause) → HasBadLine source macros line cause
      → fault ≡ record { cause = cause; file = line.file; line = line.number } → IsFirstFault source macros fault
  InSegment : (last : State) (s : StartedSegment) → HasLines source macros last → last.segment ≡ Some s
      → fault ≡ record { cause = Unclosed; file = s.start_line.file; line = s.start_line.number } → IsFirstFault source macros fault
  InLength : (last : State) → HasLines source macros last → last.segment ≡ None → most_bytes < length (object_text last.ended)
      → fault ≡ record { cause = TooLong; file = 0; line = 0 } → IsFirstFault source macros fault

-- an allocation failure has no line; any other fault is the first
pub data IsAsmFault (source : List ℕ) (macros : List (List ℕ)) (fault : AsmFault) : Type 0 where
  OutOfMemory : fault ≡ record { cause = Memory; file = 0; line = 0 } → IsAsmFault source macros fault
  First : IsFirstFault source macros fault → IsAsmFault source macros fault
