-- The expansion of a source with macro files, and its first fault.
use Rattle.std.specs.Prelude.{◌≡◌, ℕ, ◌+◌, min, true, false, List, [], ◌∷◌, ◌++◌, Option, Some, None}
use Rattle.omf_format.specs.Lines.{lines_of}
use Rattle.orca_meaning.specs.declared.lines.TextCause.{TextCause}
use Rattle.orca_meaning.specs.declared.lines.TextCause.TheVariants as texts
use Rattle.orca_meaning.specs.Line.{Line, numbered_lines, first_line_fault}
use Rattle.macro_meaning.specs.declared.faults.MacroCause.{MacroCause}
use Rattle.macro_meaning.specs.declared.faults.MacroCause.TheVariants.{LineTooLong, TooManyLines, BadSetting, Memory}
use Rattle.macro_meaning.specs.declared.faults.MacroFault.{MacroFault}
use Rattle.macro_meaning.specs.Definition.{DefinitionPart, MacroDefinition, parts_of, definitions_in, source_body, first_part_fault, or_else}
use Rattle.macro_meaning.specs.Visit.{MacroProgram, Visit, Move, Ends, Stops, Follow, first_visit}

-- ---- files

-- the parts of a file; the source is file 0, and macro files count from 1
abbrev pub file_parts : ℕ → List ℕ → List DefinitionPart
file_parts file bytes = parts_of None (numbered_lines file 1 (lines_of bytes))

-- the number of the next macro file; no number is above 4,294,967,295
abbrev pub next_file : ℕ → ℕ
next_file file = min (file + 1) 4294967295

-- the macros of files, of which the first has this number
unfoldable pub macros_in : ℕ → List (List ℕ) → List MacroDefinition
macros_in file [] = []
macros_in file (bytes ∷ more) = definitions_in false (file_parts file bytes) ++ macros_in (next_file file) more

-- the macro files' definitions precede those of the source
abbrev pub program_of : List ℕ → List (List ℕ) → MacroProgram
program_of source macros = record {
  source = source_body (file_parts 0 source);
  definitions = macros_in 1 macros ++ definitions_in true (file_parts 0 source);
}

-- ---- faults of reading, and of definitions

-- the cause of a fault in a file's text
abbrev pub cause_of : TextCause → MacroCause
cause_of texts.LineTooLong = LineTooLong
cause_of texts.TooManyLines = TooManyLines
cause_of texts.BadOperand = BadSetting
cause_of texts.BadNumber = BadSetting
cause_of texts.Memory = Memory

-- the fault of a file that can't be read
abbrev pub file_text_fault : ℕ → List ℕ → Option MacroFault
file_text_fault file bytes = elim (first_line_fault 1 (lines_of bytes)) [
  | None ↦ None
  | Some (number, cause) ↦ Some (record { cause = cause_of cause; file = file; line = number })
]

-- at a line
abbrev pub fault_at : Line → MacroCause → MacroFault
fault_at line cause = record { cause = cause; file = line.file; line = line.number }

-- the fault at the line that was found
abbrev pub line_fault_of : Option (Line × MacroCause) → Option MacroFault
line_fault_of None = None
line_fault_of (Some (line, cause)) = Some (fault_at line cause)

-- the fault of a file's first definition that has one
abbrev pub file_part_fault : ℕ → List ℕ → Option MacroFault
file_part_fault file bytes = line_fault_of (first_part_fault (file_parts file bytes))

-- the first in files, of which the first has this number
unfoldable pub first_in : (ℕ → List ℕ → Option MacroFault) → ℕ → List (List ℕ) → Option MacroFault
first_in fault file [] = None
first_in fault file (bytes ∷ more) = or_else (fault file bytes) (first_in fault (next_file file) more)

-- macro files in order, and then the source
abbrev pub first_of_files : (ℕ → List ℕ → Option MacroFault) → List ℕ → List (List ℕ) → Option MacroFault
first_of_files fault source macros = or_else (first_in fault 1 macros) (fault 0 source)

-- ---- the expansion

-- all files can be read, and all definitions are right
pub record AreGoodFiles (source : List ℕ) (macros : List (List ℕ)) : Type 0 where
  pub texts : first_of_files file_text_fault source macros ≡ None
  pub definitions : first_of_files file_part_fault source macros ≡ None

-- a list of visits from the source's first line, which gives these lines, and on whose last visit this follows
pub record HasVisits (program : MacroProgram) (given : List Line) (end : Move) : Type 0 where
  pub visits : List Visit
  pub follow : Follow program [] first_visit visits given end

-- the expanded lines are those that the visits give in order
pub record IsExpanded (source : List ℕ) (macros : List (List ℕ)) (lines : List Line) : Type 0 where
  pub good : AreGoodFiles source macros
  pub visited : HasVisits (program_of source macros) lines Ends

-- the visits reach a line with a fault
pub record StopsAt (program : MacroProgram) (line : Line) (cause : MacroCause) : Type 0 where
  pub given : List Line
  pub visited : HasVisits program given (Stops line cause)

-- The first fault: of reading, macro files in order and then the source; else of a definition, in the same order; else
-- that of the first visit that has one.
pub data IsFirstFault (source : List ℕ) (macros : List (List ℕ)) (fault : MacroFault) : Type 0 where
  InText : first_of_files file_text_fault source macros ≡ Some fault → IsFirstFault source macros fault
  InDefinition : first_of_files file_text_fault source macros ≡ None → first_of_files file_part_fault source macros ≡ Some fault
      → IsFirstFault source macros fault
  InVisit : AreGoodFiles source macros → (line : Line) (cause : MacroCause) → StopsAt (program_of source macros) line cause
      → fault ≡ fault_at line cause → IsFirstFault source macros fault

-- an allocation failure has no line; any other fault is the first
abbrev pub IsMacroFault : List ℕ → List (List ℕ) → MacroFault → Type 0
IsMacroFault source macros fault = elim fault.cause [
  | Memory ↦ (fault.file ≡ 0) × (fault.line ≡ 0)
  | _ ↦ IsFirstFault source macros fault
]
