-- The files of an expansion, as they are read.
use Rattle.std.specs.Prelude.{◌≡◌, ℕ, true, false, List, [], ◌∷◌, ◌++◌, map, Option, Some, None, Result, Ok, Err}
use Rattle.std.specs.Global.{Vec}
use Rattle.omf_format.specs.Lines.{lines_of}
use Rattle.orca_meaning.specs.declared.lines.TextCause.{TextCause}
use Rattle.orca_meaning.specs.declared.lines.TextCause.TheVariants as texts
use Rattle.orca_meaning.specs.Line.{Line, numbered_lines}
use Rattle.macro_meaning.specs.declared.faults.MacroCause.{MacroCause}
use Rattle.macro_meaning.specs.declared.faults.MacroCause.TheVariants.{LineTooLong, TooManyLines, Memory}
use Rattle.macro_meaning.specs.declared.faults.MacroFault.{MacroFault}
use Rattle.macro_meaning.specs.Definition.{MacroDefinition, parts_of, definitions_in, source_body, first_part_fault, or_else}
use Rattle.macro_meaning.specs.Expansion.{line_fault_of, next_file, fault_at, HasVisits, StopsAt}
use Rattle.macro_meaning.specs.Visit.{MacroProgram, Ends}
use Rattle.orca_macro.specs.Parts.{HaveOwn}

-- the bytes of files
abbrev pub texts_of_files : List (Vec ℕ) → List (List ℕ)
texts_of_files files = map (λ (file : Vec ℕ). file.items) files

-- a fault of reading is the first one; when out of memory it has no line
abbrev pub IsTextFaultFor : MacroCause → Option MacroFault → MacroFault → Type 0
IsTextFaultFor LineTooLong first fault = first ≡ Some fault
IsTextFaultFor TooManyLines first fault = first ≡ Some fault
IsTextFaultFor Memory first fault = (fault.file ≡ 0) × (fault.line ≡ 0)
IsTextFaultFor _ _ _ = ⊥

-- the fault of the first file that can't be read
abbrev pub IsTextFault : Option MacroFault → MacroFault → Type 0
IsTextFault first fault = IsTextFaultFor fault.cause first fault

-- what can be wrong with a file that is read
abbrev pub CanRead : TextCause → Type 0
CanRead texts.LineTooLong = Unit {0}
CanRead texts.TooManyLines = Unit {0}
CanRead texts.BadOperand = ⊥
CanRead texts.BadNumber = ⊥
CanRead texts.Memory = Unit {0}

-- the lines of files, of which the first has this number
unfoldable pub lines_from : ℕ → List (List ℕ) → List (List Line)
lines_from file [] = []
lines_from file (bytes ∷ more) = numbered_lines file 1 (lines_of bytes) ∷ lines_from (next_file file) more

-- each line has the fields of its bytes
abbrev pub AllOwn : List (List Line) → Type 0
AllOwn [] = Unit {0}
AllOwn (lines ∷ more) = HaveOwn lines × AllOwn more

-- what is wrong with the first definition that has a fault, and the definitions
unfoldable pub first_part_in : List (List Line) → Option MacroFault
first_part_in [] = None
first_part_in (lines ∷ more) = or_else (line_fault_of (first_part_fault (parts_of None lines))) (first_part_in more)

-- the definitions of macro files, in order
unfoldable pub definitions_of : List (List Line) → List MacroDefinition
definitions_of [] = []
definitions_of (lines ∷ more) = definitions_in false (parts_of None lines) ++ definitions_of more

-- the program of a source and macro files with these lines, or the first fault of their definitions
abbrev pub IsProgram : List Line → List (List Line) → Result MacroProgram MacroFault → Type 0
IsProgram source macros (Ok program) =
    (first_part_in macros ≡ None) × (line_fault_of (first_part_fault (parts_of None source)) ≡ None)
    × (program ≡ record { source = source_body (parts_of None source); definitions = definitions_of macros ++ definitions_in true (parts_of None source) })
IsProgram source macros (Err fault) = or_else (first_part_in macros) (line_fault_of (first_part_fault (parts_of None source))) ≡ Some fault

-- the visits of a program reach this fault
pub record IsStopped (program : MacroProgram) (fault : MacroFault) : Type 0 where
  pub line : Line
  pub cause : MacroCause
  pub stops : StopsAt program line cause
  pub is : fault ≡ fault_at line cause

-- the lines that its visits give, or the fault of the first that has one
abbrev pub HasVisited : MacroProgram → Result (List Line) MacroFault → Type 0
HasVisited program (Ok lines) = HasVisits program lines Ends
HasVisited program (Err fault) = IsStopped program fault
