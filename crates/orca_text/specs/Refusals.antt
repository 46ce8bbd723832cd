-- What a source is refused for.
use Rattle.std.specs.Prelude.{◌≡◌, ℕ, List, Some}
use Rattle.omf_format.specs.Lines.{lines_of}
use Rattle.orca_meaning.specs.declared.lines.TextCause.{TextCause}
use Rattle.orca_meaning.specs.declared.lines.TextCause.TheVariants.{LineTooLong, TooManyLines, BadOperand, BadNumber, Memory}
use Rattle.orca_meaning.specs.declared.lines.TextFault.{TextFault}
use Rattle.orca_meaning.specs.Line.{first_line_fault}

-- the cause is that of the first faulty line, and the number is its; when out of memory the number is 0
abbrev pub IsRefusedFor : TextCause → ℕ → List ℕ → Type 0
IsRefusedFor LineTooLong number source = first_line_fault 1 (lines_of source) ≡ Some (number, LineTooLong)
IsRefusedFor TooManyLines number source = first_line_fault 1 (lines_of source) ≡ Some (number, TooManyLines)
IsRefusedFor BadOperand number source = ⊥
IsRefusedFor BadNumber number source = ⊥
IsRefusedFor Memory number source = number ≡ 0

-- a source is refused for this fault, and the fault names its file
pub record IsRefused (file : ℕ) (source : List ℕ) (fault : TextFault) : Type 0 where
  pub file_is : fault.file ≡ file
  pub cause_is : IsRefusedFor fault.cause fault.line source
