-- `asm`: the object of the first input with the others as its macro files, or the first fault.
use Rattle.std.specs.Prelude.{◌≡◌, ◌≢◌, ℕ, List, [], ◌∷◌}
use Rattle.asm_meaning.specs.declared.faults.AsmCause.TheVariants as causes
use Rattle.asm_meaning.specs.declared.faults.AsmFault.{AsmFault}
use Rattle.source_meaning.specs.Object.{IsObject, IsFirstFault}
use Rattle.omf_commands.specs.AsmCauses.{asm_cause_name}
use Rattle.omf_making.specs.Lines.{line_fault_line}
use Rattle.omf_making.specs.Made.{Made, Bytes, Refusal, first_of}

-- the files after the first
abbrev pub following_first : List (List ℕ) → List (List ℕ)
following_first [] = []
following_first (file ∷ files) = files

-- the object, or the line of the first fault
abbrev pub AsmMakes : List (List ℕ) → Made → Type 0
AsmMakes files (Bytes object) = IsObject (first_of files) (following_first files) object
AsmMakes files (Refusal text) =
    (fault : AsmFault) × IsFirstFault (first_of files) (following_first files) fault
    × (text ≡ line_fault_line (asm_cause_name fault.cause) fault.file fault.line)

-- the line of a fault other than out of memory
abbrev pub ReportsAsmFault : AsmFault → Made → Type 0
ReportsAsmFault fault (Bytes bytes) = ⊥
ReportsAsmFault fault (Refusal text) =
    (fault.cause ≢ causes.Memory) × (text ≡ line_fault_line (asm_cause_name fault.cause) fault.file fault.line)
