-- `compact`: the canonical file of the input, or why there is none.
use Rattle.std.specs.Prelude.{◌≡◌, ◌≢◌, ℕ, List, None}
use Rattle.omf_compact.specs.declared.fault.CompactFault.{CompactFault}
use Rattle.omf_compact.specs.declared.fault.CompactCause.TheVariants.{Memory}
use Rattle.omf_compact.specs.Answer.{IsAnswer, IsRefused}
use Rattle.omf_commands.specs.CompactCauses.{compact_cause_name}
use Rattle.omf_making.specs.Lines.{refused_line}
use Rattle.omf_making.specs.Made.{Made, Bytes, Refusal, first_of}

-- the line of a fault other than out of memory; it is in file 1
abbrev pub ReportsFault : CompactFault → Made → Type 0
ReportsFault fault (Bytes bytes) = ⊥
ReportsFault fault (Refusal text) = (fault.cause ≢ Memory) × (text ≡ refused_line (compact_cause_name fault.cause) None 1 fault.segment fault.at)

-- the canonical file, or why there is none, which isn't lack of memory
abbrev pub CompactMakes : List (List ℕ) → Made → Type 0
CompactMakes files (Bytes bytes) = IsAnswer (first_of files) bytes
CompactMakes files (Refusal text) =
    (fault : CompactFault) × IsRefused fault (first_of files) × (fault.cause ≢ Memory) × (text ≡ refused_line (compact_cause_name fault.cause) None 1 fault.segment fault.at)
