-- `list`: the source of the input, or why there is none.
use Rattle.std.specs.Prelude.{◌≡◌, ◌≢◌, ℕ, List, None}
use Rattle.list_meaning.specs.declared.faults.ListFault.{ListFault}
use Rattle.list_meaning.specs.declared.faults.ListCause.TheVariants as list
use Rattle.list_meaning.specs.Answer.{IsListing, IsListFault}
use Rattle.omf_commands.specs.ListCauses.{list_cause_name}
use Rattle.omf_making.specs.Lines.{refused_line}
use Rattle.omf_making.specs.Made.{Made, Bytes, Refusal, first_of}

-- the fault is in file 1, and isn't lack of memory
abbrev pub ListMakes : List (List ℕ) → Made → Type 0
ListMakes files (Bytes text) = IsListing (first_of files) text
ListMakes files (Refusal text) =
    (fault : ListFault) × IsListFault (first_of files) fault × (fault.cause ≢ list.Memory) × (text ≡ refused_line (list_cause_name fault.cause) None 1 fault.segment fault.at)

-- the line of a fault other than out of memory
abbrev pub ReportsListFault : ListFault → Made → Type 0
ReportsListFault fault (Bytes bytes) = ⊥
ReportsListFault fault (Refusal text) = (fault.cause ≢ list.Memory) × (text ≡ refused_line (list_cause_name fault.cause) None 1 fault.segment fault.at)
