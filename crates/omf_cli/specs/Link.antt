-- `link`, `rtl` and `linkrt`: the load file of the inputs, which are objects and libraries, in the form Program or Runtime, and with
-- run-time library files; or their first fault.
use Rattle.std.specs.Prelude.{◌≡◌, ◌≢◌, ℕ, ◌-◌, List, [], length, take, drop}
use Rattle.link_meaning.specs.declared.form.LinkForm.{LinkForm}
use Rattle.link_meaning.specs.declared.form.LinkForm.TheVariants.{Program}
use Rattle.link_meaning.specs.declared.fault.LinkFault.{LinkFault}
use Rattle.link_meaning.specs.declared.fault.LinkCause.TheVariants as causes
use Rattle.link_meaning.specs.LinkFaults.{LinkInput}
use Rattle.link_meaning.specs.EmitFaults.{IsFirstLinkFault, IsLinkedTo}
use Rattle.omf_cli.specs.LinkCauses.{link_cause_name}
use Rattle.omf_making.specs.Lines.{refused_line}
use Rattle.omf_making.specs.Made.{Made, Bytes, Refusal}
use Rattle.std.specs.List.{zip}

-- the line of a fault: its cause, the name if there is one, and its spot
abbrev pub link_fault_line : LinkFault → List ℕ
link_fault_line fault = refused_line (link_cause_name fault.cause) fault.name fault.spot.file fault.spot.segment fault.spot.at

-- the load file of what is given, or the line of the first fault of all phases
abbrev pub LinkMakes : LinkInput → Made → Type 0
LinkMakes given (Bytes output) = IsLinkedTo given output
LinkMakes given (Refusal text) = (fault : LinkFault) × IsFirstLinkFault given fault × (text ≡ link_fault_line fault)

-- all files are inputs, and are linked in this form
abbrev pub given_alone : LinkForm → List (List ℕ) → LinkInput
given_alone form files = record { inputs = files; runtimes = []; form = form }

-- a program of files, of which the last are run-time library files with these paths
abbrev pub given_with : List (List ℕ) → List (List ℕ) → LinkInput
given_with paths files =
    let inputs = length files - length paths in
    record { inputs = take inputs files; runtimes = zip paths (drop inputs files); form = Program }

-- the line of a fault other than out of memory
abbrev pub ReportsLinkFault : LinkFault → Made → Type 0
ReportsLinkFault fault (Bytes bytes) = ⊥
ReportsLinkFault fault (Refusal text) = (fault.cause ≢ causes.Memory) × (text ≡ link_fault_line fault)
