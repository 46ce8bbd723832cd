-- What the program `omf_expand` does.
use Rattle.std.specs.Prelude.{◌≡◌, ◌≢◌, ℕ, Bool, true, false, IsTrue, List, None, codes}
use Rattle.omf_base.specs.Lines.{line}
use Rattle.omf_io.specs.Outside.{Outside}
use Rattle.macro_meaning.specs.declared.faults.MacroCause.TheVariants as causes
use Rattle.macro_meaning.specs.declared.faults.MacroFault.{MacroFault}
use Rattle.macro_meaning.specs.Expansion.{IsFirstFault}
use Rattle.source_meaning.specs.Object.{cause_of}
use Rattle.expand_lines.specs.LinesText.{IsTextOf}
use Rattle.omf_making.specs.declared.status.Status.{Status}
use Rattle.omf_making.specs.declared.status.Status.TheVariants as status
use Rattle.omf_commands.specs.AsmCauses.{asm_cause_name}
use Rattle.omf_commands.specs.Assemble.{following_first}
use Rattle.omf_making.specs.Lines.{line_fault_line}
use Rattle.omf_making.specs.Made.{Made, Bytes, Refusal, first_of}
use Rattle.omf_making.specs.Making.{MakesRun, CanMake}
use Rattle.omf_making.specs.Printing.{Ends}
use Rattle.omf_making.specs.Words.{are_paths}

-- the line of a fault of expansion, as `asm` prints it: its cause, its file and its line
abbrev pub expand_fault_line : MacroFault → List ℕ
expand_fault_line fault = line_fault_line (asm_cause_name (cause_of fault.cause)) fault.file fault.line

-- the lines of the first input after expansion with the others as its macro files, or the line of the first fault
abbrev pub ExpandMakes : List (List ℕ) → Made → Type 0
ExpandMakes files (Bytes text) = IsTextOf (first_of files) (following_first files) text
ExpandMakes files (Refusal text) = (fault : MacroFault) × IsFirstFault (first_of files) (following_first files) fault × (text ≡ expand_fault_line fault)

-- the line of a fault other than out of memory
abbrev pub ReportsMacroFault : MacroFault → Made → Type 0
ReportsMacroFault fault (Bytes bytes) = ⊥
ReportsMacroFault fault (Refusal text) = (fault.cause ≢ causes.Memory) × (text ≡ expand_fault_line fault)

abbrev pub expand_usage_line : List ℕ
expand_usage_line = line (codes "usage: omf_expand SRC MACROS..")

-- the usage line, and nothing else
abbrev pub ExpandUsageRun : Status → Outside → Type 0
ExpandUsageRun result o = Ends (λ wanted text. (wanted ≡ status.Usage) × (text ≡ expand_usage_line) × (o.new_store ≡ o.store)) ⊥ ⊥ result o.sink o.new_sink

-- arguments that are 1 to 255 paths are the source and its macro files, whose lines are printed; for other arguments the usage line is
abbrev pub HasExpandedBy : Bool → List (List ℕ) → Status → Outside → Type 0
HasExpandedBy true words result o = MakesRun ExpandMakes None words result o
HasExpandedBy false words result o = ExpandUsageRun result o

abbrev pub HasExpanded : List (List ℕ) → Status → Outside → Type 0
HasExpanded words result o = HasExpandedBy (are_paths 1 255 words) words result o

-- the lines can be printed: the store reveals the inputs, they have no fault, and no count rises
abbrev pub CanExpand : List (List ℕ) → Outside → Type 0
CanExpand words o = IsTrue (are_paths 1 255 words) × CanMake ExpandMakes words o
