-- How first faults are reported to C.
use Rattle.std.specs.Prelude.{[]}
use Rattle.std.specs.Option.{option_map_or}
use Rattle.omf_format.specs.declared.fault.FileFault.{FileFault}
use Rattle.lib_dict.specs.declared.fault.LibFault.{LibFault}
use Rattle.link_meaning.specs.declared.fault.LinkFault.{LinkFault}
use Rattle.asm_meaning.specs.declared.faults.AsmFault.{AsmFault}
use Rattle.list_meaning.specs.declared.faults.ListFault.{ListFault}
use Rattle.macro_meaning.specs.declared.faults.MacroFault.{MacroFault}
use Rattle.omf_compact.specs.declared.fault.CompactFault.{CompactFault}
use Rattle.omf_commands.specs.ListCauses.{list_cause_name}
use Rattle.omf_commands.specs.CompactCauses.{compact_cause_name}
use Rattle.source_meaning.specs.Object.{cause_of}
use Rattle.omf_making.specs.FileCauses.{cause_name}
use Rattle.omf_commands.specs.LibCauses.{lib_cause_name}
use Rattle.omf_cli.specs.LinkCauses.{link_cause_name}
use Rattle.omf_commands.specs.AsmCauses.{asm_cause_name}
use Rattle.omf_c_files.specs.declared.fault.OmfFault.{OmfFault}
use Rattle.omf_c_files.specs.Faults.{Reports}

-- a fault of one file, which is file 1
abbrev pub ReportsFile : OmfFault → FileFault → Type 0
ReportsFile reported fault = Reports reported (cause_name fault.cause) 1 fault.segment fault.at 0 []

-- a fault of several files
abbrev pub ReportsLib : OmfFault → LibFault → Type 0
ReportsLib reported fault = Reports reported (lib_cause_name fault.cause) fault.spot.file fault.spot.segment fault.spot.at 0 []

abbrev pub ReportsLink : OmfFault → LinkFault → Type 0
ReportsLink reported fault =
    Reports reported (link_cause_name fault.cause) fault.spot.file fault.spot.segment fault.spot.at 0 (option_map_or (λ name. name) fault.name [])

-- a fault at a line of a file
abbrev pub ReportsAsm : OmfFault → AsmFault → Type 0
ReportsAsm reported fault = Reports reported (asm_cause_name fault.cause) fault.file 0 0 fault.line []

-- a fault of a source's expansion
abbrev pub ReportsMacro : OmfFault → MacroFault → Type 0
ReportsMacro reported fault = Reports reported (asm_cause_name (cause_of fault.cause)) fault.file 0 0 fault.line []

-- a fault of an object that is listed as a source
abbrev pub ReportsList : OmfFault → ListFault → Type 0
ReportsList reported fault = Reports reported (list_cause_name fault.cause) 1 fault.segment fault.at 0 []

-- a fault of a load file that is compacted
abbrev pub ReportsCompact : OmfFault → CompactFault → Type 0
ReportsCompact reported fault = Reports reported (compact_cause_name fault.cause) 1 fault.segment fault.at 0 []
