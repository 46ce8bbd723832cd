-- How first faults are reported to C.
use Rattle.std.specs.Prelude.{◌≡◌, ℕ, ◌-◌, List, [], ◌++◌, length, replicate, Some}
use Rattle.load_meaning.specs.declared.load.LoadFault.{LoadFault}
use Rattle.loader_machine.specs.Replies.{cause_text}
use Rattle.omf_c_files.specs.declared.fault.OmfFault.{OmfFault}
use Rattle.omf_c_files.specs.Causes.{name_of}

-- a name in a given number of bytes, with zeros after it
abbrev pub zero_padded : ℕ → List ℕ → List ℕ
zero_padded size name = name ++ replicate (size - length name) 0

-- the number is that of the cause with this name; the file from 1, the segment from 1 and the displacement are these, 0 where there is none;
-- so is the line, from 1; and the name to which the fault belongs has zeros after it
pub record Reports (reported : OmfFault) (cause : List ℕ) (file segment at line : ℕ) (name : List ℕ) : Type 0 where
  pub cause' : name_of reported.cause ≡ Some cause
  pub file' : reported.file ≡ file
  pub segment' : reported.segment ≡ segment
  pub at' : reported.at ≡ at
  pub line' : reported.line ≡ line
  pub size' : reported.name_size ≡ length name
  pub name' : reported.name ≡ zero_padded 256 name

-- a fault of a load file, which is file 1
abbrev pub ReportsLoad : OmfFault → LoadFault → Type 0
ReportsLoad reported fault = Reports reported (cause_text fault.cause) 1 fault.segment fault.at 0 []
