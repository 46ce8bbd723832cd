-- Every file has an answer: it is a list of segments, a load file, or a run-time library file, or has a first fault as such a file, which
-- isn't Memory.
use Rattle.std.specs.Prelude.{◌≢◌, ◌⊎◌, ℕ, List}
use Rattle.omf_format.specs.declared.fault.FileCause.TheVariants as files
use Rattle.omf_format.specs.declared.fault.FileFault.{FileFault}
use Rattle.omf_format.specs.Number.{IsBytes}
use Rattle.omf_format.specs.File.{Segment, IsFile, IsFirstFault}
use Rattle.load_meaning.specs.declared.load.LoadCause.TheVariants as loads
use Rattle.load_meaning.specs.declared.load.LoadFault.{LoadFault}
use Rattle.load_meaning.specs.Loadable.{IsLoadable, IsFirstLoadFault}
use Rattle.load_meaning.specs.Runtime.{IsRuntime, IsFirstRuntimeFault}

-- a file is a list of segments, or has a first fault
abbrev pub FilesAreAnswered : Type 0
FilesAreAnswered = (file : List ℕ) → IsBytes file
    → ((segments : List Segment) × IsFile segments file) ⊎ ((fault : FileFault) × IsFirstFault file fault × (fault.cause ≢ files.Memory))

-- a file is a load file, or has a first fault as one
abbrev pub LoadFilesAreAnswered : Type 0
LoadFilesAreAnswered = (file : List ℕ) → IsBytes file
    → ((segments : List Segment) × IsLoadable file segments) ⊎ ((fault : LoadFault) × IsFirstLoadFault file fault × (fault.cause ≢ loads.Memory))

-- a file is a run-time library file, or has a first fault as one
abbrev pub RuntimeFilesAreAnswered : Type 0
RuntimeFilesAreAnswered = (file : List ℕ) → IsBytes file
    → ((segments : List Segment) × IsRuntime file segments) ⊎ ((fault : LoadFault) × IsFirstRuntimeFault file fault × (fault.cause ≢ loads.Memory))
