-- Reading run-time library files.
use Rattle.std.specs.Prelude.{◌≡◌, ◌⊎◌, ◌+◌, ◌++◌, ℕ, List, ◌∷◌, length, map, Option, Some, None}
use Rattle.omf_format.specs.File.{Segment}
use Rattle.lib_dict.specs.declared.member.Member.{Member}
use Rattle.load_meaning.specs.declared.load.LoadCause.{LoadCause}
use Rattle.load_meaning.specs.declared.load.LoadCause.TheVariants.{Memory}
use Rattle.link_meaning.specs.declared.fault.LinkCause.{LinkCause}
use Rattle.link_meaning.specs.declared.fault.LinkFault.{LinkFault}
use Rattle.link_meaning.specs.Member.{RuntimeFile}
use Rattle.link_meaning.specs.Search.{outside_from}
use Rattle.link_meaning.specs.LinkFaults.{runtime_cause, HasRuntimeFault, AreRuntimes}
use Rattle.link_program.specs.declared.outside.OutsideNames.{OutsideNames}
use Rattle.link_program.specs.Memory.{memory_fault}
use Rattle.link_program.specs.Outside.{AreOutside}
use Rattle.link_program.specs.Programs.{runtimes_of}

-- the files that are held, each with its path and its bytes
abbrev pub files_of : List Member → List (List ℕ × List ℕ)
files_of given = map (λ m. (m.name, m.bytes.items)) given

-- how a run-time library file's cause is reported, unless out of memory
abbrev pub to_link_cause : LoadCause → Option LinkCause
to_link_cause Memory = None
to_link_cause cause = Some (runtime_cause cause)

-- the file with this number has this fault, unless out of memory
abbrev pub IsFileRefused : ℕ → List ℕ → LinkFault → Type 0
IsFileRefused file bytes fault = (fault ≡ memory_fault) ⊎ HasRuntimeFault file bytes fault

-- these were read of the files that are given, and the table has their names
pub record AreRead (given : List Member) (loads : List (List Segment)) (table : OutsideNames) : Type 0 where
  pub count : length loads ≡ length given
  pub are : AreRuntimes (files_of given) (runtimes_of loads given)
  pub table' : AreOutside (outside_from 2 (runtimes_of loads given)) table

-- the files before one were read, and that one has this fault, where they are numbered after a given number of inputs
pub record IsFirstFile (inputs : ℕ) (files : List (List ℕ × List ℕ)) (fault : LinkFault) : Type 0 where
  pub before : List (List ℕ × List ℕ)
  pub item : List ℕ × List ℕ
  pub after : List (List ℕ × List ℕ)
  pub parts : files ≡ before ++ item ∷ after
  pub runtimes : List RuntimeFile
  pub are : AreRuntimes before runtimes
  pub here : HasRuntimeFault (inputs + length before + 1) item.1 fault

-- the first of these files that is at fault has this fault, unless out of memory
abbrev pub IsFirstRefused : ℕ → List (List ℕ × List ℕ) → LinkFault → Type 0
IsFirstRefused inputs files fault = (fault ≡ memory_fault) ⊎ IsFirstFile inputs files fault
