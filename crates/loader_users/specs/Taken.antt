-- What is taken of a file that is read for a user.
use Rattle.std.specs.Prelude.{◌≡◌, ◌⊎◌, ℕ, Bool, true, false, List}
use Rattle.omf_format.specs.File.{Segment}
use Rattle.load_meaning.specs.declared.load.LoadFault.{LoadFault}
use Rattle.load_meaning.specs.Loadable.{IsLoadable, IsFirstLoadFault}
use Rattle.load_meaning.specs.Runtime.{IsRuntime, IsFirstRuntimeFault}
use Rattle.loader_machine.specs.declared.faults.LoaderFault.{LoaderFault}
use Rattle.loader_machine.specs.declared.faults.LoaderFault.TheVariants as fault

-- a file that is read: a load file of these segments; that of an attached user is a run-time library file
abbrev pub IsReadAs : Bool → List ℕ → List Segment → Type 0
IsReadAs true file segments = IsRuntime file segments
IsReadAs false file segments = IsLoadable file segments

-- the first fault of a file as that
abbrev pub IsFaultAs : Bool → List ℕ → LoadFault → Type 0
IsFaultAs true file fault = IsFirstRuntimeFault file fault
IsFaultAs false file fault = IsFirstLoadFault file fault

-- the file isn't loaded, for this first fault or for lack of memory
abbrev pub IsBadFile : Bool → List ℕ → LoaderFault → Type 0
IsBadFile attached file why = (why ≡ fault.Memory) ⊎ ((bad : LoadFault) × IsFaultAs attached file bad × (why ≡ fault.BadFile bad))
