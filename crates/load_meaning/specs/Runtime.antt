-- Run-time library files: load files whose segments are all dynamic, and none skipped (this project's own choice).
use Rattle.std.specs.Prelude.{◌≡◌, ℕ, not, ◌&&◌, if◌then◌else◌, List, Option, Some, None}
use Rattle.load_meaning.specs.declared.load.LoadCause.TheVariants.{NotLoadFile}
use Rattle.load_meaning.specs.declared.load.LoadFault.{LoadFault}
use Rattle.omf_format.specs.Header.{is_dynamic, is_skipped}
use Rattle.omf_format.specs.File.{Segment}
use Rattle.load_meaning.specs.Loadable.{Fault, first_in, IsLoadable, IsFirstLoadFault}

-- a segment of a run-time library file is dynamic, and isn't skipped
abbrev pub kind_fault : ℕ → Segment → Option Fault
kind_fault number s = if is_dynamic s.fields.kind && not (is_skipped s.fields.kind) then None else Some (NotLoadFile, s.start)

-- the first segment that isn't allowed in a run-time library file
unfoldable pub runtime_fault : List Segment → Option LoadFault
runtime_fault segments = first_in kind_fault 1 segments

-- the file is a run-time library file of these segments
pub record IsRuntime (file : List ℕ) (segments : List Segment) : Type 0 where
  pub loadable : IsLoadable file segments
  pub dynamic : runtime_fault segments ≡ None

-- the first fault of a file that isn't one: that of a load file, or else of its first segment that isn't allowed there
pub data IsFirstRuntimeFault (file : List ℕ) (fault : LoadFault) : Type 0 where
  OfLoading : IsFirstLoadFault file fault → IsFirstRuntimeFault file fault
  OfKind : (segments : List Segment) → IsLoadable file segments → runtime_fault segments ≡ Some fault → IsFirstRuntimeFault file fault
