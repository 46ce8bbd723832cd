-- What a read of a path finds.
use Rattle.std.specs.Prelude.{◌≡◌, ◌≤◌, ℕ, ◌+◌, List, [], ◌∷◌, length, Some}
use Rattle.std.specs.FinMap.{get}
use Rattle.omf_format.specs.File.{Segment}
use Rattle.omf_io.specs.Files.{FileMap, max_file}
use Rattle.load_meaning.specs.declared.load.LoadFault.{LoadFault}
use Rattle.load_meaning.specs.Loadable.{IsLoadable, IsFirstLoadFault}
use Rattle.load_meaning.specs.Runtime.{IsRuntime, IsFirstRuntimeFault}
use Rattle.loader_machine.specs.declared.faults.LoaderFault.{LoaderFault}
use Rattle.loader_machine.specs.declared.faults.LoaderFault.TheVariants.{CannotRead, BadFile}

-- the path holds a file that isn't too long to be read
abbrev pub HoldsFile : FileMap → List ℕ → List ℕ → Type 0
HoldsFile held path file = (get held path ≡ Some file) × (length file ≤ max_file)

-- the path holds a load file of these segments
pub record HoldsLoad (held : FileMap) (path : List ℕ) (segments : List Segment) : Type 0 where
  pub file : List ℕ
  pub is_held : HoldsFile held path file
  pub loadable : IsLoadable file segments

-- the path holds a file that isn't loaded, and has this first fault
pub record HoldsFault (held : FileMap) (path : List ℕ) (fault : LoadFault) : Type 0 where
  pub file : List ℕ
  pub is_held : HoldsFile held path file
  pub first : IsFirstLoadFault file fault

-- what a read of a path finds: no file that can be read, one that isn't loaded and why, or a load file of these segments
pub data FileFound : Type 0 where
  Unread : FileFound
  Bad : (fault : LoadFault) → FileFound
  Good : (segments : List Segment) → FileFound

abbrev pub IsFound : FileMap → List ℕ → FileFound → Type 0
IsFound held path Unread = (file : List ℕ) → ¬ HoldsFile held path file
IsFound held path (Bad fault) = HoldsFault held path fault
IsFound held path (Good segments) = HoldsLoad held path segments

-- ---- run-time library files

-- the path holds a run-time library file of these segments
pub record HoldsRuntime (held : FileMap) (path : List ℕ) (segments : List Segment) : Type 0 where
  pub file : List ℕ
  pub is_held : HoldsFile held path file
  pub runtime : IsRuntime file segments

-- the path holds a file with this first fault as a run-time library file
pub record HoldsRuntimeFault (held : FileMap) (path : List ℕ) (fault : LoadFault) : Type 0 where
  pub file : List ℕ
  pub is_held : HoldsFile held path file
  pub first : IsFirstRuntimeFault file fault

-- the outcome of reading the files of rows, one by one: the call is refused at the last of `reads` reads; or each is a run-time library
-- file, of these segments
pub data Joined : Type 0 where
  Stops : (reads : ℕ) (why : LoaderFault) → Joined
  Joins : (all : List (List Segment)) → Joined

-- the outcome where one file more, of these segments, is read before the others
abbrev pub joined_after : List Segment → Joined → Joined
joined_after segments (Stops reads why) = Stops (reads + 1) why
joined_after segments (Joins all) = Joins (segments ∷ all)

-- the outcome of the files at these paths, by what the read of the first one finds
abbrev pub AreJoined : FileMap → List (List ℕ) → Joined → Type 0
AreJoined held [] joined = joined ≡ Joins []
AreJoined held (path ∷ paths) joined = (found : FileFound)
    × (elim found [ Unread ↦ (file : List ℕ) → ¬ HoldsFile held path file | Bad fault ↦ HoldsRuntimeFault held path fault | Good segments ↦ HoldsRuntime held path segments ])
    × (elim found [
      | Unread ↦ joined ≡ Stops 1 CannotRead
      | Bad fault ↦ joined ≡ Stops 1 (BadFile fault)
      | Good segments ↦ (rest : Joined) × AreJoined held paths rest × (joined ≡ joined_after segments rest)
    ])
