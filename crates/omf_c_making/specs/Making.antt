-- The outcomes of the calls that make a file.
use Rattle.std.specs.Prelude.{◌≢◌, ℕ, ◌<◌, ◌≤◌, ◌^◌, List, length, map, All}
use Rattle.omf_format.specs.File as file
use Rattle.dump_lines.specs.Listing.{IsListing}
use Rattle.lib_dict.specs.declared.fault.LibCause.TheVariants as lib_causes
use Rattle.lib_dict.specs.Library as library
use Rattle.lib_dict.specs.Made.{IsLibRefused}
use Rattle.link_meaning.specs.declared.form.LinkForm.{LinkForm}
use Rattle.link_meaning.specs.LinkFaults as link
use Rattle.link_meaning.specs.EmitFaults.{IsFirstLinkFault, IsLinkedTo}
use Rattle.link_resolve.specs.Resolved.{FewGiven, HavePaths}
use Rattle.source_meaning.specs.Object as asm
use Rattle.expand_lines.specs.LinesText.{IsTextOf}
use Rattle.macro_meaning.specs.Expansion as expansion
use Rattle.link_map.specs.MapText.{IsMapOf}
use Rattle.list_meaning.specs.Answer as list
use Rattle.list_meaning.specs.declared.faults.ListCause.TheVariants as list_causes
use Rattle.omf_compact.specs.Answer as compact
use Rattle.omf_compact.specs.declared.fault.CompactCause.TheVariants as compact_causes
use Rattle.omf_c_files.specs.declared.fault.OmfFault.{OmfFault}
use Rattle.omf_c_making.specs.declared.file.OmfBytes.{OmfBytes}
use Rattle.omf_c_making.specs.declared.file.OmfFile.{OmfFile}
use Rattle.omf_c_making.specs.Faults.{ReportsFile, ReportsLib, ReportsLink, ReportsAsm, ReportsList, ReportsCompact, ReportsMacro}
use Rattle.omf_c_files.specs.Handed.{CallOutcome, Made, Refused, NoMemory, Misused}

-- What is given can be taken, and the bytes are made of it, or its first fault is reported; a call is misused exactly where it can't be
-- taken.
abbrev pub Makes : {F : Type 0} → Type 0 → (List ℕ → Type 0) → (F → Type 0) → (OmfFault → F → Type 0) → CallOutcome (List ℕ) → Type 0
Makes Can IsMade IsFirst Reports (Made bytes) = Can × IsMade bytes
Makes {F = F} Can IsMade IsFirst Reports (Refused reported) = Can × (fault : F) × IsFirst fault × Reports reported fault
Makes Can IsMade IsFirst Reports NoMemory = Unit {0}
Makes Can IsMade IsFirst Reports Misused = Can → ⊥

-- the bytes of files
abbrev pub contents : List OmfBytes → List (List ℕ)
contents files = map (λ f. f.bytes.now) files

-- the listing of a file of fewer than 2^32 bytes
abbrev pub Dumps : List ℕ → CallOutcome (List ℕ) → Type 0
Dumps bytes = Makes (length bytes < 2 ^ 32) (IsListing bytes) (file.IsFirstFault bytes) ReportsFile

-- the object of a source with macro files
abbrev pub Assembles : List ℕ → List (List ℕ) → CallOutcome (List ℕ) → Type 0
Assembles source macros = Makes (Unit {0}) (asm.IsObject source macros) (asm.IsFirstFault source macros) ReportsAsm

-- what the linker is given
abbrev pub link_given : LinkForm → List (List ℕ) → List OmfFile → link.LinkInput
link_given form inputs runtimes = record { inputs = inputs; runtimes = map (λ f. (f.name.now, f.bytes.now)) runtimes; form = form }

-- The load file of what the linker is given: of fewer than 2^32 files with fewer than 2^32 bytes together, and in a program of at most 16
-- run-time library files with paths.
abbrev pub Links : link.LinkInput → CallOutcome (List ℕ) → Type 0
Links given = Makes (FewGiven given × HavePaths given) (IsLinkedTo given) (IsFirstLinkFault given) ReportsLink

-- the files of a library
abbrev pub library_given : List OmfFile → List library.LibraryInput
library_given files = map (λ f. record { name = f.name.now; bytes = f.bytes.now }) files

-- a file has a name of at most 255 bytes
abbrev pub HasName : library.LibraryInput → Type 0
HasName f = length f.name ≤ 255

-- and fewer than 2^32 bytes
abbrev pub IsShort : library.LibraryInput → Type 0
IsShort f = length f.bytes < 2 ^ 32

-- a library is made of at most 65,535 such files
pub record CanStand (given : List library.LibraryInput) : Type 0 where
  pub few : length given ≤ 65535
  pub names : All HasName given
  pub short : All IsShort given

-- the library of the files
abbrev pub MakesLibrary : List library.LibraryInput → CallOutcome (List ℕ) → Type 0
MakesLibrary given =
    Makes (CanStand given) (library.IsLibraryOf given) (λ fault. IsLibRefused fault given × (fault.cause ≢ lib_causes.Memory)) ReportsLib

-- the lines of a source after expansion with macro files
abbrev pub Expands : List ℕ → List (List ℕ) → CallOutcome (List ℕ) → Type 0
Expands source macros = Makes (Unit {0}) (IsTextOf source macros) (expansion.IsFirstFault source macros) ReportsMacro

-- the map of what the linker is given, which is what it is for Links
abbrev pub Maps : link.LinkInput → CallOutcome (List ℕ) → Type 0
Maps given = Makes (FewGiven given × HavePaths given) (IsMapOf given) (IsFirstLinkFault given) ReportsLink

-- the source of an object file of fewer than 2^32 bytes
abbrev pub Lists : List ℕ → CallOutcome (List ℕ) → Type 0
Lists bytes = Makes (length bytes < 2 ^ 32) (list.IsListing bytes) (λ fault. list.IsListFault bytes fault × (fault.cause ≢ list_causes.Memory)) ReportsList

-- the one fixed form of a load file of fewer than 2^32 bytes
abbrev pub Compacts : List ℕ → CallOutcome (List ℕ) → Type 0
Compacts bytes = Makes (length bytes < 2 ^ 32) (compact.IsAnswer bytes) (λ fault. compact.IsRefused fault bytes × (fault.cause ≢ compact_causes.Memory)) ReportsCompact
