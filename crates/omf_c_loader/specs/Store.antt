-- Files that are handed in with a call.
use Rattle.std.specs.Prelude.{ℕ, List, map, Some}
use Rattle.std.specs.FinMap.{from_entries}
use Rattle.omf_io.specs.Files.{FileMap, StoreSeen}
use Rattle.omf_c_loader.specs.declared.store.OmfStored.{OmfStored}
use Rattle.omf_c_loader.specs.declared.store.HandedFiles.{HandedFiles}

-- the files, each with its path
abbrev pub entries_of : List OmfStored → List (List ℕ × List ℕ)
entries_of files = map (λ file. (file.path.now, file.bytes.now)) files

-- what is held: at each path the first file that is handed in with it
abbrev pub held_of : List OmfStored → FileMap
held_of files = from_entries (entries_of files)

-- the files are revealed, and no read fails
abbrev pub handed_seen : HandedFiles → StoreSeen
handed_seen store = record { held = Some (held_of store.files.now); faults = 0; asked = store.asked }
