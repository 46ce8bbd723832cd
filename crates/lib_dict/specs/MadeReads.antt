-- A library that is made is read.
use Rattle.std.specs.Prelude.{◌≡◌, ◌≤◌, ℕ, List, length, drop}
use Rattle.std.specs.List.{flat_map}
use Rattle.omf_format.specs.Number.{IsBytes}
use Rattle.lib_dict.specs.declared.fault.DictFault.{DictFault}
use Rattle.lib_dict.specs.declared.fault.DictFault.TheVariants as dict
use Rattle.lib_dict.specs.Library.{LibraryRow, HasRows, LibraryInput, LibraryFile, dictionary_size, library_rows, IsLibraryOf}
use Rattle.lib_dict.specs.Rows.{HasNoRows}

-- the bytes are read as a library with the rows of these files, and in no other way, and the bytes of the given files follow the dictionary
-- unchanged
pub record IsReadBack (given : List LibraryInput) (files : List LibraryFile) (bytes : List ℕ) : Type 0 where
  pub rows : HasRows bytes (library_rows files)
  pub no_others : (others : List LibraryRow) → HasRows bytes others → others ≡ library_rows files
  pub no_fault : (fault : DictFault) → HasNoRows fault bytes → fault ≡ dict.Memory
  pub following : drop (dictionary_size files) bytes ≡ flat_map (λ file. file.bytes) given

-- what is made of at most 65,535 files is read so
abbrev pub MadeIsRead : Type 0
MadeIsRead = (given : List LibraryInput) (bytes : List ℕ) → IsBytes bytes → length given ≤ 65535 → (made : IsLibraryOf given bytes) → IsReadBack given made.files bytes
