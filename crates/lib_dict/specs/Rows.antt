-- How a dictionary's rows are seen, and why a file has no dictionary.
use Rattle.std.specs.Prelude.{◌<◌, ◌^◌, ℕ, List, length}
use Rattle.lib_dict.specs.declared.fault.DictFault.{DictFault}
use Rattle.lib_dict.specs.declared.fault.DictFault.TheVariants as dict
use Rattle.omf_format.specs.File.{Segment, IsFile, IsFirstFault}
use Rattle.omf_format.specs.Number.{IsBytes}
use Rattle.lib_dict.specs.declared.dictionary.Row.{Row}
use Rattle.lib_dict.specs.Library.{LibraryRow, IsNoLibrary, IsFalseAt}

-- a row without where the bytes of its name lie
abbrev pub seen_row : Row → LibraryRow
seen_row row = record { name = row.name.now; file = row.file; private = row.private; at = row.at }

-- the segments are those of a file of these bytes, of which there are fewer than 2 ^ 32
pub record AreReadFrom (segments : List Segment) (file : List ℕ) : Type 0 where
  pub is_file : IsFile segments file
  pub bytes : IsBytes file
  pub short : length file < 2 ^ 32

-- the file has no dictionary, for this reason, unless out of memory
abbrev pub HasNoRows : DictFault → List ℕ → Type 0
HasNoRows (dict.File fault) file = IsFirstFault file fault
HasNoRows dict.NotLibrary file = IsNoLibrary file
HasNoRows (dict.BadLibrary at) file = IsFalseAt file at
HasNoRows dict.Memory file = Unit {0}
