-- What is looked up for the rows of a dictionary. No public clause cites this module.
use Rattle.std.specs.Prelude.{◌≡◌, ◌<◌, ◌≤◌, ◌^◌, ℕ, ◌+◌, ◌/◌, Bool, ◌&&◌, List, [], length, map, drop, Option, Some, None, Result, Ok, Err, nat_eq, unwrap_or, if◌then◌else◌}
use Rattle.std.specs.List.{flat_map, list_any}
use Rattle.std.proofs.Math.Bool.{beq}
use Rattle.std.specs.Str.{bytes_eq}
use Rattle.omf_format.specs.declared.fault.FileFault.{FileFault}
use Rattle.omf_format.specs.Number.{number_at}
use Rattle.omf_format.specs.File.{Segment, IsFile}
use Rattle.omf_records.specs.Segments.{IsRefused}
use Rattle.link_meaning.specs.Member.{OfferedRow}
use Rattle.link_meaning.specs.Dictionary.{file_numbers, names_from, numbered_from, row_at, rows_from}
use Rattle.lib_dict.specs.declared.fault.DictFault.{DictFault}
use Rattle.lib_dict.specs.declared.fault.DictFault.TheVariants as dict
use Rattle.lib_dict.specs.declared.dictionary.Row as declared
use Rattle.lib_dict.specs.declared.rows.Tables.{Tables}
use Rattle.lib_dict.specs.Library.{LibraryRow, row_view, segment_rows, is_dictionary}
use Rattle.lib_dict.specs.View.{outer_row}
use Rattle.lib_dict.specs.Rows.{seen_row, HasNoRows}

-- two rows are the same
abbrev pub same_row : LibraryRow → LibraryRow → Bool
same_row a b = bytes_eq a.name b.name && (nat_eq a.file b.file && (beq a.private b.private && nat_eq a.at b.at))

-- the first rows are the second ones, each once
pub record HoldsRows (known rows : List LibraryRow) : Type 0 where
  pub each : (q : LibraryRow) → list_any (same_row q) known ≡ list_any (same_row q) rows

-- the same numbers
pub record SameNumbers (xs ys : List ℕ) : Type 0 where
  pub each : (q : ℕ) → list_any (nat_eq q) xs ≡ list_any (nat_eq q) ys

-- the file numbers of a first record, where it has its form
abbrev pub AreNumbers : Option (List ℕ) → List ℕ → Type 0
AreNumbers None bytes = file_numbers (length bytes) bytes ≡ None
AreNumbers (Some keys) bytes = (numbers : List ℕ) × (file_numbers (length bytes) bytes ≡ Some numbers) × SameNumbers keys numbers

abbrev pub starts_of : List (ℕ × List ℕ) → List ℕ
starts_of names = map (λ x. x.0) names

-- the starts of the names of a third record, where it has its form
abbrev pub AreStarts : Option (List ℕ) → List ℕ → Type 0
AreStarts None bytes = names_from (length bytes) 0 bytes ≡ None
AreStarts (Some keys) bytes = (names : List (ℕ × List ℕ)) × (names_from (length bytes) 0 bytes ≡ Some names) × SameNumbers keys (starts_of names)

-- ---- rows

-- the rows of a segment that isn't a dictionary, of no file
abbrev pub other_rows : Segment → List LibraryRow
other_rows s = if is_dictionary s then [] else segment_rows 0 0 s

-- the rows of the segments after the first
unfoldable pub following_rows : List Segment → List LibraryRow
following_rows segments = flat_map other_rows (drop 1 segments)

unfoldable pub numbers_in : List ℕ → List ℕ
numbers_in first = unwrap_or (file_numbers (length first) first) []

unfoldable pub names_in : List ℕ → List (ℕ × List ℕ)
names_in third = unwrap_or (names_from (length third) 0 third) []

-- the segments are those of a file of fewer than 2 ^ 32 bytes
pub record IsInFile (segments : List Segment) : Type 0 where
  pub file : List ℕ
  pub is_file : IsFile segments file
  pub short : length file < 2 ^ 32

-- the tables are those of the first and the third record, and of the segments after the dictionary
pub record FitsTables (t : Tables) : Type 0 where
  pub numbers : SameNumbers t.numbers.keys (numbers_in t.first.now)
  pub starts : SameNumbers t.starts.keys (starts_of (names_in t.third.now))
  pub named : names_from (length t.third.now) 0 t.third.now ≡ Some (names_in t.third.now)
  pub known : HoldsRows (map outer_row t.known.keys) (following_rows t.list.now)
  pub file : IsInFile t.list.now

-- a name's length is at this place, and the whole name after it
pub record IsNameAt (third : List ℕ) (at : ℕ) : Type 0 where
  pub length' : at + 1 ≤ length third
  pub whole : at + 1 + number_at 1 at third ≤ length third

-- the row of these twelve bytes, which are at this displacement
abbrev pub row_in : Tables → ℕ → List ℕ → Result OfferedRow ℕ
row_in t at bytes = row_at (numbers_in t.first.now) (names_in t.third.now) (numbered_from 2 (drop 1 t.list.now)) at bytes

abbrev pub IsRowAnswer : Tables → List ℕ → Option LibraryRow → Type 0
IsRowAnswer t bytes None = (at : ℕ) → row_in t at bytes ≡ Err at
IsRowAnswer t bytes (Some row) = (found : OfferedRow) × ((at : ℕ) → row_in t at bytes ≡ Ok found) × (row ≡ row_view t.list.now found)

-- the rows of the second record, whose bytes are at this displacement
abbrev pub rows_at : Tables → ℕ → List ℕ → Result (List OfferedRow) ℕ
rows_at t at second = rows_from (length second / 12) (numbers_in t.first.now) (names_in t.third.now) (numbered_from 2 (drop 1 t.list.now)) at second

-- these rows are returned
pub record AreRowsIn (segments : List Segment) (answer : Result (List OfferedRow) ℕ) (rows : List declared.Row) : Type 0 where
  pub found : List OfferedRow
  pub read : answer ≡ Ok found
  pub reported : map seen_row rows ≡ map (row_view segments) found

-- the dictionary is false there, unless out of memory
abbrev pub IsRowFault : DictFault → Result (List OfferedRow) ℕ → Type 0
IsRowFault (dict.File fault) answer = ⊥
IsRowFault dict.NotLibrary answer = ⊥
IsRowFault (dict.BadLibrary at) answer = answer ≡ Err at
IsRowFault dict.Memory answer = Unit {0}

-- a file's fault as it is reported of its dictionary
abbrev pub FaultOf : FileFault → DictFault → Type 0
FaultOf fault reported = (file : List ℕ) → IsRefused fault file → HasNoRows reported file
