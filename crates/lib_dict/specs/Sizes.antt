-- How large a library is. No public clause cites this module.
use Rattle.std.specs.Prelude.{◌≡◌, ◌<◌, ◌≤◌, ◌^◌, ℕ, ◌+◌, ◌*◌, List, [], ◌∷◌, length, Option, Some, None}
use Rattle.std.specs.List.{AllByRecursion}
use Rattle.omf_format.specs.File.{IsFile}
use Rattle.lib_dict.specs.Library.{LibraryRow, LibraryFile}
use Rattle.object_meaning.specs.Sizes.{most_bytes}

-- a file that was read, of fewer than 2 ^ 32 bytes
pub record IsReadFile (file : LibraryFile) : Type 0 where
  pub segments : IsFile file.segments file.bytes
  pub short : length file.bytes < 2 ^ 32

-- few such files
pub record AreFiles (files : List LibraryFile) : Type 0 where
  pub few : length files ≤ 65535
  pub each : AllByRecursion IsReadFile files

-- how many bytes they have together
abbrev pub total_bytes : List LibraryFile → ℕ
total_bytes [] = 0
total_bytes (file ∷ files) = length file.bytes + total_bytes files

-- a row, where the first file begins at this displacement
abbrev pub moved_row : ℕ → LibraryRow → LibraryRow
moved_row base row = record row { at = base + row.at }

-- each segment of a row starts before that displacement
pub record StartBefore (most : ℕ) (rows : List LibraryRow) : Type 0 where
  pub each : AllByRecursion (λ row. row.at < most) rows

-- where the first file of a library begins, whose three records have these sizes
abbrev pub first_place : ℕ → ℕ → ℕ → ℕ
first_place first rows third = 81 + first + 12 * rows + third

-- the place, where the library isn't too long
abbrev pub PlaceFits : ℕ → ℕ → Option ℕ → Type 0
PlaceFits place total None = most_bytes < place + total
PlaceFits place total (Some n) = (n ≡ place) × (place + total ≤ most_bytes)
