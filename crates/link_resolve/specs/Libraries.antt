-- The rows of a library, each with its segment.
use Rattle.std.specs.Prelude.{◌≡◌, ◌<◌, ℕ, List, Some, map, slice_get}
use Rattle.omf_format.specs.File.{Segment}
use Rattle.link_meaning.specs.Member.{OfferedRow}
use Rattle.lib_dict.specs.Library.{LibraryRow, row_view}
use Rattle.link_program.specs.Inputs.{StandsIn, AllStand}

-- each segment starts after those before it
abbrev pub StartsAscend : List Segment → Type 0
StartsAscend segments = (j k : ℕ) (s t : Segment) → j < k → slice_get segments j ≡ Some s → slice_get segments k ≡ Some t → s.start < t.start

-- it reports a row whose segment is there
abbrev pub IsReported : List Segment → LibraryRow → Type 0
IsReported segments reported = (row : OfferedRow) × (reported ≡ row_view segments row) × StandsIn segments row

-- these report rows whose segments are there
abbrev pub AreReported : List Segment → List LibraryRow → Type 0
AreReported segments reported = (rows : List OfferedRow) × (reported ≡ map (row_view segments) rows) × AllStand segments rows
