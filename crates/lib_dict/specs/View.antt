-- How the names that segments have for others are seen, record by record.
use Rattle.std.specs.Prelude.{ℕ, Bool, not, List, map, Option, Some, None, ◌==◌, if◌then◌else◌}
use Rattle.std.specs.List.{filter_map}
use Rattle.omf_format.specs.Record.{Record, Label, Equate}
use Rattle.lib_dict.specs.declared.listed.Outer.{Outer}
use Rattle.lib_dict.specs.Library.{LibraryRow}

-- a row without where the bytes of its name lie
abbrev pub outer_row : Outer → LibraryRow
outer_row o = record { name = o.name.now; file = o.file; private = o.private; at = o.at }

-- the name that a record defines for others, and whether it is private
abbrev pub outer_of : Record → Option (List ℕ × Bool)
outer_of (Label global name size form private) = if global then Some (name, not (private == 0)) else None
outer_of (Equate global name size form private expr) = if global then Some (name, not (private == 0)) else None
outer_of _ = None

-- the row of such a name, in a segment of that file that starts there
abbrev pub row_of_name : ℕ → ℕ → List ℕ × Bool → LibraryRow
row_of_name file at name = record { name = name.0; file = file; private = name.1; at = at }

-- the rows of a segment's records
abbrev pub record_rows : ℕ → ℕ → List (ℕ × Record) → List LibraryRow
record_rows file at founds = map (row_of_name file at) (filter_map (λ found. outer_of found.1) founds)
