-- Words of lemmas: parts of what is held and of what is written for it.
use Rattle.std.specs.Prelude.{ℕ, List, [], ◌∷◌, ◌++◌, map, if◌then◌else◌}
use Rattle.std.specs.List.{filter}
use Rattle.omf_format.specs.Record.{Record, LongConst}
use Rattle.omf_format.specs.File.{Segment}
use Rattle.load_meaning.specs.WrittenBody.{body_records}
use Rattle.omf_compact.specs.Stretches.{stretches, bytes_in}
use Rattle.omf_compact.specs.Canonical.{Plain, is_entry, is_pathname}

-- the ENTRY records of a segment
abbrev pub entries_in : Segment → List Record
entries_in s = filter is_entry (map (λ found. found.1) s.records)

-- the data and the patches of the cells, and then the ENTRY records
abbrev pub canon_records : ℕ → Plain → List Record
canon_records number p =
    (if is_pathname p then LongConst (bytes_in p.cells') ∷ [] else body_records number (bytes_in p.cells') (stretches p.cells')) ++ p.entries
