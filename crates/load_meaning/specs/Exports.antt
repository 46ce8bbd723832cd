-- The names that a load file gives to others: its ENTRY records (this project's own choice).
use Rattle.std.specs.Prelude.{ℕ, ◌+◌, List, [], ◌∷◌, ◌++◌}
use Rattle.std.specs.List.{flat_map}
use Rattle.omf_format.specs.Record.{Record, Entry}
use Rattle.omf_format.specs.File.{Segment}

-- a name, the segment and the offset that it represents, and the number of the segment whose body has the record
pub record Export : Type 0 where
  pub name : List ℕ
  pub segment : ℕ
  pub offset : ℕ
  pub holder : ℕ

-- what a record of the segment with this number exports
abbrev pub exports_of_record : ℕ → Record → List Export
exports_of_record holder (Entry number offset name) = record { name = name; segment = number; offset = offset; holder = holder } ∷ []
exports_of_record holder _ = []

-- what these segments export, the first of which has this number, in segment and record order
abbrev pub exports_from : ℕ → List Segment → List Export
exports_from number [] = []
exports_from number (s ∷ segments) = flat_map (λ found. exports_of_record number found.1) s.records ++ exports_from (number + 1) segments

-- what a load file exports
unfoldable pub exports_of : List Segment → List Export
exports_of segments = exports_from 1 segments
