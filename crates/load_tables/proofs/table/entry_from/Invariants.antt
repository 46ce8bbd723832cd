use Rattle.std.proofs.Common.{◌≡◌, ◌+◌, ◌-◌, ◌<◌, ◌≤◌, ℕ, length}
use Rattle.std.specs.Prelude.{slice_index}
use Rattle.omf_format.specs.Number.{number_at}
use Rattle.load_meaning.specs.Cells.{segment_bytes}
use Rattle.omf_records.specs.Segments.{segment_of_view}
use Rattle.load_tables.proofs.table.entry_from.Given as goal

-- the bytes so far are those of the data
abbrev pub invariant-bytes : goal.invariant-bytes
invariant-bytes l = record {
  most : l.place ≤ 14;
  size : length l.entry ≡ 14;
  are : (n : ℕ) → n < l.place → number_at 1 (l.at + n) (segment_bytes (segment_of_view l.view)) ≡ slice_index l.entry n;
}

abbrev pub decreases-bytes : goal.decreases-bytes
decreases-bytes l = 14 - l.place
