use Rattle.std.proofs.Common.{◌≡◌, ◌+◌, ◌-◌, ◌≤◌}
use Rattle.omf_format.specs.Header.{first_of}
use Rattle.load_meaning.specs.Cells.{segment_bytes}
use Rattle.load_meaning.specs.LoadTable.{zero_checks}
use Rattle.omf_records.specs.Segments.{segment_of_view}
use Rattle.load_tables.proofs.table.nonzero_from.Given as goal

-- the bytes so far are 0
abbrev pub invariant-zeros : goal.invariant-zeros
invariant-zeros l = record {
  within : l.passed ≤ l.count;
  same : first_of (zero_checks (segment_bytes (segment_of_view l.view)) l.at l.count) ≡ first_of (zero_checks (segment_bytes (segment_of_view l.view)) (l.at + l.passed) (l.count - l.passed));
}

abbrev pub decreases-zeros : goal.decreases-zeros
decreases-zeros l = l.count - l.passed
