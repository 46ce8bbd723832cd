use Rattle.std.proofs.Common.{◌≡◌, ◌-◌, ◌≤◌, map}
use Rattle.omf_format.specs.Header.{first_of}
use Rattle.load_meaning.specs.Cells.{segment_bytes}
use Rattle.load_meaning.specs.LoadTable.{entries_checks}
use Rattle.omf_records.specs.Segments.{segment_of_view}
use Rattle.load_tables.proofs.table.entries_flaw.Given as goal

-- the entries so far have no wrong field
abbrev pub invariant-entries : goal.invariant-entries
invariant-entries l = record {
  within : l.place ≤ l.count;
  same : first_of (entries_checks (map segment_of_view l.views.items) (segment_bytes (segment_of_view l.view)) 0 l.count) ≡ first_of (entries_checks (map segment_of_view l.views.items) (segment_bytes (segment_of_view l.view)) l.place (l.count - l.place));
}

abbrev pub decreases-entries : goal.decreases-entries
decreases-entries l = l.count - l.place
