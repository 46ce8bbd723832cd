use Rattle.std.proofs.Common.{◌≡◌, ◌+◌, drop, map}
use Rattle.load_meaning.specs.LoadTable.{table_from, table_of}
use Rattle.omf_records.specs.Segments.{segment_of_view}
use Rattle.load_tables.proofs.table.table_of.Given as goal

-- the views so far are no table
abbrev pub invariant-views : goal.invariant-views
invariant-views l = record {
  place : l.number ≡ l.view-index + 1;
  same : table_of (map segment_of_view l.views.items) ≡ table_from l.number (map segment_of_view (drop l.view-index l.views.items));
}
