use Rattle.std.proofs.Common.{◌≡◌, map, take}
use Rattle.std.specs.List.{list_any}
use Rattle.load_meaning.specs.LoadTable.{is_table}
use Rattle.load_meaning.specs.Loadable.{table_fault}
use Rattle.omf_records.specs.Segments.{segment_of_view}
use Rattle.load_content.proofs.LoadViews.{Passed}
use Rattle.load_tables.proofs.table.check_tables.Given as goal

-- the views so far have no fault, and it is known whether one of them is a table
abbrev pub invariant-views : goal.invariant-views
invariant-views l = record {
  passed : Passed (table_fault (map segment_of_view l.views.items)) l.views.items l.view-index l.number;
  second : l.second ≡ list_any is_table (take l.view-index (map segment_of_view l.views.items));
}
