use Rattle.std.proofs.Common.{◌≡◌, map, take}
use Rattle.std.specs.List.{list_any}
use Rattle.load_meaning.specs.Pathnames.{has_pathnames, paths_of}
use Rattle.load_meaning.specs.Loadable.{shape_fault, pathnames_fault}
use Rattle.omf_records.specs.Segments.{segment_of_view}
use Rattle.load_tables.specs.View.{seen_paths}
use Rattle.load_content.proofs.LoadViews.{Passed}
use Rattle.load_tables.proofs.pathnames.check_pathnames.Given as goal

-- the views so far have no fault, it is known whether one of them is a pathname segment, and these are its paths
abbrev pub invariant-views : goal.invariant-views
invariant-views l = record {
  passed : Passed (pathnames_fault (map segment_of_view l.views.items)) l.views.items l.view-index l.number;
  shapes : Passed shape_fault l.views.items l.view-index l.number;
  second : l.second ≡ list_any has_pathnames (take l.view-index (map segment_of_view l.views.items));
  paths : seen_paths l.paths.items ≡ paths_of (take l.view-index (map segment_of_view l.views.items));
}
