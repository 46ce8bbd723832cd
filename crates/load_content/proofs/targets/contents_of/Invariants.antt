use Rattle.std.proofs.Common.{map, take}
use Rattle.load_meaning.specs.Loadable.{shape_fault, target_fault}
use Rattle.omf_records.specs.Segments.{segment_of_view}
use Rattle.load_content.specs.Content.{AreContents}
use Rattle.load_content.proofs.LoadViews.{Passed}
use Rattle.load_content.proofs.targets.contents_of.Given as goal

-- the views so far have no fault, and what is kept of them is theirs
abbrev pub invariant-views : goal.invariant-views
invariant-views l = record {
  targets : Passed (target_fault (map segment_of_view l.views.items)) l.views.items l.view-index l.number;
  shapes : Passed shape_fault l.views.items l.view-index l.number;
  are : AreContents (take l.view-index l.views.items) l.contents.items;
}
