use Rattle.std.proofs.Common.{length, map}
use Rattle.load_meaning.specs.Loadable.{first_target_fault}
use Rattle.omf_records.specs.Segments.{segment_of_view}
use Rattle.load_content.specs.Content.{shown_spots}
use Rattle.load_content.proofs.Searches.{Same}
use Rattle.load_content.proofs.PatchWalks.{Given}
use Rattle.load_content.proofs.targets.take_records.Given as goal

-- what is found first in all records is found first in those that are left, and the bytes of the patches so far were added
abbrev pub invariant-records : goal.invariant-records
invariant-records l = record {
  same : Same (first_target_fault (map segment_of_view l.views.items) (segment_of_view l.view)) l.initial.records l.records;
  given : Given (segment_of_view l.view) l.initial.records l.records (shown_spots l.initial.spots.items) (shown_spots l.spots.items);
}

abbrev pub decreases-records : goal.decreases-records
decreases-records l = length l.records.left
