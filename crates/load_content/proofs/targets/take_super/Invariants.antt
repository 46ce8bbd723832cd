use Rattle.std.proofs.Common.{◌≡◌, ◌++◌, length, map}
use Rattle.load_meaning.specs.Cells.{super_patch}
use Rattle.load_meaning.specs.Loadable.{first_refusal}
use Rattle.omf_records.specs.Segments.{segment_of_view}
use Rattle.load_content.specs.Content.{spread_all, shown_spots}
use Rattle.load_content.proofs.targets.take_super.Given as goal

-- the patches so far are allowed there, and their bytes were added
abbrev pub invariant-locations : goal.invariant-locations
invariant-locations l = record {
  same : first_refusal (map segment_of_view l.views.items) (segment_of_view l.view) (map (super_patch (segment_of_view l.view) l.form) l.initial.locations)
      ≡ first_refusal (map segment_of_view l.views.items) (segment_of_view l.view) (map (super_patch (segment_of_view l.view) l.form) l.locations);
  whole : shown_spots l.spots.items ++ spread_all (map (super_patch (segment_of_view l.view) l.form) l.locations)
      ≡ shown_spots l.initial.spots.items ++ spread_all (map (super_patch (segment_of_view l.view) l.form) l.initial.locations);
}

abbrev pub decreases-locations : goal.decreases-locations
decreases-locations l = length l.locations
