use Rattle.std.proofs.Common.{◌≡◌, ◌-◌, ◌≤◌, length, map}
use Rattle.omf_records.specs.Segments.{segment_of_view}
use Rattle.load_tables.specs.View.{seen_export}
use Rattle.load_tables.proofs.ExportWalks.{exports_by}
use Rattle.omf_cells.proofs.ReadSegments.{Read}
use Rattle.omf_cells.proofs.reading.read_load.Given as goal

-- the segments so far follow one another up to the start of the next, and pass phase 1; what they export was kept
abbrev pub invariant-segments : goal.invariant-segments
invariant-segments l = record {
  read : Read l.file l.views.items l.start l.number;
  exported : map seen_export l.exports.items ≡ exports_by (map segment_of_view l.views.items);
  few : length l.exports.items ≤ l.start;
}

abbrev pub decreases-segments : goal.decreases-segments
decreases-segments l = length l.initial.file - l.start
