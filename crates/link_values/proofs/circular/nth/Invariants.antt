use Rattle.std.proofs.Common.{length}
use Rattle.omf_records.specs.Segments.{segment_of_view}
use Rattle.link_values.specs.Circulars.{Counting}
use Rattle.link_values.proofs.circular.nth.Given as goal

abbrev pub invariant-walk : goal.invariant-walk
invariant-walk l = Counting (segment_of_view l.segment) l.number l.left l.records

abbrev pub decreases-walk : goal.decreases-walk
decreases-walk l = length l.records.left
