use Rattle.std.proofs.Common.{length}
use Rattle.omf_records.specs.Segments.{segment_of_view}
use Rattle.link_tables.proofs.Sized.{Sized}
use Rattle.link_resolve.proofs.checks.records_size.Given as goal

abbrev pub invariant-walk : goal.invariant-walk
invariant-walk l = Sized l.align (segment_of_view l.fn.segment).records l.records l.size

abbrev pub decreases-walk : goal.decreases-walk
decreases-walk l = length l.records.left
