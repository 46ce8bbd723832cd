use Rattle.std.proofs.Common.{length}
use Rattle.omf_cells.proofs.BodyRuns.{Ran}
use Rattle.omf_cells.proofs.records.check_records.Given as goal

-- from its start the reader has passed only records that a load segment may have
abbrev pub invariant-records : goal.invariant-records
invariant-records l = Ran l.initial.records l.records

abbrev pub decreases-records : goal.decreases-records
decreases-records l = length l.records.left
