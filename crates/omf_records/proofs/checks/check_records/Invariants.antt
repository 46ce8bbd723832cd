use Rattle.std.proofs.Common.{length}
use Rattle.omf_records.proofs.Runs.{Ran}
use Rattle.omf_records.proofs.checks.check_records.Given as goal

-- the reader got here from where it began
abbrev pub invariant-records : goal.invariant-records
invariant-records l = Ran l.initial.records l.records

abbrev pub decreases-records : goal.decreases-records
decreases-records l = length l.records.left
