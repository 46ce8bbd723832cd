use Rattle.std.proofs.Common.{length}
use Rattle.w65_list.specs.SourceView.{EquatesOn}
use Rattle.w65_list.proofs.source.equate_names.Given as goal

-- the names of the equates so far
abbrev pub invariant-records : goal.invariant-records
invariant-records l = EquatesOn l.initial.records l.records l.names

abbrev pub decreases-records : goal.decreases-records
decreases-records l = length l.records.left
