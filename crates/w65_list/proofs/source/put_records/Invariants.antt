use Rattle.std.proofs.Common.{length}
use Rattle.omf_header.specs.View.{fields}
use Rattle.w65_list.specs.SourceView.{RecordsOn}
use Rattle.w65_list.proofs.source.put_records.Given as goal

-- the lines of the records so far
abbrev pub invariant-records : goal.invariant-records
invariant-records l = RecordsOn (fields l.header) l.names l.initial.records l.records l.initial.before l.before l.fn.out l.out

abbrev pub decreases-records : goal.decreases-records
decreases-records l = length l.records.left
