use Rattle.std.proofs.Common.{◌≤◌, length}
use Rattle.load_content.proofs.Walks.{SoFar}
use Rattle.load_content.proofs.body.is_longer.Given as goal

-- the records so far put this many bytes into the segment
abbrev pub invariant-records : goal.invariant-records
invariant-records l = record {
  so_far : SoFar l.initial.records l.records l.size;
  within : l.size ≤ l.most;
}

abbrev pub decreases-records : goal.decreases-records
decreases-records l = length l.records.left
