use Rattle.std.proofs.Common.{◌≤◌, ℕ, drop}
use Rattle.load_content.specs.Content.{AreRuns}
use Rattle.omf_compact.specs.laws.Walk.{NoneBegins}
use Rattle.omf_compact.proofs.gaps.next_start.Given as goal

-- none of the spots in the runs so far begins after the offset and before the next start
abbrev pub invariant-runs : goal.invariant-runs
invariant-runs l = record {
  are : AreRuns (drop l.count-index l.runs) l.left;
  whole : (high : ℕ) → high ≤ l.next → NoneBegins l.at high l.left → NoneBegins l.at high l.spots;
  bound : l.next ≤ l.end;
}
