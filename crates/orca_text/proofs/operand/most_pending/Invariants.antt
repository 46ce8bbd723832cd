use Rattle.std.proofs.Common.{◌≡◌, ◌≤◌, ◌+◌, map, drop}
use Rattle.orca_text.specs.Peak.{peak}
use Rattle.orca_text.specs.View.{term}
use Rattle.orca_text.proofs.operand.most_pending.Given as goal

abbrev pub invariant-terms : goal.invariant-terms
invariant-terms l =
    (peak l.here l.now l.most (map term (drop l.next-index l.terms)) ≡ peak l.here 0 0 (map term l.terms))
    × (l.now ≤ l.next-index + 1) × (l.most ≤ l.next-index + 3)
