use Rattle.std.proofs.Common.{length, map, ◌≤◌}
use Rattle.orca_meaning.specs.laws.Machine.{state}
use Rattle.orca_text.proofs.Whole.{UnderWay}
use Rattle.orca_text.specs.View.{term}
use Rattle.orca_text.proofs.formula.formula_at.Given as goal

abbrev pub invariant-tokens : goal.invariant-tokens
invariant-tokens l = (length l.left ≤ length l.text.bytes.now) × UnderWay l.operands l.text.bytes.now l.left (state (map term l.out.items) l.waiting l.expects) l.large

abbrev pub decreases-tokens : goal.decreases-tokens
decreases-tokens l = length l.left
