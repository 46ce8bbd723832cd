use Rattle.std.proofs.Common.{ℕ, drop}
use Rattle.cycles.specs.Graphs.{IsIn}
use Rattle.link_values.specs.Equates.{IsOpen}
use Rattle.link_values.proofs.equates.first_open.Given as goal

-- none so far is open
abbrev pub invariant-row : goal.invariant-row
invariant-row l = record {
  among : (k : ℕ) → IsIn (drop l.number-index l.row) k → IsIn l.row k;
  shut : (k : ℕ) → IsIn l.row k → IsOpen l.slots k → IsIn (drop l.number-index l.row) k;
}
