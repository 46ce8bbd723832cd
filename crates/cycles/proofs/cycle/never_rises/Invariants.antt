use Rattle.std.proofs.Common.{◌⊎◌, ◌≤◌, drop, ℕ}
use Rattle.cycles.specs.Graphs.{IsIn}
use Rattle.cycles.specs.Ranks.{rank_at}
use Rattle.cycles.proofs.cycle.never_rises.Given as goal

-- the edges so far don't rise
abbrev pub invariant-edges : goal.invariant-edges
invariant-edges l = (to : ℕ) → IsIn l.row to → IsIn (drop l.to-index l.row) to ⊎ (rank_at l.ranks to ≤ l.rank)
