use Rattle.std.proofs.Common.{drop}
use Rattle.cycles.specs.Ranks.{Visiting}
use Rattle.cycles.proofs.cycle.visit.Given as goal

abbrev pub invariant-edges : goal.invariant-edges
invariant-edges l = Visiting l.row l.vertex (drop l.to-index l.row) l.initial.seen.items l.seen.items l.initial.queue.items l.queue.items
