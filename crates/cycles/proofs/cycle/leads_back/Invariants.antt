use Rattle.std.proofs.Common.{◌+◌, ◌-◌, length}
use Rattle.cycles.specs.Ranks.{Searching, unseen}
use Rattle.cycles.proofs.cycle.leads_back.Given as goal

abbrev pub invariant-queue : goal.invariant-queue
invariant-queue l = Searching l.edges l.vertex l.seen.items l.queue.items l.next

abbrev pub decreases-queue : goal.decreases-queue
decreases-queue l = unseen l.seen.items + length l.queue.items - l.next
