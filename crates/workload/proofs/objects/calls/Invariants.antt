use Rattle.workload.proofs.Parts.{CallsLeft}
use Rattle.workload.proofs.objects.calls.Given as goal

abbrev pub invariant-calls : goal.invariant-calls
invariant-calls l = CallsLeft l.n l.i l.body.items
