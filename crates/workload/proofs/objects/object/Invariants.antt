use Rattle.workload.proofs.Parts.{SegmentsLeft}
use Rattle.workload.proofs.objects.object.Given as goal

abbrev pub invariant-segments : goal.invariant-segments
invariant-segments l = SegmentsLeft l.n l.fn.draws.last l.i l.draws.last l.object.items
