use Rattle.omf_io.specs.Files.{FileMap}
use Rattle.loader_machine.specs.State.{Machine}
use Rattle.loader_agrees.specs.Agrees.{Agrees}
use Rattle.workload.proofs.Sums.{SumLeft}
use Rattle.workload.proofs.summing.active_sum.Given as goal

abbrev pub invariant-segments : goal.invariant-segments
invariant-segments l = (held : FileMap) (state : Machine) → Agrees held l.loader state → SumLeft held state l.count l.segment l.sum
