use Rattle.workload_meaning.specs.laws.LinkedProofs.{workload_is_linked}
use Rattle.workload_meaning.proofs.laws.workloads_are_linked.Goals as goal

pub returns : goal.returns
returns c = workload_is_linked
