use Rattle.workload.proofs.Steps.{IsUnderWay}
use Rattle.workload.proofs.rounds.rounds.Given as goal

abbrev pub invariant-rounds : goal.invariant-rounds
invariant-rounds l = IsUnderWay l.fn.files.files l.files.files l.n l.fn.draws.last l.counter l.draws.last l.counts l.loader
