use Rattle.workload.proofs.Steps.{goes_on}
use Rattle.workload.proofs.rounds.rounds.Goals as goal

pub rounds-preserved : goal.rounds-preserved
rounds-preserved c =
    goes_on c.args.files.now.files c.rounds.files.files c.round.new.files.files c.args.n c.args.draws.now.last c.rounds.counter c.rounds.draws.last c.draw.result c.draw.new.self.last
    c.rounds.counts c.count.new.self c.rounds.loader c.round.new.loader c.in_ok-outcome.outcome c.rounds.invariant c.draw.ensures.drawn c.draw.ensures.next c.round.ensures.held
    c.in_ok-outcome.ensures.done c.count.ensures.counted c.count.ensures.more
