use Rattle.std.proofs.Common.{subst}
use Rattle.std.specs.Prelude.{IfOk}
use Rattle.loader_machine.specs.Commands.{Command}
use Rattle.workload.specs.declared.rounds.RoundOutcome.{RoundOutcome}
use Rattle.workload.specs.Answering.{HasDone}
use Rattle.workload.proofs.Steps.{early}
use Rattle.workload.proofs.rounds.round.Goals as goal

pub returns-then-draw-le1-clause-done : goal.returns-then-draw-le1-clause-done
returns-then-draw-le1-clause-done c =
    subst (λ (command : Command). IfOk c.jsl.result (λ (outcome : RoundOutcome). HasDone c.args.files.now.files command outcome c.args.loader.now c.jsl.new.loader))
    (early c.args.n c.args.draw c.if-draw-le1.true) c.jsl.ensures.done
