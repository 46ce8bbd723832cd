use Rattle.std.proofs.Common.{◌+◌, refl}
use Rattle.loader_machine.specs.State.{first_id}
use Rattle.loader_machine.specs.Commands as commands
use Rattle.workload.specs.declared.rounds.RoundOutcome.TheVariants.{Done}
use Rattle.workload.proofs.Steps.{none_read, quiet_done, quiet_refused}
use Rattle.workload.proofs.rounds.unload.Goals as goal

pub returns-in-Ok : goal.returns-in-Ok
returns-in-Ok c =
    quiet_done (commands.UnloadSegment first_id (c.args.i + 1)) commands.Okay Done c.args.loader.now c.unload_segment.new.self (λ held state. none_read held state (commands.UnloadSegment first_id (c.args.i + 1)) refl (refl, refl)) refl c.in-Ok.ensures.meets

pub returns-in-Err : goal.returns-in-Err
returns-in-Err c =
    quiet_refused (commands.UnloadSegment first_id (c.args.i + 1)) c.in-Err.fault _ c.refused_round.result c.args.loader.now c.unload_segment.new.self (λ held state. none_read held state (commands.UnloadSegment first_id (c.args.i + 1)) refl (refl, refl))
    c.refused_round.ensures.refused c.in-Err.ensures.meets
