use Rattle.std.proofs.Common.{refl}
use Rattle.loader_machine.specs.Commands as commands
use Rattle.workload.specs.declared.rounds.RoundOutcome.TheVariants.{Done}
use Rattle.workload.specs.Rounds.{program}
use Rattle.workload.proofs.Steps.{by_reads, reading_done, reading_refused}
use Rattle.workload.proofs.rounds.load.Goals as goal

pub returns-in-Ok-clause-done : goal.returns-in-Ok-clause-done
returns-in-Ok-clause-done c =
    let reply = commands.Started c.in-Ok.field-0.user c.in-Ok.field-0.entry in
    reading_done (commands.Load program) c.args.loader.now c.load.new.self c.args.files.now c.load.new.files reply Done refl
    (by_reads (commands.Load program) c.args.loader.now c.load.new.self c.args.files.now c.load.new.files reply (λ e. cc) c.in-Ok.ensures.needed)

pub returns-in-Err-clause-done : goal.returns-in-Err-clause-done
returns-in-Err-clause-done c =
    reading_refused (commands.Load program) c.args.loader.now c.load.new.self c.args.files.now c.load.new.files
    c.in-Err.fault _ c.refused_round.result c.refused_round.ensures.other c.refused_round.ensures.refused
    (λ other. by_reads (commands.Load program) c.args.loader.now c.load.new.self c.args.files.now c.load.new.files (commands.Refused c.in-Err.fault) other c.in-Err.ensures.needed)
