use Rattle.std.proofs.Common.{◌*◌, ◌-◌, refl}
use Rattle.loader_machine.specs.State.{first_id}
use Rattle.loader_machine.specs.Commands as commands
use Rattle.workload.specs.declared.rounds.RoundOutcome.TheVariants.{Entered}
use Rattle.workload.proofs.Steps.{by_meets, reading_done, reading_refused}
use Rattle.workload.proofs.rounds.jsl.Goals as goal

pub returns-in-Ok-clause-done : goal.returns-in-Ok-clause-done
returns-in-Ok-clause-done c =
    let to = c.in-Ok.field-0 in
    let command = commands.Jsl first_id 1 (4 * (c.args.i - 1)) in
    let reply = commands.Entered to.user to.segment to.offset to.address in
    reading_done command c.args.loader.now c.jsl.new.self c.args.files.now c.jsl.new.files reply Entered refl
    (by_meets command c.args.loader.now c.jsl.new.self c.args.files.now c.jsl.new.files reply (λ e. cc) c.in-Ok.ensures.meets c.in-Ok.ensures.needed)

pub returns-in-Err-clause-done : goal.returns-in-Err-clause-done
returns-in-Err-clause-done c =
    let command = commands.Jsl first_id 1 (4 * (c.args.i - 1)) in
    reading_refused command c.args.loader.now c.jsl.new.self c.args.files.now c.jsl.new.files
    c.in-Err.fault _ c.refused_round.result c.refused_round.ensures.other c.refused_round.ensures.refused
    (λ other. by_meets command c.args.loader.now c.jsl.new.self c.args.files.now c.jsl.new.files (commands.Refused c.in-Err.fault) other c.in-Err.ensures.meets c.in-Err.ensures.needed)
