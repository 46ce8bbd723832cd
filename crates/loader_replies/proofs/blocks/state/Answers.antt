use Rattle.std.proofs.Common.{refl}
use Rattle.loader_machine.specs.Commands as commands
use Rattle.loader_replies.proofs.OneCommand.{idle_line, refusal_text}
use Rattle.loader_replies.proofs.Refusals.{state_safe}
use Rattle.loader_replies.proofs.blocks.state.Goals as goal

pub returns-in-Ok : goal.returns-in-Ok
returns-in-Ok c store =
    let loader = c.args.loader.now in
    idle_line c.state_line.result store (commands.StateOf c.args.handle) loader loader (commands.BlockIs c.in-Ok.state) c.state_line.ensures refl refl refl c.in-Ok.ensures.meets

pub returns-in-Err : goal.returns-in-Err
returns-in-Err c store =
    let loader = c.args.loader.now in
    let safe = state_safe loader.memory.slots c.args.handle c.in-Err.fault c.in-Err.ensures.refused in
    idle_line c.refusal_line.result store (commands.StateOf c.args.handle) loader loader (commands.Refused c.in-Err.fault)
    (refusal_text c.refusal_line.result c.in-Err.fault c.refusal_line.ensures) safe refl refl c.in-Err.ensures.meets
