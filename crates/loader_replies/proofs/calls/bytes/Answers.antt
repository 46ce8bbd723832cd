use Rattle.std.proofs.Common.{refl}
use Rattle.loader_machine.specs.Commands as commands
use Rattle.loader_agrees.specs.Agrees.{seen_by}
use Rattle.loader_replies.proofs.OneCommand.{idle_line, refusal_text}
use Rattle.loader_replies.proofs.Refusals.{bytes_safe}
use Rattle.loader_replies.proofs.calls.bytes.Goals as goal

pub returns-in-Ok : goal.returns-in-Ok
returns-in-Ok c store =
    let loader = c.args.loader.now in
    idle_line c.shown_line.result store (commands.Bytes c.args.user c.args.segment c.args.at c.args.count) loader loader (commands.Shown c.in-Ok.bytes.now) c.shown_line.ensures refl refl refl c.in-Ok.ensures.shows

pub returns-in-Err : goal.returns-in-Err
returns-in-Err c store =
    let loader = c.args.loader.now in
    let safe = bytes_safe loader.memory.slots (seen_by loader c.args.user) c.args.segment c.args.at c.args.count c.in-Err.fault c.in-Err.ensures.refused in
    idle_line c.refusal_line.result store (commands.Bytes c.args.user c.args.segment c.args.at c.args.count) loader loader (commands.Refused c.in-Err.fault)
    (refusal_text c.refusal_line.result c.in-Err.fault c.refusal_line.ensures) safe refl refl c.in-Err.ensures.refuses
