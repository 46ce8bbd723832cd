use Rattle.std.proofs.Common.{refl}
use Rattle.loader_machine.specs.Commands as commands
use Rattle.loader_agrees.specs.Agrees.{seen_by}
use Rattle.loader_replies.proofs.OneCommand.{idle_line, refusal_text}
use Rattle.loader_replies.proofs.Refusals.{info_safe}
use Rattle.loader_replies.proofs.calls.info.Goals as goal

pub returns-in-Ok : goal.returns-in-Ok
returns-in-Ok c store =
    let loader = c.args.loader.now in
    let info = c.in-Ok.info in
    idle_line c.info_line.result store (commands.Info c.args.user c.args.segment) loader loader (commands.SegmentIs info.presence info.length info.kind) c.info_line.ensures refl refl refl c.in-Ok.ensures.meets

pub returns-in-Err : goal.returns-in-Err
returns-in-Err c store =
    let loader = c.args.loader.now in
    let safe = info_safe (seen_by loader c.args.user) c.args.segment c.in-Err.fault c.in-Err.ensures.refused in
    idle_line c.refusal_line.result store (commands.Info c.args.user c.args.segment) loader loader (commands.Refused c.in-Err.fault)
    (refusal_text c.refusal_line.result c.in-Err.fault c.refusal_line.ensures) safe refl refl c.in-Err.ensures.meets
