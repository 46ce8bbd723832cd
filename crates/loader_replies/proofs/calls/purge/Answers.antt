use Rattle.std.proofs.Common.{refl}
use Rattle.loader_machine.specs.Commands as commands
use Rattle.loader_agrees.specs.Agrees.{seen_by}
use Rattle.loader_replies.proofs.OneCommand.{idle_line, refusal_text}
use Rattle.loader_replies.proofs.Refusals.{purge_safe}
use Rattle.loader_replies.proofs.calls.purge.Goals as goal

pub returns-in-Ok : goal.returns-in-Ok
returns-in-Ok c store =
    idle_line c.counted_line.result store (commands.Purge c.args.user) c.args.loader.now c.purge.new.self (commands.Counted c.in-Ok.count) c.counted_line.ensures refl refl refl c.in-Ok.ensures.meets

pub returns-in-Err : goal.returns-in-Err
returns-in-Err c store =
    let old = c.args.loader.now in
    let safe = purge_safe (seen_by old c.args.user) c.args.user c.in-Err.fault c.in-Err.ensures.did.0 in
    idle_line c.refusal_line.result store (commands.Purge c.args.user) old c.purge.new.self (commands.Refused c.in-Err.fault)
    (refusal_text c.refusal_line.result c.in-Err.fault c.refusal_line.ensures) safe refl refl c.in-Err.ensures.meets
