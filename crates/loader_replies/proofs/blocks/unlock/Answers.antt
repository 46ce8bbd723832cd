use Rattle.std.proofs.Common.{refl}
use Rattle.loader_machine.specs.Commands as commands
use Rattle.loader_machine.specs.Refusals.{change_refusal}
use Rattle.sys_loader.specs.Replies.{done_reply}
use Rattle.loader_replies.proofs.OneCommand.{idle_line, line_text}
use Rattle.loader_replies.proofs.Refusals.{change_safe, done_safe}
use Rattle.loader_replies.proofs.blocks.unlock.Goals as goal

pub returns : goal.returns
returns c store =
    let old = c.args.loader.now in
    let slots = old.memory.slots in
    idle_line c.done_line.result store (commands.Unlock c.args.handle) old c.unlock.new.self (done_reply c.unlock.result) (line_text c.done_line.result (done_reply c.unlock.result) c.done_line.ensures)
    (done_safe c.unlock.result (change_refusal slots c.args.handle) (change_safe slots c.args.handle) c.unlock.ensures.refused) refl refl c.unlock.ensures.meets
