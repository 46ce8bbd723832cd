use Rattle.std.proofs.Common.{refl}
use Rattle.loader_machine.specs.Commands as commands
use Rattle.loader_machine.specs.Refusals.{free_refusal}
use Rattle.sys_loader.specs.Replies.{done_reply}
use Rattle.loader_replies.proofs.OneCommand.{idle_line, line_text}
use Rattle.loader_replies.proofs.Refusals.{free_safe, done_safe}
use Rattle.loader_replies.proofs.blocks.free.Goals as goal

pub returns : goal.returns
returns c store =
    let old = c.args.loader.now in
    let slots = old.memory.slots in
    idle_line c.done_line.result store (commands.Free c.args.handle) old c.free.new.self (done_reply c.free.result) (line_text c.done_line.result (done_reply c.free.result) c.done_line.ensures)
    (done_safe c.free.result (free_refusal slots c.args.handle) (free_safe slots c.args.handle) c.free.ensures.refused) refl refl c.free.ensures.meets
