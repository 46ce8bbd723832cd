use Rattle.std.proofs.Common.{refl}
use Rattle.loader_machine.specs.Commands as commands
use Rattle.loader_machine.specs.Refusals.{unload_refusal}
use Rattle.loader_agrees.specs.Agrees.{seen_by}
use Rattle.sys_loader.specs.Replies.{done_reply}
use Rattle.loader_replies.proofs.OneCommand.{idle_line, line_text}
use Rattle.loader_replies.proofs.Refusals.{unload_safe, unload_why, done_safe}
use Rattle.loader_replies.proofs.calls.unload_segment.Goals as goal

pub returns : goal.returns
returns c store =
    let old = c.args.loader.now in
    let result = c.unload_segment.result in
    idle_line c.done_line.result store (commands.UnloadSegment c.args.user c.args.segment) old c.unload_segment.new.self (done_reply result) (line_text c.done_line.result (done_reply result) c.done_line.ensures)
    (done_safe result (unload_refusal old.memory.slots (seen_by old c.args.user) c.args.segment) (unload_safe old.memory.slots (seen_by old c.args.user) c.args.segment) (unload_why old c.unload_segment.new.self c.args.user c.args.segment result c.unload_segment.ensures.did)) refl refl c.unload_segment.ensures.meets
