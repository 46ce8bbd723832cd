use Rattle.std.proofs.Common.{refl}
use Rattle.loader_machine.specs.Commands as commands
use Rattle.loader_machine.specs.Refusals.{poke_refusal}
use Rattle.loader_agrees.specs.Agrees.{seen_by}
use Rattle.sys_loader.specs.Replies.{done_reply}
use Rattle.loader_replies.proofs.OneCommand.{idle_line, line_text}
use Rattle.loader_replies.proofs.Refusals.{poke_safe, poke_why, done_safe}
use Rattle.loader_replies.proofs.calls.poke.Goals as goal

pub returns : goal.returns
returns c store =
    let old = c.args.loader.now in
    let result = c.poke.result in
    idle_line c.done_line.result store (commands.Poke c.args.user c.args.segment c.args.at c.args.byte) old c.poke.new.self (done_reply result) (line_text c.done_line.result (done_reply result) c.done_line.ensures)
    (done_safe result (poke_refusal old.memory.slots (seen_by old c.args.user) c.args.segment c.args.at) (poke_safe old.memory.slots (seen_by old c.args.user) c.args.segment c.args.at) (poke_why old c.poke.new.self c.args.user c.args.segment c.args.at c.args.byte result c.poke.ensures.did)) refl refl c.poke.ensures.meets
