use Rattle.std.proofs.Common.{refl}
use Rattle.loader_machine.specs.Commands as commands
use Rattle.sys_loader.specs.Replies.{where_reply}
use Rattle.loader_replies.proofs.OneCommand.{idle_line}
use Rattle.loader_replies.proofs.Refusals.{where_safe}
use Rattle.loader_replies.proofs.calls.where_.Goals as goal

pub returns : goal.returns
returns c store =
    let loader = c.args.loader.now in
    idle_line c.where_line.result store (commands.Where c.args.address) loader loader (where_reply c.locate.result) c.where_line.ensures (where_safe c.locate.result) refl refl c.locate.ensures.meets
