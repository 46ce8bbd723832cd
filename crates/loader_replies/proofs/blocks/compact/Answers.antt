use Rattle.std.proofs.Common.{refl}
use Rattle.loader_machine.specs.Commands as commands
use Rattle.loader_replies.proofs.OneCommand.{idle_line}
use Rattle.loader_replies.proofs.blocks.compact.Goals as goal

pub returns : goal.returns
returns c store =
    idle_line c.moved_line.result store commands.Compact c.args.loader.now c.compact.new.self (commands.Moved c.compact.result) c.moved_line.ensures refl refl refl c.compact.ensures.meets
