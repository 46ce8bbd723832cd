use Rattle.std.proofs.Common.{refl}
use Rattle.loader_machine.specs.Commands as commands
use Rattle.loader_replies.proofs.OneCommand.{idle_line}
use Rattle.loader_replies.proofs.blocks.room.Goals as goal

pub returns : goal.returns
returns c store =
    let loader = c.args.loader.now in
    idle_line c.room_line.result store commands.Room loader loader (commands.RoomIs c.room.result) c.room_line.ensures refl refl refl c.room.ensures.meets
