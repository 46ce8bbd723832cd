-- Laws of the machine in states with which a loader agrees.
use Rattle.std.specs.Prelude.{◌≡◌}
use Rattle.omf_io.specs.Files.{FileMap}
use Rattle.loader_machine.specs.Rule.{RoomRule}
use Rattle.iigs_meaning.specs.Blocks.{AreApart}
use Rattle.loader_machine.specs.State.{Machine}
use Rattle.loader_machine.specs.Commands.{Command, Reply}
use Rattle.loader_machine.specs.Steps.{Steps}
use Rattle.loader_agrees.specs.Agrees.{Loaded, Agrees, IsSound}

-- over held files, in a state with which a loader agrees, a command has one reply and leads to one next state, at most
abbrev pub StepsOnce : Type 0
StepsOnce = (held : FileMap) (loader : Loaded) (state : Machine) → Agrees held loader state → IsSound loader.memory loader.users
    → AreApart loader.memory.banks loader.memory.slots → (command : Command) (one other : Reply) (next last : Machine)
    → Steps RoomRule held state command one next → Steps RoomRule held state command other last → (one ≡ other) × (next ≡ last)
