-- Every command of a script has a reply that isn't Memory, in states with which a loader agrees.
use Rattle.std.specs.Prelude.{◌≡◌, ◌≢◌, ◌⊎◌, ◌<◌, ℕ, Bool, List, Some}
use Rattle.std.specs.FinMap.{get}
use Rattle.omf_format.specs.Number.{IsBytes}
use Rattle.omf_io.specs.Files.{FileMap}
use Rattle.iigs_meaning.specs.declared.wants.Want.{Want}
use Rattle.iigs_meaning.specs.Fits.{Slots}
use Rattle.iigs_meaning.specs.Puts.{LacksRoom}
use Rattle.iigs_meaning.specs.Blocks.{AreApart}
use Rattle.iigs_meaning.specs.Slide.{Slides, AreSettled}
use Rattle.loader_machine.specs.declared.faults.LoaderFault.TheVariants.{Memory}
use Rattle.loader_machine.specs.Rule.{RoomRule}
use Rattle.loader_machine.specs.State.{Machine}
use Rattle.loader_machine.specs.Commands.{Command, Reply, Refused}
use Rattle.loader_machine.specs.Script.{IsCommand}
use Rattle.loader_machine.specs.Steps.{Steps}
use Rattle.loader_agrees.specs.Agrees.{Loaded, Agrees}

-- among blocks that lie apart, each placed where its want fits, a want of a byte at least has room at an address, or has none
abbrev pub WantsAreAnswered : Type 0
WantsAreAnswered = (banks : List ℕ) (slots : Slots) (want : Want) → AreApart banks slots → AreSettled banks slots → 0 < want.size
    → ((address : ℕ) × (room : Slots) × RoomRule banks slots want address room) ⊎ LacksRoom RoomRule banks slots want

-- and a slide of such blocks has an outcome
abbrev pub SlidesAreAnswered : Type 0
SlidesAreAnswered = (banks : List ℕ) (slots : Slots) → AreApart banks slots → AreSettled banks slots → (new : Slots) × Slides banks slots new

-- the files that are held are bytes
abbrev pub HoldBytes : FileMap → Type 0
HoldBytes held = (path file : List ℕ) → get held path ≡ Some file → IsBytes file

-- Over held files, in a state with which a loader agrees, whose blocks lie apart, each where its want fits, each command of a script has a reply,
-- which isn't that memory is missing, and leads to a state.
abbrev pub CommandsAreAnswered : Type 0
CommandsAreAnswered = (held : FileMap) (loader : Loaded) (state : Machine) → HoldBytes held → Agrees held loader state → AreApart state.banks state.slots
    → AreSettled state.banks state.slots → (is_first : Bool) (command : Command) → IsCommand is_first command
    → (reply : Reply) × (next : Machine) × Steps RoomRule held state command reply next × (reply ≢ Refused Memory)
