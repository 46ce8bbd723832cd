-- The machine's replies that go with the answers of a loader's calls.
use Rattle.std.specs.Prelude.{◌≡◌, ◌⊎◌, ℕ, Option, Some, None, IsSome, Result, Ok, Err}
use Rattle.iigs_meaning.specs.declared.wants.Want.{Want}
use Rattle.iigs_meaning.specs.declared.wants.BlockState.{BlockState}
use Rattle.iigs_meaning.specs.Slots.{new_handle}
use Rattle.iigs_meaning.specs.Puts.{LacksRoom}
use Rattle.loader_machine.specs.Rule.{RoomRule}
use Rattle.iigs_meaning.specs.Memory.{Memory}
use Rattle.loader_machine.specs.declared.faults.LoaderFault.{LoaderFault}
use Rattle.loader_machine.specs.declared.faults.LoaderFault.TheVariants.{NoHandle, NoRoom}
use Rattle.loader_machine.specs.Commands.{Reply, Okay, SegmentIs, BlockIs, Lies, Nothing, Refused}
use Rattle.loader_machine.specs.Commands as commands
use Rattle.sys_loader.specs.declared.answers.Started.{Started}
use Rattle.sys_loader.specs.declared.answers.Info.{Info}
use Rattle.sys_loader.specs.declared.answers.Entered.{Entered}

abbrev pub load_reply : Result Started LoaderFault → Reply
load_reply (Ok started) = commands.Started started.user started.entry
load_reply (Err fault) = Refused fault

-- of a segment that was made active, where the reply of one at an address is this
abbrev pub activation_reply : (ℕ → Reply) → Result ℕ LoaderFault → Reply
activation_reply of (Ok address) = of address
activation_reply of (Err fault) = Refused fault

-- of a call that answers nothing
abbrev pub done_reply : Result (Unit {0}) LoaderFault → Reply
done_reply (Ok done) = Okay
done_reply (Err fault) = Refused fault

abbrev pub info_reply : Result Info LoaderFault → Reply
info_reply (Ok info) = SegmentIs info.presence info.length info.kind
info_reply (Err fault) = Refused fault

abbrev pub state_reply : Result BlockState LoaderFault → Reply
state_reply (Ok state) = BlockIs state
state_reply (Err fault) = Refused fault

abbrev pub where_reply : Option Entered → Reply
where_reply (Some entered) = Lies entered.user entered.segment entered.offset
where_reply None = Nothing

-- why no block is placed for the script: no slot is left, and else there is no room
abbrev pub IsAllocRefusal : Memory → Want → LoaderFault → Type 0
IsAllocRefusal memory want fault = ((fault ≡ NoHandle) × (new_handle memory.slots ≡ None))
    ⊎ ((fault ≡ NoRoom 0) × IsSome (new_handle memory.slots) × LacksRoom RoomRule memory.banks memory.slots want)
