-- What each call did to the loader: it is the loader's own call. Over files with which the loader agrees, it is the machine's step.
use Rattle.std.specs.Prelude.{ℕ, Bool, List, Some, Result}
use Rattle.omf_io.specs.Files.{FileMap}
use Rattle.loader_machine.specs.Rule.{RoomRule}
use Rattle.loader_machine.specs.State.{Machine}
use Rattle.loader_machine.specs.Commands as commands
use Rattle.loader_machine.specs.Commands.{Command, Reply}
use Rattle.loader_machine.specs.declared.faults.LoaderFault.{LoaderFault}
use Rattle.loader_agrees.specs.Agrees.{Loaded, Agrees, Met, Meets}
use Rattle.sys_loader.specs.declared.answers.Started.{Started}
use Rattle.sys_loader.specs.declared.answers.Entered.{Entered}
use Rattle.sys_loader.specs.Replies.{done_reply, load_reply, activation_reply}
use Rattle.sys_loader.specs.Lives.{purge_reply, DidPurge, DidPoke, DidUnload, DidShutDown}
use Rattle.sys_loader.specs.Activating.{DidActivate}
use Rattle.sys_loader.specs.Following.{jsl_reply, DidJsl}
use Rattle.sys_loader.specs.Restarting.{DidRestart}
use Rattle.omf_c_loader.specs.declared.store.OmfStored.{OmfStored}
use Rattle.omf_c_loader.specs.Store.{held_of}

-- the machine's step, over any files with which the loader agrees
abbrev pub StepsOver : Loaded → Command → Reply → Loaded → Type 0
StepsOver old command reply new = (held : FileMap) (state : Machine) → Agrees held old state → Met RoomRule held state command reply new

-- the machine's step over the files that are handed in, or want of memory
abbrev pub StepsOn : FileMap → Loaded → Command → Reply → Loaded → Type 0
StepsOn held old command reply new = (state : Machine) → Agrees held old state → Meets RoomRule held state command reply new 0 0

-- a byte is poked
abbrev pub Pokes : (user segment at byte : ℕ) → Loaded → Result (Unit {0}) LoaderFault → Loaded → Type 0
Pokes user segment at byte old done new = StepsOver old (commands.Poke user segment at byte) (done_reply done) new × DidPoke old user segment at byte done new

-- a dynamic segment is let go
abbrev pub Unloads : (user segment : ℕ) → Loaded → Result (Unit {0}) LoaderFault → Loaded → Type 0
Unloads user segment old done new = StepsOver old (commands.UnloadSegment user segment) (done_reply done) new × DidUnload old user segment done new

-- a program is shut down, and kept or dropped
abbrev pub ShutsDown : ℕ → Bool → Loaded → Result (Unit {0}) LoaderFault → Loaded → Type 0
ShutsDown user keep old done new = StepsOver old (commands.ShutDown user keep) (done_reply done) new × DidShutDown old user keep done new

-- a user's purgeable blocks are emptied, and counted
abbrev pub Purges : ℕ → Loaded → Result ℕ LoaderFault → Loaded → Type 0
Purges user old counted new = StepsOver old (commands.Purge user) (purge_reply counted) new × DidPurge old user counted new

-- over the files that are handed in: a dynamic segment is made active, a JSL is followed, and a dormant program is restarted
abbrev pub LoadsSegment : List OmfStored → (user segment : ℕ) → Loaded → Result ℕ LoaderFault → Loaded → Type 0
LoadsSegment files user segment old made new =
    StepsOn (held_of files) old (commands.LoadSegment user segment) (activation_reply (commands.MadeActive segment) made) new
    × DidActivate (Some (held_of files)) old user segment made new 0 0

abbrev pub Follows : List OmfStored → (user segment at : ℕ) → Loaded → Result Entered LoaderFault → Loaded → Type 0
Follows files user segment at old entered new =
    StepsOn (held_of files) old (commands.Jsl user segment at) (jsl_reply entered) new × DidJsl (Some (held_of files)) old user segment at entered new 0 0

abbrev pub Restarts : List OmfStored → (user : ℕ) → Loaded → Result Started LoaderFault → Loaded → Type 0
Restarts files user old started new =
    StepsOn (held_of files) old (commands.Restart user) (load_reply started) new × DidRestart (Some (held_of files)) old user started new 0 0
