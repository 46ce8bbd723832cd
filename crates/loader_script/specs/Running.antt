-- A run of a script on its way: what was done so far. No public clause cites this module.
use Rattle.std.specs.Prelude.{◌≡◌, ℕ, List, Option, Result, Ok, Err}
use Rattle.omf_io.specs.Sinks.{with_text}
use Rattle.omf_io.specs.Outside.{Outside}
use Rattle.loader_machine.specs.Commands.{Command, Reply}
use Rattle.loader_machine.specs.Script.{HasScriptFault}
use Rattle.loader_machine.specs.Replies.{replies_text}
use Rattle.loader_agrees.specs.Agrees.{Loaded, Agrees}
use Rattle.loader_script.specs.declared.run.ScriptEnd.{ScriptEnd}
use Rattle.loader_script.specs.declared.run.ScriptEnd.TheVariants as end
use Rattle.loader_replies.specs.declared.command.ReplyStop.{ReplyStop}
use Rattle.loader_replies.specs.declared.command.ReplyStop.TheVariants.{CannotPrint, Memory}
use Rattle.loader_replies.specs.Replied.{AreReplies}
use Rattle.loader_script.specs.Run.{HasRunAll, StopsPrinting, StopsShort}

-- the commands were answered, their replies printed, and the loader agrees with the state to which they lead
pub record IsUnderWay (commands : List Command) (loader : Loaded) (o : Outside) : Type 0 where
  pub replies : List Reply
  pub answered : AreReplies (λ files last. Agrees files loader last) commands replies o.store o.new_store
  pub printed : o.new_sink ≡ with_text (replies_text replies) o.sink

-- how all commands end
abbrev pub HasFinished : Result (Option Loaded) ReplyStop → List Command → Outside → Type 0
HasFinished (Ok loader) commands o = HasRunAll loader commands o
HasFinished (Err CannotPrint) commands o = StopsPrinting commands o
HasFinished (Err Memory) commands o = StopsShort commands o

-- how a script ends that wasn't read
abbrev pub IsNotRun : ScriptEnd → List ℕ → Type 0
IsNotRun (end.Refused fault) text = HasScriptFault text fault
IsNotRun end.Memory text = Unit {0}
IsNotRun _ text = ⊥
