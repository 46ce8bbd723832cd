-- What one command does: how the loader answers it, its line, and how that is printed.
use Rattle.std.specs.Prelude.{◌≡◌, ◌≢◌, ℕ, List, [], ◌∷◌, Result, Ok, Err}
use Rattle.omf_io.specs.Counts.{saturating_sum, IfRevealedOr}
use Rattle.omf_io.specs.Files.{FileMap, StoreSeen}
use Rattle.omf_io.specs.Sinks.{SinkSeen, with_text, FailsToPrint}
use Rattle.omf_io.specs.Outside.{Outside}
use Rattle.loader_machine.specs.State.{Machine, empty_of}
use Rattle.loader_machine.specs.Commands as commands
use Rattle.loader_machine.specs.Commands.{Command, Banks, Reply}
use Rattle.omf_base.specs.declared.line.LineFault.{LineFault}
use Rattle.loader_machine.specs.declared.faults.LoaderFault.TheVariants as fault
use Rattle.loader_machine.specs.Needs.{IsReadFor}
use Rattle.loader_machine.specs.Transcript.{IsAnswered}
use Rattle.loader_machine.specs.Replies.{reply_line}
use Rattle.loader_agrees.specs.Agrees.{Loaded, Agrees}
use Rattle.loader_replies.specs.declared.command.ReplyStop.{ReplyStop}
use Rattle.loader_replies.specs.declared.command.ReplyStop.TheVariants.{CannotPrint, Memory}
use Rattle.loader_replies.specs.Replied.{unread, MayRead, IsUnanswered}

-- what became of a line: it was printed whole, the first bytes of it, or nothing
abbrev pub HasPrinted : Result (Unit {0}) ReplyStop → List ℕ → SinkSeen → SinkSeen → Type 0
HasPrinted (Ok done) text before now = now ≡ with_text text before
HasPrinted (Err CannotPrint) text before now = FailsToPrint text before now
HasPrinted (Err Memory) text before now = now ≡ before

-- the loader answers a command: over revealed files as the machine does, or by `cannot read` where the count is one more; and it reads what
-- the command needs, or 1 to 17 files where it is answered so
pub record IsAnswer (command : Command) (old : Loaded) (reply : Reply) (new : Loaded) (before now : StoreSeen) : Type 0 where
  pub reported : IfRevealedOr before.held
      ((reads : ℕ) × MayRead command reply reads × (now.faults ≡ saturating_sum (unread (reply ∷ [])) before.faults) × (now.asked ≡ saturating_sum reads before.asked))
      (λ files. (state : Machine) → Agrees files old state → (others : ℕ) × (reads : ℕ) × (next : Machine) × IsAnswered files state command reply others next
      × IsReadFor files state command others reads × Agrees files new next × (now.faults ≡ saturating_sum others before.faults) × (now.asked ≡ saturating_sum reads before.asked))
  pub store : now ≡ record before { faults = now.faults; asked = now.asked }
  pub unanswered : IsUnanswered command before now

-- the line is that of a reply other than out of memory
abbrev pub IsLineOf : Result (List ℕ) LineFault → Reply → Type 0
IsLineOf (Ok text) reply = (reply ≢ commands.Refused fault.Memory) × (text ≡ reply_line reply)
IsLineOf (Err short) reply = Unit {0}

-- the line of a command's reply, or none when out of memory
abbrev pub HasLine : Result (List ℕ) LineFault → Command → Loaded → Loaded → StoreSeen → StoreSeen → Type 0
HasLine (Ok text) command old new before now = (reply : Reply) × IsAnswer command old reply new before now × (text ≡ reply_line reply)
HasLine (Err short) command old new before now = IsUnanswered command before now

-- over any files the loader that the first command of a script asks for agrees with the empty state of the named banks
abbrev pub IsFirstLoader : Command → Loaded → Type 0
IsFirstLoader (Banks banks) loader = (held : FileMap) → Agrees held loader (empty_of banks)
IsFirstLoader _ loader = ⊥

-- how one command ends: its reply was printed, or not whole; or it was out of memory, and nothing was printed
abbrev pub HasAnswered : Result (Unit {0}) ReplyStop → Command → Loaded → Loaded → Outside → Type 0
HasAnswered (Ok done) command old new o =
    (reply : Reply) × IsAnswer command old reply new o.store o.new_store × (o.new_sink ≡ with_text (reply_line reply) o.sink)
HasAnswered (Err CannotPrint) command old new o =
    (reply : Reply) × IsAnswer command old reply new o.store o.new_store × FailsToPrint (reply_line reply) o.sink o.new_sink
HasAnswered (Err Memory) command old new o = IsUnanswered command o.store o.new_store × (o.new_sink ≡ o.sink)
