-- How the run of a script ends, what it printed, and what it did to the store.
use Rattle.std.specs.Prelude.{◌≡◌, ◌⊎◌, ◌↔◌, ◌≢◌, List, [], ◌∷◌, ◌++◌, ℕ, Option, Some, None, IsSome}
use Rattle.omf_io.specs.Files.{StoreSeen}
use Rattle.omf_io.specs.Sinks.{with_text, FailsToPrint}
use Rattle.omf_io.specs.Outside.{Outside}
use Rattle.loader_machine.specs.Commands.{Command, Reply}
use Rattle.loader_machine.specs.Replies.{reply_line, replies_text}
use Rattle.loader_machine.specs.Script.{IsScript, HasScriptFault}
use Rattle.loader_agrees.specs.Agrees.{Loaded, Agrees}
use Rattle.loader_replies.specs.Replied.{AreReplies, IsUnanswered}
use Rattle.loader_script.specs.declared.run.ScriptEnd.{ScriptEnd}
use Rattle.loader_script.specs.declared.run.ScriptEnd.TheVariants.{Done, Refused, CannotPrint, Memory}

-- Every command was answered, and the replies were printed, a line each. The loader that is handed out agrees with the state to
-- which they lead; there is one exactly where there is a command.
pub record HasRunAll (loader : Option Loaded) (commands : List Command) (o : Outside) : Type 0 where
  pub replies : List Reply
  pub answered : AreReplies (λ files last. elim loader [ None ↦ Unit {0} | Some one ↦ Agrees files one last ]) commands replies o.store o.new_store
  pub handed : IsSome loader ↔ (commands ≢ [])
  pub printed : o.new_sink ≡ with_text (replies_text replies) o.sink

-- Some first commands were answered, and their replies printed; then the next one was, and the sink failed at its reply, of which a prefix
-- was printed. No command was run after it.
pub record StopsPrinting (commands : List Command) (o : Outside) : Type 0 where
  pub front : List Command
  pub next : Command
  pub rest : List Command
  pub commands_are : commands ≡ front ++ next ∷ rest
  pub replies : List Reply
  pub reply : Reply
  pub answered : AreReplies (λ files last. Unit {0}) (front ++ next ∷ []) (replies ++ reply ∷ []) o.store o.new_store
  pub printed : FailsToPrint (reply_line reply) (with_text (replies_text replies) o.sink) o.new_sink

-- Some first commands were answered, and their replies printed; then the next one was out of memory, and has no reply.
pub record StopsShort (commands : List Command) (o : Outside) : Type 0 where
  pub front : List Command
  pub next : Command
  pub rest : List Command
  pub commands_are : commands ≡ front ++ next ∷ rest
  pub replies : List Reply
  pub between : StoreSeen
  pub answered : AreReplies (λ files last. Unit {0}) front replies o.store between
  pub unanswered : IsUnanswered next between o.new_store
  pub printed : o.new_sink ≡ with_text (replies_text replies) o.sink

-- The run of a script with this text, by its end. A script at fault isn't run, and nothing is done; and when out of memory none may be.
abbrev pub HasRunScript : ScriptEnd → List ℕ → Outside → Type 0
HasRunScript (Done loader) text o = (commands : List Command) × IsScript text commands × HasRunAll loader commands o
HasRunScript (Refused fault) text o = HasScriptFault text fault × ((o.new_store ≡ o.store) × (o.new_sink ≡ o.sink))
HasRunScript CannotPrint text o = (commands : List Command) × IsScript text commands × StopsPrinting commands o
HasRunScript Memory text o =
    ((commands : List Command) × IsScript text commands × StopsShort commands o) ⊎ ((o.new_store ≡ o.store) × (o.new_sink ≡ o.sink))
