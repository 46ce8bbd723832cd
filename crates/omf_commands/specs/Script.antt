-- `run`: a script of loader commands is read and run. A reply is printed, a line, for each command.
use Rattle.std.specs.Prelude.{◌≡◌, ◌⊎◌, ℕ, List, Option, None, Some}
use Rattle.omf_io.specs.Files.{FileMap}
use Rattle.omf_io.specs.Outside.{Outside, IsCalm}
use Rattle.loader_machine.specs.declared.script.ScriptFault.{ScriptFault}
use Rattle.loader_machine.specs.Commands.{Command}
use Rattle.loader_machine.specs.Script.{IsScript, HasScriptFault}
use Rattle.loader_agrees.specs.Agrees.{Loaded}
use Rattle.loader_script.specs.Run.{HasRunScript}
use Rattle.loader_script.specs.declared.run.ScriptEnd.{ScriptEnd}
use Rattle.loader_script.specs.declared.run.ScriptEnd.TheVariants as script
use Rattle.omf_making.specs.Lines.{cannot_read_line, script_line}
use Rattle.omf_making.specs.Made.{first_of}
use Rattle.omf_making.specs.Making.{AreRead, AreHeld, StopsReading, IsShort, all_read}
use Rattle.omf_making.specs.Printing.{Ends}
use Rattle.omf_making.specs.ScriptCauses.{script_cause_name}
use Rattle.omf_making.specs.declared.status.Status.{Status}
use Rattle.omf_making.specs.declared.status.Status.TheVariants.{Done, Refused, CannotRead, CannotPrint, Memory}

-- the script was read, and its run ended so
pub record HasBegun (inputs : List (List ℕ)) (came : ScriptEnd) (o : Outside) : Type 0 where
  pub files : List (List ℕ)
  pub read : AreRead o.store.held inputs files
  pub run : HasRunScript came (first_of files) (record o { store = all_read inputs o.store })

-- the script was read, and has a bad line; nothing else was done
pub record IsBadScript (inputs : List (List ℕ)) (fault : ScriptFault) (o : Outside) : Type 0 where
  pub files : List (List ℕ)
  pub read : AreRead o.store.held inputs files
  pub first : HasScriptFault (first_of files) fault
  pub store : o.new_store ≡ all_read inputs o.store

-- what a run says that didn't begin
abbrev pub ScriptSays : Status → List (List ℕ) → Outside → List ℕ → Type 0
ScriptSays Refused inputs o text = (fault : ScriptFault) × IsBadScript inputs fault o × (text ≡ script_line (script_cause_name fault.cause) fault.line)
ScriptSays CannotRead inputs o text = (path : List ℕ) × StopsReading inputs path o.store o.new_store × (text ≡ cannot_read_line path)
ScriptSays _ inputs o text = ⊥

-- what a run did that began; the loader is handed out where the script was run to its end
abbrev pub Ran : Status → List (List ℕ) → Option Loaded → Outside → Type 0
Ran Done inputs last o = HasBegun inputs (script.Done last) o
Ran CannotPrint inputs last o = HasBegun inputs script.CannotPrint o × (last ≡ None)
Ran Memory inputs last o = HasBegun inputs script.Memory o × (last ≡ None)
Ran _ inputs last o = ⊥

-- a run of a script: it says a text and didn't begin, or it began
abbrev pub ScriptRun : List (List ℕ) → Status → Option Loaded → Outside → Type 0
ScriptRun inputs result last o =
    (Ends (λ wanted text. ScriptSays wanted inputs o text) ⊥ (IsShort inputs o.store o.new_store) result o.sink o.new_sink × (last ≡ None))
    ⊎ Ran result inputs last o

-- the store reveals a script without a bad line
pub record CanRun (inputs : List (List ℕ)) (o : Outside) : Type 0 where
  pub reported : FileMap
  pub is_reported : o.store.held ≡ Some reported
  pub files : List (List ℕ)
  pub held' : AreHeld reported inputs files
  pub commands : List Command
  pub script : IsScript (first_of files) commands
  pub calm : IsCalm o
