-- How a run ends that says something: its text was printed, or why it wasn't.
use Rattle.std.specs.Prelude.{◌≡◌, ◌⊎◌, List, ℕ, Result, Ok, Err}
use Rattle.omf_base.specs.declared.line.LineFault.{LineFault}
use Rattle.omf_io.specs.Sinks.{SinkSeen, with_text, FailsToPrint}
use Rattle.omf_making.specs.declared.status.Status.{Status}
use Rattle.omf_making.specs.declared.status.Status.TheVariants.{Done, CannotPrint, Memory}

-- How a run ends. `says` tells which text is printed with which status, `done` what holds where all is done and nothing is to be printed, and
-- `short` what holds where memory was missing before there was a text. The text is printed whole; or the first bytes of it, where the sink
-- failed; or nothing of it, when out of memory.
abbrev pub Ends : (Status → List ℕ → Type 0) → Type 0 → Type 0 → Status → SinkSeen → SinkSeen → Type 0
Ends says done short CannotPrint before now = (wanted : Status) × (text : List ℕ) × says wanted text × FailsToPrint text before now
Ends says done short Memory before now = (short ⊎ ((wanted : Status) × (text : List ℕ) × says wanted text)) × (now ≡ before)
Ends says done short Done before now = (done × (now ≡ before)) ⊎ ((text : List ℕ) × says Done text × (now ≡ with_text text before))
Ends says done short wanted before now = (text : List ℕ) × says wanted text × (now ≡ with_text text before)

-- what became of a text that was to be printed with the wanted status
pub data IsPut (text : List ℕ) (wanted result : Status) (before now : SinkSeen) : Type 0 where
  Whole : result ≡ wanted → now ≡ with_text text before → IsPut text wanted result before now
  Part : result ≡ CannotPrint → FailsToPrint text before now → IsPut text wanted result before now
  Nothing : result ≡ Memory → now ≡ before → IsPut text wanted result before now

-- what became of a line, for which memory may have been missing
abbrev pub IsPrinted : Result (List ℕ) LineFault → Status → Status → SinkSeen → SinkSeen → Type 0
IsPrinted (Ok text) wanted result before now = IsPut text wanted result before now
IsPrinted (Err fault) wanted result before now = (result ≡ Memory) × (now ≡ before)
