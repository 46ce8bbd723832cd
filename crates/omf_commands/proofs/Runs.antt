-- How a run of a script ends, from what was done and what was printed.
use Rattle.std.proofs.Common.{◌≡◌, inl, ℕ, List, Option, None, Vec, ◌∙◌, subst}
use Rattle.std.specs.declared.alloc.Global.{Global}
use Rattle.omf_io.specs.Files.{StoreSeen}
use Rattle.omf_io.specs.Sinks.{with_text}
use Rattle.omf_io.specs.Outside.{Outside}
use Rattle.loader_machine.specs.declared.script.ScriptFault.{ScriptFault}
use Rattle.loader_machine.specs.Script.{HasScriptFault}
use Rattle.loader_agrees.specs.Agrees.{Loaded}
use Rattle.loader_script.specs.declared.run.ScriptEnd.{ScriptEnd}
use Rattle.loader_script.specs.Run.{HasRunScript}
use Rattle.omf_making.specs.declared.status.Status.{Status}
use Rattle.omf_making.specs.Made.{all_bytes, first_of, AreShort}
use Rattle.omf_making.specs.Printing.{Ends, IsPut}
use Rattle.omf_making.specs.Making.{IsShort, AreRead, all_read}
use Rattle.omf_making.proofs.Runs.{ends}
use Rattle.omf_commands.specs.Script.{ScriptSays, ScriptRun, HasBegun, IsBadScript}

-- a run of a script that says a text before it begins
pub script_says : (inputs : List (List ℕ)) (o : Outside) (wanted result : Status) (text : List ℕ) → ScriptSays wanted inputs o text
    → (o.new_sink ≡ with_text text o.sink → Ends (λ wanted text. ScriptSays wanted inputs o text) ⊥ (IsShort inputs o.store o.new_store) wanted o.sink o.new_sink)
    → IsPut text wanted result o.sink o.new_sink → (last : Option Loaded) → last ≡ None → ScriptRun inputs result last o
script_says inputs o wanted result text is whole put last none =
    inl (ends (λ wanted text. ScriptSays wanted inputs o text) ⊥ (IsShort inputs o.store o.new_store) wanted result text o.sink o.new_sink is whole put, none)

-- a script that was read, and its run
pub begun : (inputs : List (List ℕ)) (came : ScriptEnd) (all : List (Vec ℕ Global)) (text : List ℕ) (mid : StoreSeen) (o : Outside)
    → AreRead o.store.held inputs (all_bytes all) × AreShort (all_bytes all) × (mid ≡ all_read inputs o.store) → text ≡ first_of (all_bytes all)
    → HasRunScript came text (record o { store = mid }) → HasBegun inputs came o
begun inputs came all text mid o read text_is run = record {
  files = all_bytes all;
  read = read.0;
  run = subst (λ (t : List ℕ). HasRunScript came t (record o { store = all_read inputs o.store })) text_is (subst (λ (s : StoreSeen). HasRunScript came text (record o { store = s })) read.2 run);
}

-- a script that was read and has a bad line
pub bad_script : (inputs : List (List ℕ)) (all : List (Vec ℕ Global)) (text : List ℕ) (fault : ScriptFault) (mid : StoreSeen) (o : Outside)
    → AreRead o.store.held inputs (all_bytes all) × AreShort (all_bytes all) × (mid ≡ all_read inputs o.store) → text ≡ first_of (all_bytes all)
    → HasScriptFault text fault → o.new_store ≡ mid → IsBadScript inputs fault o
bad_script inputs all text fault mid o read text_is first store = record {
  files = all_bytes all;
  read = read.0;
  first = subst (λ (t : List ℕ). HasScriptFault t fault) text_is first;
  store = store ∙ read.2;
}
