-- A script that can be run is done, unless out of memory.
use Rattle.std.proofs.Common.{◌≡◌, ◌⊎◌, inl, inr, ℕ, List, Option, refl, subst}
use Rattle.omf_io.specs.Files.{FileMap}
use Rattle.omf_io.specs.Outside.{Outside}
use Rattle.loader_machine.specs.Script.{HasScriptFault}
use Rattle.loader_machine.specs.laws.ScriptLaws.{no_script}
use Rattle.loader_agrees.specs.Agrees.{Loaded}
use Rattle.omf_making.specs.declared.status.Status.{Status}
use Rattle.omf_making.specs.declared.status.Status.TheVariants as status
use Rattle.omf_making.specs.Made.{first_of}
use Rattle.omf_making.proofs.Completes.{same_files, held_at, not_unread, not_printed}
use Rattle.omf_commands.specs.Script.{ScriptRun, CanRun}
use Rattle.omf_making.specs.Making.{AreRead, AreHeld}

-- a script that can be run is run to its end, unless out of memory
pub script_completes : (inputs : List (List ℕ)) (result : Status) (last : Option Loaded) (o : Outside) → ScriptRun inputs result last o → CanRun inputs o → (result ≡ status.Done) ⊎ (result ≡ status.Memory)
script_completes inputs status.Done last o run can = inl refl
script_completes inputs status.Memory last o run can = inr refl
script_completes inputs status.Usage last o (inl (run, none)) can = absurd run.1
script_completes inputs status.CannotWrite last o (inl (run, none)) can = absurd run.1
script_completes inputs status.CannotPrint last o (inl ((wanted, text, is, fails), none)) can = absurd (not_printed text o.sink o.new_sink can.calm.sink fails)
script_completes inputs status.CannotPrint last o (inr ran) can =
    absurd (not_printed _ _ o.new_sink can.calm.sink ran.0.run.2.printed)
script_completes inputs status.CannotRead last o (inl ((text, (path, stops, is), now), none)) can =
    let held = held_at can.reported stops.front stops.rest can.files path (subst (λ (paths : List (List ℕ)). AreHeld can.reported paths can.files) stops.inputs' can.held') in
    absurd (not_unread can.reported path held.0 o.store o.new_store.faults can.is_reported held.2 held.1 can.calm.store stops.cause)
script_completes inputs status.Refused last o (inl ((text, (fault, bad, is), now), none)) can =
    let same = same_files can.reported inputs can.files bad.files can.held' (subst (λ (h : Option FileMap). AreRead h inputs bad.files) can.is_reported bad.read) in
    absurd (no_script (first_of can.files) can.commands fault.line fault.cause can.script (subst (λ (files : List (List ℕ)). HasScriptFault (first_of files) fault) same bad.first))
script_completes inputs status.Usage last o (inr ran) can = absurd ran
script_completes inputs status.CannotWrite last o (inr ran) can = absurd ran
script_completes inputs status.CannotRead last o (inr ran) can = absurd ran
script_completes inputs status.Refused last o (inr ran) can = absurd ran
