-- How often a run reads.
use Rattle.std.specs.Prelude.{◌≡◌, ◌≤◌, ℕ, ◌+◌, ◌-◌, ◌^◌, List, [], ◌∷◌, length, Option, Some}
use Rattle.loader_agrees.specs.Agrees.{Loaded}
use Rattle.omf_io.specs.Outside.{Outside}
use Rattle.omf_making.specs.declared.status.Status.{Status}
use Rattle.omf_making.specs.declared.status.Status.TheVariants.{Done, Refused, CannotRead, CannotWrite}
use Rattle.omf_making.specs.Form.{CommandForm, Asm, Link, Dump, Run, Lib, Stress, Rtl, LinkRt, Listing, Compact}
use Rattle.omf_cli.specs.Tool.{HasRun}

-- the paths that a command reads; a workload is made, and read from no path
abbrev pub inputs_of : CommandForm → List (List ℕ)
inputs_of (Asm source output macros) = source ∷ macros
inputs_of (Link output inputs) = inputs
inputs_of (Dump inputs) = inputs
inputs_of (Run inputs) = inputs
inputs_of (Lib output inputs) = inputs
inputs_of (Stress count seed) = []
inputs_of (Rtl output inputs) = inputs
inputs_of (LinkRt output inputs runtimes) = inputs
inputs_of (Listing output inputs) = inputs
inputs_of (Compact output inputs) = inputs

-- the count of reads can rise by one for each input
abbrev pub CanCount : CommandForm → Outside → Type 0
CanCount form o = o.store.asked + length (inputs_of form) ≤ 2 ^ 64 - 1

-- a run that ends so has read all its inputs: it is done, or they are refused, or the output couldn't be written
abbrev pub IsAfterReading : Status → Type 0
IsAfterReading Done = Unit {0}
IsAfterReading Refused = Unit {0}
IsAfterReading CannotWrite = Unit {0}
IsAfterReading _ = ⊥

-- and nothing but these; of a script only one that is refused, since one that is run may load files
abbrev pub HasReadInputs : CommandForm → Status → Type 0
HasReadInputs (Run inputs) result = result ≡ Refused
HasReadInputs _ result = IsAfterReading result

-- The store was asked for each of them once, and for nothing else.
abbrev pub InputsAreAskedForOnce : Type 0
InputsAreAskedForOnce = (form : CommandForm) (result : Status) (last : Option Loaded) (o : Outside) → CanCount form o → HasReadInputs form result
    → HasRun result (Some form) last o → o.new_store.asked ≡ o.store.asked + length (inputs_of form)

-- the command reads nothing but its inputs, however it ends
abbrev pub ReadsInputsAlone : CommandForm → Type 0
ReadsInputsAlone (Run inputs) = ⊥
ReadsInputsAlone _ = Unit {0}

-- So the store is asked for each of them once at most.
abbrev pub NoMoreIsAskedFor : Type 0
NoMoreIsAskedFor = (form : CommandForm) (result : Status) (last : Option Loaded) (o : Outside) → CanCount form o → ReadsInputsAlone form
    → HasRun result (Some form) last o → o.new_store.asked ≤ o.store.asked + length (inputs_of form)

-- Where a script couldn't be read, the store was asked for no more than the script.
abbrev pub ScriptsAreAskedForOnce : Type 0
ScriptsAreAskedForOnce = (inputs : List (List ℕ)) (last : Option Loaded) (o : Outside) → CanCount (Run inputs) o
    → HasRun CannotRead (Some (Run inputs)) last o → o.new_store.asked ≤ o.store.asked + length inputs
