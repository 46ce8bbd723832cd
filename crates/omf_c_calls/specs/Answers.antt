-- What calls answer, as C sees it.
use Rattle.std.specs.Prelude.{◌≡◌, ℕ, Option, None, Some, Result, Ok, Err}
use Rattle.loader_machine.specs.declared.faults.LoaderFault.{LoaderFault}
use Rattle.loader_agrees.specs.Agrees.{Loaded}
use Rattle.sys_loader.specs.declared.answers.Started.{Started}
use Rattle.sys_loader.specs.declared.answers.Entered.{Entered}
use Rattle.omf_c_calls.specs.declared.answers.OmfStarted.{OmfStarted}
use Rattle.omf_c_calls.specs.declared.answers.OmfEntered.{OmfEntered}
use Rattle.omf_c_loader.specs.declared.refusal.OmfRefusal.{OmfRefusal}
use Rattle.omf_c_loader.specs.Refusals.{status_done, status_misused, IsFaultReported}

-- a program that runs
abbrev pub started_view : Started → OmfStarted
started_view started = elim started.entry [
  | None ↦ record { user = started.user; enters = 0; entry = 0 }
  | Some address ↦ record { user = started.user; enters = 1; entry = address }
]

-- a place in a segment
abbrev pub entered_view : Entered → OmfEntered
entered_view e = record { user = e.user; segment = e.segment; offset = e.offset; address = e.address }

-- a call of the loader answered so: what it made is reported, or why it made nothing, and nothing else is written
abbrev pub IsAnswered : {X Y : Type 0} → (X → Y) → Result X LoaderFault → ℕ → Y → Y → OmfRefusal → OmfRefusal → Type 0
IsAnswered view (Ok x) status old new refusal after = (status ≡ status_done) × (new ≡ view x) × (after ≡ refusal)
IsAnswered view (Err why) status old new refusal after = (new ≡ old) × IsFaultReported why status refusal after

-- A call for the loader in a caller's struct: it did this, and answered so. Where no loader is there, the call is misused, and nothing is
-- written.
abbrev pub Answers : {X Y : Type 0} → (X → Y) → (Loaded → Result X LoaderFault → Loaded → Type 0) → Option Loaded → Option Loaded → ℕ → Y → Y
    → OmfRefusal → OmfRefusal → Type 0
Answers view Did None after status old new refusal reported = (status ≡ status_misused) × (after ≡ None) × (new ≡ old) × (reported ≡ refusal)
Answers {X = X} view Did (Some before) after status old new refusal reported =
    (now : Loaded) × (after ≡ Some now) × (result : Result X LoaderFault) × Did before result now × IsAnswered view result status old new refusal reported
