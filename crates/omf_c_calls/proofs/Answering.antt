-- What a call answered for a loader that was there.
use Rattle.std.proofs.Common.{◌≡◌, ℕ, Option, Some, Result, sym, subst}
use Rattle.loader_machine.specs.declared.faults.LoaderFault.{LoaderFault}
use Rattle.loader_agrees.specs.Agrees.{Loaded}
use Rattle.omf_c_loader.specs.declared.refusal.OmfRefusal.{OmfRefusal}
use Rattle.omf_c_calls.specs.Answers.{IsAnswered, Answers}

pub some_answers : {X Y : Type 0} (view : X → Y) (Did : Loaded → Result X LoaderFault → Loaded → Type 0) (before after : Option Loaded) (old now : Loaded) (result : Result X LoaderFault)
    (status : ℕ) (y z : Y) (refusal reported : OmfRefusal) → before ≡ Some old → after ≡ Some now → Did old result now → IsAnswered view result status y z refusal reported
    → Answers view Did before after status y z refusal reported
some_answers view Did before after old now result status y z refusal reported is kept did answered =
    subst (λ (o : Option Loaded). Answers view Did o after status y z refusal reported) (sym is) (now, kept, result, did, answered)
