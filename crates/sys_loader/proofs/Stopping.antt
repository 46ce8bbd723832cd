-- A shutdown is the machine's step.
use Rattle.std.proofs.Common.{◌≡◌, ℕ, Bool, true, false, List, Option, Some, None, sym, ap, subst, ◌∙◌}
use Rattle.std.specs.Prelude.{Result, Ok, Err}
use Rattle.omf_io.specs.Files.{FileMap}
use Rattle.loader_machine.specs.Rule.{RoomRule}
use Rattle.loader_machine.specs.declared.faults.LoaderFault.{LoaderFault}
use Rattle.loader_machine.specs.State.{Machine, outlines, is_attached}
use Rattle.loader_machine.specs.Refusals.{shut_down_refusal}
use Rattle.loader_machine.specs.Commands.{Refused, ShutDown}
use Rattle.loader_agrees.specs.Agrees.{LoadedUser, Loaded, Outline, kept_outlines, seen_by, Agrees, IsSound, Met}
use Rattle.loader_agrees.specs.laws.Seeing.{refuses}
use Rattle.sys_loader.specs.Replies.{done_reply}
use Rattle.sys_loader.specs.Lives.{DidShutDown}
use Rattle.sys_loader.proofs.Leading.{no_row}
use Rattle.sys_loader.proofs.Dropping.{drop_met}
use Rattle.sys_loader.proofs.Resting.{keep_met, alone_of}

refused_meet : (old new : Loaded) (id : ℕ) (keep : Bool) (fault : LoaderFault) → shut_down_refusal (is_attached (kept_outlines old.users) id) (seen_by old id) keep ≡ Some fault → new ≡ old
    → (held : FileMap) (state : Machine) → Agrees held old state → Met RoomRule held state (ShutDown id keep) (Refused fault) new
refused_meet old new id keep fault is same held state agrees = subst (λ (l : Loaded). Met RoomRule held state (ShutDown id keep) (Refused fault) l) (sym same) (
  state,
  refuses held old state agrees id (λ seen. shut_down_refusal (is_attached (outlines state.users) id) seen keep) fault _
      (ap (λ (os : List (Option Outline)). shut_down_refusal (is_attached os id) (seen_by old id) keep) (sym agrees.users) ∙ is),
  agrees,
)

-- no row names a user that is shut down
pub top_of : (old : Loaded) (id : ℕ) (keep : Bool) (kept : LoadedUser) → IsSound old.memory old.users → Rattle.loader_machine.specs.State.user_of old.users id ≡ Some kept
    → shut_down_refusal (is_attached (kept_outlines old.users) id) (seen_by old id) keep ≡ None → (q f : ℕ) → Rattle.loader_machine.specs.State.attached_at (kept_outlines old.users) q f ≡ Some id → ⊥
top_of old id keep kept sound made passes = no_row old.users id kept sound.attached made (alone_of (is_attached (kept_outlines old.users) id) (seen_by old id) keep passes)

pub keeps_meet : (old new : Loaded) (id : ℕ) (keep : Bool) → keep ≡ true → (result : Result (Unit {0}) LoaderFault) → IsSound old.memory old.users → DidShutDown old id true result new
    → (held : FileMap) (state : Machine) → Agrees held old state → Met RoomRule held state (ShutDown id keep) (done_reply result) new
keeps_meet old new id keep is (Ok done) sound did held state agrees = rw is (keep_met old new id sound did.0 (top_of old id true did.0.kept sound did.0.made did.1) held state agrees did.1)
keeps_meet old new id keep is (Err fault) sound did held state agrees = rw is (refused_meet old new id true fault did.0 did.1 held state agrees)

pub drops_meet : (old new : Loaded) (id : ℕ) (keep : Bool) → keep ≡ false → (result : Result (Unit {0}) LoaderFault) → IsSound old.memory old.users → DidShutDown old id false result new
    → (held : FileMap) (state : Machine) → Agrees held old state → Met RoomRule held state (ShutDown id keep) (done_reply result) new
drops_meet old new id keep is (Ok done) sound did held state agrees = rw is (drop_met old new id sound did.0 (top_of old id false did.0.kept sound did.0.made did.1) held state agrees did.1)
drops_meet old new id keep is (Err fault) sound did held state agrees = rw is (refused_meet old new id false fault did.0 did.1 held state agrees)
