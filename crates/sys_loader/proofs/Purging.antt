-- A user's blocks that are purged at its request.
use Rattle.std.proofs.Common.{◌≡◌, ◌≢◌, ℕ, Bool, true, false, Option, Some, None, IsSome, refl, sym, ap, subst, ◌∙◌, arith}
use Rattle.std.specs.Prelude.{Result, Ok, Err, ◌==◌}
use Rattle.omf_io.specs.Files.{FileMap}
use Rattle.iigs_meaning.specs.Slots.{slot_at}
use Rattle.iigs_meaning.specs.Fits.{Slots, block_in}
use Rattle.iigs_meaning.specs.Placement.{emptied_where}
use Rattle.iigs_meaning.specs.Blocks.{can_purge_of}
use Rattle.iigs_meaning.specs.Memory.{Memory, IsPurged}
use Rattle.loader_machine.specs.Rule.{RoomRule}
use Rattle.loader_machine.specs.declared.faults.LoaderFault.{LoaderFault}
use Rattle.loader_machine.specs.declared.faults.LoaderFault.TheVariants.{NoUser}
use Rattle.loader_machine.specs.State.{Machine, UserSeen}
use Rattle.loader_machine.specs.Refusals.{purge_refusal}
use Rattle.loader_machine.specs.Commands.{Purge, Refused}
use Rattle.loader_agrees.specs.Agrees.{Loaded, seen_by, Agrees, IsSound, Met}
use Rattle.loader_agrees.specs.laws.Seeing.{is_seen}
use Rattle.loader_agrees.specs.laws.Stay.{slot_map}
use Rattle.loader_agrees.specs.laws.Slotted.{in_emptied}
use Rattle.loader_agrees.specs.laws.Keeping.{AllKept, OnlyOld, sound_kept}
use Rattle.loader_agrees.specs.laws.Purged.{purge_keeps, purge_met}
use Rattle.sys_loader.specs.Lives.{purge_reply, DidPurge}

-- ---- the refusal

pub of_script : (user : Option UserSeen) → purge_refusal user 0 ≡ None
unfolding purge_refusal
of_script user = refl

pub of_made : (user : Option UserSeen) (seen : UserSeen) (id : ℕ) → user ≡ Some seen → purge_refusal user id ≡ None
unfolding purge_refusal
of_made user seen id is = go (id == 0)
  where
    go : (b : Bool) → Rattle.std.proofs.Common.cond b None (Rattle.loader_machine.specs.Refusals.of_user user (λ s. None)) ≡ None
    go true = refl
    go false = rw is refl

pub of_none : (user : Option UserSeen) (id : ℕ) → user ≡ None → id ≢ 0 → purge_refusal user id ≡ Some NoUser
unfolding purge_refusal
of_none user id is some = let no : (id == 0) ≡ false = grind (arith, some) in rw (no, is) refl

-- ---- what stays

purged_kept : (old : Loaded) (new : Memory) (id count : ℕ) → IsSound old.memory old.users → IsPurged old.memory id count new → AllKept old new
purged_kept old new id count sound is place number head h has =
    let of' = sound.each place number head h has in
    let live : IsSome (Rattle.iigs_meaning.specs.Slots.get old.memory.slots h) = rw of'.live refl in
    purge_keeps old.memory new id count h is live

purged_only : (old : Loaded) (new : Memory) (id count : ℕ) → IsPurged old.memory id count new → OnlyOld old.memory new
purged_only old new id count is n block here user =
    let was = in_emptied (can_purge_of id) (slot_at old.memory.slots n) block
    (sym (ap block_in (slot_map (emptied_where (can_purge_of id)) old.memory.slots n refl)) ∙ sym (ap (λ (t : Slots). block_in (slot_at t n)) is.slots) ∙ here) in
    (was.0, was.1, λ zero'. user (sym was.2 ∙ zero'))

pub purged_sound : (old : Loaded) (new : Memory) (id count : ℕ) → IsSound old.memory old.users → IsPurged old.memory id count new → IsSound new old.users
purged_sound old new id count sound is = sound_kept old new sound (purged_kept old new id count sound is) (purged_only old new id count is)

-- ---- the step

pub purges_meet : (old new : Loaded) (id : ℕ) (result : Result ℕ LoaderFault) → IsSound old.memory old.users → DidPurge old id result new
    → (held : FileMap) (state : Machine) → Agrees held old state → Met RoomRule held state (Purge id) (purge_reply result) new
purges_meet old new id (Ok count) sound did held state agrees = purge_met held old new state id count sound agrees did.1 did.2 did.0
purges_meet old new id (Err fault) sound did held state agrees = subst (λ (l : Loaded). Met RoomRule held state (Purge id) (Refused fault) l) (sym did.1)
    (state, (seen_by old id, is_seen held old state agrees id, rw did.0 (refl, refl)), agrees)
