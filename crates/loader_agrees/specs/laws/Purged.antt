-- A loader after a user's blocks were purged.
use Rattle.std.proofs.Common.{◌≡◌, ℕ, Bool, true, false, cond, ◌==◌, [], map, Option, Some, None, IsSome, refl, sym, ap, subst, ◌∙◌, arith}
use Rattle.std.specs.Prelude.{◌&&◌, Contains}
use Rattle.omf_io.specs.Files.{FileMap}
use Rattle.iigs_meaning.specs.declared.handles.Handle.{Handle}
use Rattle.iigs_meaning.specs.declared.slots.Slot.{Slot}
use Rattle.iigs_meaning.specs.declared.wants.Block.{Block}
use Rattle.iigs_meaning.specs.Slots.{slot_at, get}
use Rattle.iigs_meaning.specs.Placement.{can_purge, emptied_where}
use Rattle.iigs_meaning.specs.Blocks.{can_purge_of}
use Rattle.iigs_meaning.specs.Memory.{Memory, IsPurged}
use Rattle.iigs_meaning.specs.Fits.{Slots}
use Rattle.loader_machine.specs.Rule.{RoomRule}
use Rattle.loader_machine.specs.State.{Machine}
use Rattle.loader_machine.specs.Refusals.{purge_refusal}
use Rattle.loader_machine.specs.Commands.{Counted, Purge}
use Rattle.loader_machine.specs.Steps.{with_slots}
use Rattle.loader_agrees.specs.Agrees.{Loaded, seen_by, Agrees, IsSound, Met}
use Rattle.loader_agrees.specs.laws.Frame.{Keeps, Same, Gone}
use Rattle.loader_agrees.specs.laws.Keeping.{agrees_kept}
use Rattle.loader_agrees.specs.laws.Seeing.{is_seen}
use Rattle.loader_agrees.specs.laws.Stay.{in_slot, get_is, slot_map, emptied_block, is_there}

none_in : (place : ℕ) → ¬ Contains {X = ℕ} [] place
none_in place found = omega (arith, found.1)

pub purge_keeps : (old new : Memory) (user count : ℕ) (h : Handle) → IsPurged old user count new → IsSome (get old.slots h) → Keeps old new h
purge_keeps old new user count h is some = go (get old.slots h) refl some
  where
    test : Block → Bool
    test = can_purge_of user

    after : (block : Block) → get old.slots h ≡ Some block → get new.slots h ≡ Some (cond (can_purge block && block.user == user) (record block { at = None }) block)
    after block e = ap (λ (t : Slots). get t h) is.slots ∙ get_is (map (emptied_where (can_purge_of user)) old.slots) h
        ∙ ap (λ (slot : Slot Block). in_slot slot h) (slot_map (emptied_where (can_purge_of user)) old.slots h.slot refl)
        ∙ emptied_block (can_purge_of user) (slot_at old.slots h.slot) h block (sym (get_is old.slots h) ∙ e)

    by_test : (block : Block) (a b : Bool) → can_purge block ≡ a → get old.slots h ≡ Some block → get new.slots h ≡ Some (cond (a && b) (record block { at = None }) block) → Keeps old new h
    by_test block true true can e now = Gone block e can now
    by_test block true false can e now = Same (now ∙ sym e) (λ there. is.kept.bytes h.slot (none_in h.slot) (is_there new h there))
    by_test block false b can e now = Same (now ∙ sym e) (λ there. is.kept.bytes h.slot (none_in h.slot) (is_there new h there))

    go : (o : Option Block) → get old.slots h ≡ o → IsSome o → Keeps old new h
    go None e some = absurd cc
    go (Some block) e some = by_test block (can_purge block) (block.user == user) refl e (after block e)

module _ (held : FileMap) (old new : Loaded) (state : Machine) (id count : ℕ) (sound : IsSound old.memory old.users) (agrees : Agrees held old state)
    (is : IsPurged old.memory id count new.memory) (users : new.users ≡ old.users) (passes : purge_refusal (seen_by old id) id ≡ None) where
  abbrev next : Machine
  next = with_slots state (map (emptied_where (can_purge_of id)) state.slots)

  agrees_next : Agrees held new next
  agrees_next = subst (λ (t : Slots). Agrees held new (with_slots state t)) (is.slots ∙ ap (map (emptied_where (can_purge_of id))) agrees.slots)
      (agrees_kept held old new state sound agrees is.kept.banks users
      (λ place n head h has. let of' = sound.each place n head h has in
      let live : IsSome (get old.memory.slots h) = rw of'.live refl in
      purge_keeps old.memory new.memory id count h is live))

  pub purge_met : Met RoomRule held state (Purge id) (Counted count) new
  purge_met = (next, (seen_by old id, is_seen held old state agrees id, rw passes (ap (λ (n : ℕ). Counted n) (rw (← agrees.slots) is.counted), refl)), agrees_next)
