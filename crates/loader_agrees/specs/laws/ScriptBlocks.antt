-- Calls on the script's own blocks: no user's block is touched.
use Rattle.std.proofs.Common.{◌≡◌, ◌≢◌, inl, inr, ℕ, Bool, true, false, cond, ◌+◌, ◌<◌, ◌==◌, List, [], ◌∷◌, Option, Some, None, IsSome, refl, sym, ap, subst, ◌∙◌, arith}
use Rattle.std.specs.Prelude.{Contains, slice_index_or, if◌then◌else◌}
use Rattle.std.specs.Option.{option_map_or}
use Rattle.std.proofs.lemmas.Option.{same_Some}
use Rattle.omf_io.specs.Files.{FileMap}
use Rattle.iigs_meaning.specs.declared.handles.Handle.{Handle}
use Rattle.iigs_meaning.specs.declared.slots.Slot.{Slot}
use Rattle.iigs_meaning.specs.declared.slots.SlotContent.TheVariants.{Free, Used, Retired}
use Rattle.iigs_meaning.specs.declared.wants.Want.{Want}
use Rattle.iigs_meaning.specs.declared.wants.Block.{Block}
use Rattle.iigs_meaning.specs.Slots.{get, slot_at, new_handle, with_slot, with_value, after_release, released}
use Rattle.iigs_meaning.specs.Fits.{Slots, block_in}
use Rattle.iigs_meaning.specs.Puts.{LacksRoom, Puts}
use Rattle.iigs_meaning.specs.Slide.{can_move, movable_block, moved_to, count_moved}
use Rattle.iigs_meaning.specs.laws.SlideLaws.{mover_in}
use Rattle.loader_machine.specs.Rule.{RoomRule}
use Rattle.iigs_meaning.specs.Moves.{IsSlid}
use Rattle.iigs_meaning.specs.Blocks.{state_of}
use Rattle.iigs_meaning.specs.Memory.{Memory, KeepsBut, IsPlaced, IsFreed, Changes}
use Rattle.loader_machine.specs.declared.faults.LoaderFault.{LoaderFault}
use Rattle.loader_machine.specs.declared.faults.LoaderFault.TheVariants.{NoHandle, NoRoom}
use Rattle.loader_machine.specs.declared.seen.SegmentHead.{SegmentHead}
use Rattle.loader_machine.specs.State.{Machine}
use Rattle.loader_machine.specs.Commands.{Compact, Moved, Reply, Free as FreeIt, StateOf, Okay, Placed, BlockIs, Refused}
use Rattle.loader_machine.specs.Refusals.{Refuse, free_refusal, change_refusal, state_refusal}
use Rattle.loader_machine.specs.Steps.{Decides, with_slots, StepsChange}
use Rattle.loader_machine.specs.Steps.StepsAlloc.{IsPlaced as AllocPlaced, HasNoHandle as AllocNoHandle, HasNoRoom as AllocNoRoom}
use Rattle.loader_agrees.specs.Agrees.{Loaded, Agrees, Has, IsSound, Met, MetAlloc}
use Rattle.loader_agrees.specs.laws.Frame.{Same, Gone}
use Rattle.loader_agrees.specs.laws.Stay.{cant_move, get_is, in_slot, put_stays, put_apart, is_there}
use Rattle.loader_agrees.specs.laws.Slotted.{live_block, one_block, slot_apart, in_changed, in_put}
use Rattle.loader_agrees.specs.laws.Keeping.{AllKept, OnlyOld, agrees_kept}

none_in : (place : ℕ) → ¬ Contains {X = ℕ} [] place
none_in place found = omega (arith, found.1)

not_one : (a b : ℕ) → b ≢ a → ¬ Contains (a ∷ []) b
not_one a b ne found = go found.0 found.1 found.2
  where
    go : (k : ℕ) → k < 1 → slice_index_or (a ∷ []) k b ≡ b → ⊥
    go k lt e = let z : k ≡ 0 = omega arith in ne (sym (subst (λ (n : ℕ). slice_index_or (a ∷ []) n b ≡ b) z e))

-- a block that isn't movable doesn't move
pub slot_stays : (slot : Slot Block) (block : Block) → block_in slot ≡ Some block → (can_move block ≡ true → ⊥) → movable_block slot ≡ None
slot_stays slot block is cant = rw is (go (can_move block) refl)
  where
    go : (b : Bool) → can_move block ≡ b → ◌≡◌ {A = Option Block} (cond b (Some block) None) None
    go true can = absurd (cant can)
    go false can = refl

module _ (old : Loaded) (sound : IsSound old.memory old.users) where
  -- a user's handle isn't in the slot of a block of the script
  apart : (h : Handle) (block : Block) → get old.memory.slots h ≡ Some block → block.user ≡ 0
      → (place number : ℕ) (head : SegmentHead) (k : Handle) → Has old.users place number head k → k.slot ≢ h.slot
  apart h block is script place number head k has same =
      let of' = sound.each place number head k has in
      let one = one_block old.memory.slots k h of'.block block of'.live is same in
      omega (arith, of'.user, script, ap (λ (b : Block). b.user) one)

  module _ (h : Handle) (block : Block) (is : get old.memory.slots h ≡ Some block) (script : block.user ≡ 0) (slot : Slot Block) (new : Memory)
      (slots : new.slots ≡ with_slot old.memory.slots h slot) (bytes : KeepsBut old.memory new []) where
    -- where the slot of the script's handle changes, all users' blocks are kept
    pub changed_kept : AllKept old new
    changed_kept place number head k has =
        let same : get new.slots k ≡ get old.memory.slots k = ap (λ (t : Slots). get t k) slots ∙ slot_apart old.memory.slots h k slot (apart h block is script place number head k has) in
        Same same (λ there. bytes.bytes k.slot (none_in k.slot) (is_there new k there))

    pub changed_only : ((b : Block) → block_in slot ≡ Some b → b.user ≡ 0) → OnlyOld old.memory new
    changed_only its n b here user = elim (in_changed old.memory.slots h slot n b (sym (ap (λ (t : Slots). block_in (slot_at t n)) slots) ∙ here)) [
      | inl new' ↦ absurd (user (its b new'))
      | inr was ↦ (b, was, user)
    ]

  module _ (want : Want) (user : ℕ) (locked : Bool) (level : ℕ) (movable : Bool) (h : Handle) (new : Memory) (placed' : IsPlaced RoomRule old.memory want user locked level movable h new) where
    -- where a block is placed under a new handle, all users' blocks are kept
    pub placed_kept : AllKept old new
    placed_kept place number head k has =
        let of' = sound.each place number head k has in
        let live : IsSome (get old.memory.slots k) = rw of'.live refl in
        let ne = put_apart old.memory.banks old.memory.slots new.slots want user locked level movable h placed'.puts k live in
        elim (put_stays old.memory.banks old.memory.slots new.slots want user locked level movable h placed'.puts k of'.block of'.live of'.fixed) [
          | inl same ↦ Same (same ∙ sym of'.live) (λ there. placed'.kept.bytes k.slot (not_one h.slot k.slot ne) (is_there new k there))
          | inr gone ↦ Gone of'.block of'.live gone.0 gone.1
        ]

    pub placed_only : user ≡ 0 → OnlyOld old.memory new
    placed_only script n b here of_user = elim (in_put old.memory.banks old.memory.slots new.slots want user locked level movable h placed'.puts n b here) [
      | inl new' ↦ absurd (of_user (ap (λ (x : Block). x.user) new'.1 ∙ script))
      | inr was ↦ (was.0, was.1, λ zero'. of_user (sym was.2 ∙ zero'))
    ]

  module _ (new : Memory) (slid : IsSlid old.memory new) where
    -- where the movable blocks are slid down, all users' blocks are kept: none of them is movable
    pub slid_kept : AllKept old new
    slid_kept place number head k has =
        let of' = sound.each place number head k has in
        let here = live_block old.memory.slots k of'.block of'.live in
        let same = slid.slides.stay k.slot (slot_stays (slot_at old.memory.slots k.slot) of'.block here (cant_move of'.block of'.fixed)) in
        Same (get_is new.slots k ∙ ap (λ (s : Slot Block). in_slot s k) same ∙ sym (get_is old.memory.slots k)) (λ there. slid.kept.bytes k.slot (none_in k.slot) (is_there new k there))

    pub slid_only : OnlyOld old.memory new
    slid_only n b here of_user = go (movable_block (slot_at old.memory.slots n)) refl
      where
        go : (o : Option Block) → movable_block (slot_at old.memory.slots n) ≡ o → (was : Block) × (block_in (slot_at old.memory.slots n) ≡ Some was) × (was.user ≢ 0)
        go None e = (b, ap block_in (sym (slid.slides.stay n e)) ∙ here, of_user)
        go (Some block) e =
            let goes = slid.slides.goes n block e in
            let same : moved_to goes.0 block ≡ b = same_Some (moved_to goes.0 block) b (sym (ap block_in goes.2) ∙ here) in
            (block, (mover_in (slot_at old.memory.slots n) block e).0, λ script. of_user (sym (ap (λ (x : Block). x.user) same) ∙ script))

slot_when : Bool → ℕ → Slot Block
slot_when again generation = if again then (record { generation = generation; content = Retired }) else (record { generation = generation + 1; content = Free })

pub released_none : (generation : ℕ) (b : Block) → block_in (released generation) ≡ Some b → b.user ≡ 0
unfolding slot_when
released_none generation b is = go (generation == 255) is
  where
    go : (t : Bool) → block_in (slot_when t generation) ≡ Some b → b.user ≡ 0
    go true is = absurd cc
    go false is = absurd cc

module _ (held : FileMap) (old new : Loaded) (state : Machine) (sound : IsSound old.memory old.users) (agrees : Agrees held old state) (users : new.users ≡ old.users) where
  -- a block is placed for the script
  pub alloc_met : (want : Want) (locked : Bool) (level : ℕ) (movable : Bool) (h : Handle) → (is : IsPlaced RoomRule old.memory want 0 locked level movable h new.memory)
      → MetAlloc RoomRule held state want locked level movable (Placed h is.puts.address) new
  alloc_met want locked level movable h is =
      let puts : Puts RoomRule state.banks state.slots want 0 locked level movable h new.memory.slots = record {
        address = is.puts.address;
        room = is.puts.room;
        makes = subst (λ (t : Slots). RoomRule state.banks t want is.puts.address is.puts.room) agrees.slots
            (subst (λ (bs : List ℕ). RoomRule bs old.memory.slots want is.puts.address is.puts.room) agrees.banks is.puts.makes);
        handle = ap new_handle (sym agrees.slots) ∙ is.puts.handle;
        next_is = is.puts.next_is;
      } in (
        with_slots state new.memory.slots,
        AllocPlaced h new.memory.slots puts refl refl,
        agrees_kept held old new state sound agrees is.kept.banks users (placed_kept old sound want 0 locked level movable h new.memory is),
      )

  -- the script's handle is released
  pub free_met : (h : Handle) → free_refusal old.memory.slots h ≡ None → (block : Block) → get old.memory.slots h ≡ Some block → block.user ≡ 0 → IsFreed old.memory h new.memory
      → Met RoomRule held state (FreeIt h) Okay new
  free_met h passes block is script freed = (
    with_slots state new.memory.slots,
    rw (ap (λ (t : Slots). free_refusal t h) (sym agrees.slots) ∙ passes) (refl, ap (with_slots state) (freed.slots ∙ ap (λ (t : Slots). after_release t h) agrees.slots)),
    agrees_kept held old new state sound agrees freed.kept.banks users
        (changed_kept old sound h block is script (released h.generation) new.memory freed.slots freed.kept),
  )

  -- the block of the script's handle is changed
  pub change_met : (h : Handle) (change : Block → Block) (reply : Reply) → reply ≡ Okay → change_refusal old.memory.slots h ≡ None → (changes : Changes old.memory h change new.memory) → changes.block.user ≡ 0
      → (next : Machine) × StepsChange state h change reply next × Agrees held new next
  change_met h change reply okay passes changes script = (
    with_slots state new.memory.slots,
    rw (ap (λ (t : Slots). change_refusal t h) (sym agrees.slots) ∙ passes) (okay, ap (with_slots state) (slots_are (get state.slots h) refl)),
    agrees_kept held old new state sound agrees changes.kept.banks users
        (changed_kept old sound h changes.block changes.was script (record { generation = h.generation; content = Used (change changes.block) }) new.memory changes.slots changes.kept),
  )
    where
      slots_are : (o : Option Block) → get state.slots h ≡ o → new.memory.slots ≡ option_map_or (λ block. with_value state.slots h (change block)) o state.slots
      slots_are None e = let clash : Some changes.block ≡ None = sym changes.was ∙ ap (λ (t : Slots). get t h) agrees.slots ∙ e in absurd cc
      slots_are (Some block) e =
          let same : changes.block ≡ block = same_Some changes.block block (sym changes.was ∙ ap (λ (t : Slots). get t h) agrees.slots ∙ e) in
          changes.slots ∙ ap (λ (t : Slots). with_value t h (change changes.block)) agrees.slots ∙ ap (λ (b : Block). with_value state.slots h (change b)) same

  -- the movable blocks are slid down
  pub compact_met : IsSlid old.memory new.memory → Met RoomRule held state Compact (Moved (count_moved old.memory.slots new.memory.slots)) new
  compact_met slid = (
    with_slots state new.memory.slots,
    (new.memory.slots, rw (← agrees.banks, ← agrees.slots) slid.slides, ap (λ (s : Slots). Moved (count_moved s new.memory.slots)) agrees.slots, refl),
    agrees_kept held old new state sound agrees slid.kept.banks users (slid_kept old sound new.memory slid),
  )

module _ (held : FileMap) (loader : Loaded) (state : Machine) (agrees : Agrees held loader state) where
  pub alloc_full : (want : Want) (locked : Bool) (level : ℕ) (movable : Bool) → new_handle loader.memory.slots ≡ None → MetAlloc RoomRule held state want locked level movable (Refused NoHandle) loader
  alloc_full want locked level movable none = (state, AllocNoHandle (ap new_handle (sym agrees.slots) ∙ none) refl refl, agrees)

  pub alloc_lacks : (want : Want) (locked : Bool) (level : ℕ) (movable : Bool) → IsSome (new_handle loader.memory.slots) → LacksRoom RoomRule loader.memory.banks loader.memory.slots want
      → MetAlloc RoomRule held state want locked level movable (Refused (NoRoom 0)) loader
  alloc_lacks want locked level movable some lacks = (
    state,
    AllocNoRoom (subst (λ (t : Slots). IsSome (new_handle t)) agrees.slots some)
        (subst (λ (t : Slots). LacksRoom RoomRule state.banks t want) agrees.slots (subst (λ (bs : List ℕ). LacksRoom RoomRule bs loader.memory.slots want) agrees.banks lacks)) refl refl,
    agrees,
  )

  -- a call that is refused by what the slots say leaves all as it is
  pub decides_refused : (refusal : Slots → Refuse) (fault : LoaderFault) (Done : Type 0) → refusal loader.memory.slots ≡ Some fault → Decides (refusal state.slots) state (Refused fault) state Done
  decides_refused refusal fault Done is = rw (ap refusal (sym agrees.slots) ∙ is) (refl, refl)

  pub state_met : (h : Handle) (block : Block) → get loader.memory.slots h ≡ Some block → Met RoomRule held state (StateOf h) (BlockIs (state_of block)) loader
  unfolding state_refusal
  state_met h block is =
      let here : get state.slots h ≡ Some block = ap (λ (t : Slots). get t h) (sym agrees.slots) ∙ is in
      (state, rw here (block, refl, refl, refl), agrees)
