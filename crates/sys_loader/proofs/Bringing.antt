-- A segment's block that is placed: under a new handle, or anew under the one that it has.
use Rattle.std.proofs.Common.{◌≡◌, ◌≢◌, ◌⊎◌, inl, inr, ℕ, true, false, ◌<◌, [], ◌∷◌, length, Option, Some, IsSome, refl, sym, ap, subst, ◌∙◌, arith}
use Rattle.std.specs.Prelude.{slice_index_or, Contains, IsSomeAnd}
use Rattle.std.proofs.lemmas.Bool.{cases_eq}
use Rattle.std.proofs.lemmas.Option.{same_Some}
use Rattle.std.proofs.lemmas.List.{length-replicate}
use Rattle.iigs_meaning.specs.declared.handles.Handle.{Handle}
use Rattle.iigs_meaning.specs.declared.slots.SlotContent.TheVariants.{Used}
use Rattle.iigs_meaning.specs.declared.wants.Want.{Want}
use Rattle.iigs_meaning.specs.declared.wants.Block.{Block}
use Rattle.iigs_meaning.specs.Slots.{slot_at, get}
use Rattle.iigs_meaning.specs.Fits.{Slots, block_in}
use Rattle.iigs_meaning.specs.Puts.{placed_block}
use Rattle.iigs_meaning.specs.laws.Left.{AreLeft}
use Rattle.iigs_meaning.specs.laws.SlideRoomLaws.{are_left}
use Rattle.loader_machine.specs.Rule.{RoomRule}
use Rattle.iigs_meaning.specs.Memory.{Memory, IsPlaced, IsReplaced, Changes, bytes_at}
use Rattle.loader_machine.specs.declared.seen.SegmentHead.{SegmentHead}
use Rattle.loader_machine.specs.Heads.{want_of}
use Rattle.loader_machine.specs.Presences.{presence, there_at, lies_in}
use Rattle.loader_machine.specs.Steps.{active_block}
use Rattle.loader_agrees.specs.Agrees.{Loaded, Has, IsSound}
use Rattle.loader_agrees.specs.laws.Begun.{puts_here}
use Rattle.loader_agrees.specs.laws.Frame.{Keeps, Same, Gone}
use Rattle.loader_agrees.specs.laws.ScriptBlocks.{placed_kept}
use Rattle.loader_agrees.specs.laws.Slotted.{slot_apart, live_block, in_put, in_left}
use Rattle.loader_agrees.specs.laws.Stay.{reached_block, get_left, cant_move, put_apart, is_there}
use Rattle.loader_agrees.specs.laws.Stay.IsReached.{Kept, Purged, Moved}
use Rattle.loader_users.proofs.Shifting.{value_here, value_in}

-- what a placed block of a segment is, and what is left of the others
pub record Brings (old : Loaded) (id : ℕ) (head : SegmentHead) (h : Handle) (address : ℕ) (new : Memory) : Type 0 where
  pub block : Block
  pub live : get new.slots h ≡ Some block
  pub at : block.at ≡ Some address
  pub want : block.want ≡ want_of head
  pub user : block.user ≡ id
  pub fixed : block.movable ≡ false
  pub locked : block.locked ≡ true
  pub level : block.level ≡ 0
  pub banks : new.banks ≡ old.memory.banks
  pub size : length (bytes_at new h.slot) ≡ (want_of head).size
  pub keeps : (p n : ℕ) (g : SegmentHead) (k : Handle) → Has old.users p n g k → k.slot ≢ h.slot → Keeps old.memory new k
  pub only : (n : ℕ) (b : Block) → block_in (slot_at new.slots n) ≡ Some b → ((n ≡ h.slot) × (b ≡ block)) ⊎ ((was : Block) × (block_in (slot_at old.memory.slots n) ≡ Some was) × (was.user ≡ b.user))

module _ (old : Loaded) (sound : IsSound old.memory old.users) (id : ℕ) (head : SegmentHead) (h : Handle) (address : ℕ) (new : Memory) where
  -- under a new handle
  pub brings_first : (is : IsPlaced RoomRule old.memory (want_of head) id true 0 false h new) → is.puts.address ≡ address → Brings old id head h address new
  brings_first is at = record {
    block = placed_block (want_of head) is.puts.address id true 0 false;
    live = puts_here old.memory.banks old.memory.slots new.slots (want_of head) id true 0 false h is.puts;
    at = ap (λ (n : ℕ). Some n) at;
    want = refl;
    user = refl;
    fixed = refl;
    locked = refl;
    level = refl;
    banks = is.kept.banks;
    size = ap length is.zeros ∙ length-replicate {A = ℕ} (want_of head).size 0;
    keeps = λ p n g k has ne. placed_kept old sound (want_of head) id true 0 false h new is p n g k has;
    only = λ n b found. in_put old.memory.banks old.memory.slots new.slots (want_of head) id true 0 false h is.puts n b found;
  }

  -- no handle is in its slot
  pub first_apart : (is : IsPlaced RoomRule old.memory (want_of head) id true 0 false h new) → (p n : ℕ) (g : SegmentHead) (k : Handle) → Has old.users p n g k → k.slot ≢ h.slot
  first_apart is p n g k has =
      let of' = sound.each p n g k has in
      let live : IsSome (get old.memory.slots k) = rw of'.live refl in
      put_apart old.memory.banks old.memory.slots new.slots (want_of head) id true 0 false h is.puts k live

  -- ---- anew

  module _ (middle : Memory) (is : IsReplaced RoomRule old.memory h (want_of head) middle) (changes : Changes middle h active_block new) where
    abbrev room : Slots
    room = is.puts.room

    abbrev fresh : Block
    fresh = placed_block (want_of head) is.puts.address is.puts.block.user is.puts.block.locked is.puts.block.level false

    left : AreLeft old.memory.slots room
    left = are_left old.memory.banks old.memory.slots (want_of head) is.puts.address room is.puts.makes

    in_room : (was : Block) × (get room h ≡ Some was)
    in_room = reached_block is.puts.block (get room h) (get_left old.memory.slots room left h is.puts.block is.puts.was)

    live_middle : get middle.slots h ≡ Some fresh
    live_middle = ap (λ (t : Slots). get t h) is.puts.next_is ∙ value_here room h in_room.0 fresh in_room.1

    block_is : changes.block ≡ fresh
    block_is = same_Some changes.block fresh (sym changes.was ∙ live_middle)

    live_now : get new.slots h ≡ Some (active_block fresh)
    live_now = ap (λ (t : Slots). get t h) changes.slots ∙ value_here middle.slots h changes.block (active_block changes.block) changes.was ∙ ap (λ (b : Block). Some (active_block b)) block_is

    none_in : (place : ℕ) → ¬ Contains {X = ℕ} [] place
    none_in place found = omega (arith, found.1)

    not_one : (a b : ℕ) → b ≢ a → ¬ Contains (a ∷ []) b
    not_one a b ne found = go found.0 found.1 found.2
      where
        go : (k : ℕ) → k < 1 → slice_index_or (a ∷ []) k b ≡ b → ⊥
        go k lt e = let z : k ≡ 0 = omega arith in ne (sym (subst (λ (n : ℕ). slice_index_or (a ∷ []) n b ≡ b) z e))

    get_middle : (k : Handle) → k.slot ≢ h.slot → get new.slots k ≡ get middle.slots k
    get_middle k ne = ap (λ (t : Slots). get t k) changes.slots ∙ slot_apart middle.slots h k (record { generation = h.generation; content = Used (active_block changes.block) }) ne

    get_room : (k : Handle) → k.slot ≢ h.slot → get middle.slots k ≡ get room k
    get_room k ne = ap (λ (t : Slots). get t k) is.puts.next_is ∙ slot_apart room h k (record { generation = h.generation; content = Used fresh }) ne

    there_middle : (k : Handle) → k.slot ≢ h.slot → IsSome (there_at (presence new.slots (Some k)))
        → IsSome (there_at (presence middle.slots (Some k)))
    there_middle k ne there = subst (λ (o : Option Block). IsSome (there_at (lies_in k o))) (get_middle k ne) there

    kept_one : (k : Handle) (b : Block) → k.slot ≢ h.slot → get old.memory.slots k ≡ Some b → b.movable ≡ false → Keeps old.memory new k
    kept_one k b ne live fixed = elim (get_left old.memory.slots room left k b live) [
      | Kept e ↦ Same (get_middle k ne ∙ get_room k ne ∙ e ∙ sym live) (λ there.
          changes.kept.bytes k.slot (none_in k.slot) (is_there new k there)
          ∙ is.kept.bytes k.slot (not_one h.slot k.slot ne) (is_there middle k (there_middle k ne there)))
      | Purged can e ↦ Gone b live can (get_middle k ne ∙ get_room k ne ∙ e)
      | Moved can address e ↦ absurd (cant_move b fixed can)
    ]

    -- a block in them
    only_middle : (n : ℕ) (b : Block) → block_in (slot_at middle.slots n) ≡ Some b → ((n ≡ h.slot) × (b ≡ fresh)) ⊎ ((was : Block) × (block_in (slot_at old.memory.slots n) ≡ Some was) × (was.user ≡ b.user))
    only_middle n b found = elim (value_in room h in_room.0 fresh in_room.1 n b
        (sym (ap (λ (t : Slots). block_in (slot_at t n)) is.puts.next_is) ∙ found)) [
          | inl here ↦ inl here
          | inr was ↦ inr (in_left (slot_at old.memory.slots n) (slot_at room n) b (left.each n) was)
        ]

    only_now : (n : ℕ) (b : Block) → block_in (slot_at new.slots n) ≡ Some b → ((n ≡ h.slot) × (b ≡ active_block fresh)) ⊎ ((was : Block) × (block_in (slot_at old.memory.slots n) ≡ Some was) × (was.user ≡ b.user))
    only_now n b found = elim (cases_eq n h.slot) [
      | inl eq ↦ inl (eq, same_Some b (active_block fresh) (sym found ∙ ap (λ (m : ℕ). block_in (slot_at new.slots m)) eq ∙ live_block new.slots h (active_block fresh) live_now))
      | inr ne ↦ elim (value_in middle.slots h changes.block (active_block changes.block) changes.was n b (sym (ap (λ (t : Slots). block_in (slot_at t n)) changes.slots) ∙ found)) [
        | inl here ↦ absurd (ne here.0)
        | inr was ↦ elim (only_middle n b was) [
          | inl here ↦ absurd (ne here.0)
          | inr before ↦ inr before
        ]
      ]
    ]

    pub brings_anew : is.puts.address ≡ address → is.puts.block.user ≡ id → Brings old id head h address new
    brings_anew at user = record {
      block = active_block fresh;
      live = live_now;
      at = ap (λ (n : ℕ). Some n) at;
      want = refl;
      user = user;
      fixed = refl;
      locked = refl;
      level = refl;
      banks = changes.kept.banks ∙ is.kept.banks;
      size = ap length (changes.kept.bytes h.slot (none_in h.slot) (is_there new h (rw live_now refl))) ∙ ap length is.zeros ∙ length-replicate {A = ℕ} (want_of head).size 0;
      keeps = λ p n g k has ne. let of' = sound.each p n g k has in kept_one k of'.block ne of'.live of'.fixed;
      only = only_now;
    }

-- a block that was placed anew is there
pub replaced_there : (old : Memory) (h : Handle) (want : Want) (new : Memory) → IsReplaced RoomRule old h want new → IsSomeAnd (get new.slots h) (λ block. IsSome block.at)
replaced_there old h want new is =
    let fresh : Block = placed_block want is.puts.address is.puts.block.user is.puts.block.locked is.puts.block.level false in
    let left = are_left old.banks old.slots want is.puts.address is.puts.room is.puts.makes in
    let was = reached_block is.puts.block (get is.puts.room h) (get_left old.slots is.puts.room left h is.puts.block is.puts.was) in
    let live : get new.slots h ≡ Some fresh = ap (λ (t : Slots). get t h) is.puts.next_is ∙ value_here is.puts.room h was.0 fresh was.1 in
    rw live refl
