-- Memory of banks with blocks under handles, their bytes, and what each call makes of it.
use Rattle.std.specs.Prelude.{◌≡◌, ◌≢◌, ℕ, Bool, ◌≤◌, List, [], ◌∷◌, map, length, replicate, count_by, false, Contains, Some, IsSome, IsSomeAnd, slice_get, slice_index_or}
use Rattle.std.specs.Option.{option_map_or}
use Rattle.iigs_meaning.specs.declared.handles.Handle.{Handle}
use Rattle.iigs_meaning.specs.declared.wants.Want.{Want}
use Rattle.iigs_meaning.specs.declared.wants.Block.{Block}
use Rattle.iigs_meaning.specs.Slots.{slot_at, get, is_free, after_release, with_value}
use Rattle.iigs_meaning.specs.Fits.{Slots, block_in}
use Rattle.iigs_meaning.specs.Placement.{emptied_where}
use Rattle.iigs_meaning.specs.Puts.{MakesRoom, Puts, PutsAnew, PutsAll, slots_for}
use Rattle.iigs_meaning.specs.Blocks.{new_slots, address_in, can_purge_of}
use Rattle.iigs_meaning.specs.Banks.{AreDistinctTo}

-- the configured banks, the slots with their blocks, and for each slot the bytes of its block, if one is there
pub record Memory : Type 0 where
  pub banks : List ℕ
  pub slots : Slots
  pub bytes : List (List ℕ)

-- a block is there in the slot at a place
abbrev pub IsThere : Memory → ℕ → Type 0
IsThere memory place = IsSome (address_in (slot_at memory.slots place))

-- the bytes of the block in the slot at a place
abbrev pub bytes_at : Memory → ℕ → List ℕ
bytes_at memory place = slice_index_or memory.bytes place []

-- the banks stay, and each block that is there afterwards, but in these slots, has the bytes that it had
pub record KeepsBut (old new : Memory) (places : List ℕ) : Type 0 where
  pub banks : new.banks ≡ old.banks
  pub bytes : (place : ℕ) → ¬ Contains places place → IsThere new place → bytes_at new place ≡ bytes_at old place

-- memory of these banks, which are some and distinct, without blocks
pub record IsNew (banks : List ℕ) (memory : Memory) : Type 0 where
  pub some : banks ≢ []
  pub distinct : AreDistinctTo (length banks) banks
  pub banks_are : memory.banks ≡ banks
  pub slots : memory.slots ≡ new_slots

-- ---- placement

-- a new handle has the block, all zeros
pub record IsPlaced (Makes : MakesRoom) (old : Memory) (want : Want) (user : ℕ) (locked : Bool) (level : ℕ) (movable : Bool) (h : Handle) (new : Memory) : Type 0 where
  pub puts : Puts Makes old.banks old.slots want user locked level movable h new.slots
  pub zeros : bytes_at new h.slot ≡ replicate want.size 0
  pub kept : KeepsBut old new (h.slot ∷ [])

-- the handle's empty block is placed anew, all zeros
pub record IsReplaced (Makes : MakesRoom) (old : Memory) (h : Handle) (want : Want) (new : Memory) : Type 0 where
  pub puts : PutsAnew Makes old.banks old.slots h want new.slots
  pub zeros : bytes_at new h.slot ≡ replicate want.size 0
  pub kept : KeepsBut old new (h.slot ∷ [])

-- there are slots enough, and all wants are placed, each block all zeros
pub record AreAllPlaced (Makes : MakesRoom) (old : Memory) (user : ℕ) (fresh : Bool) (wants : List Want) (handles : List Handle) (new : Memory) : Type 0 where
  pub enough : length wants ≤ count_by is_free (slots_for old.slots user fresh)
  pub puts : PutsAll Makes old.banks user (slots_for old.slots user fresh) wants handles new.slots
  pub zeros : (i : ℕ) (want : Want) (h : Handle) → slice_get wants i ≡ Some want → slice_get handles i ≡ Some h
      → bytes_at new h.slot ≡ replicate want.size 0
  pub kept : KeepsBut old new (map (λ h. h.slot) handles)

-- ---- blocks

-- the handle's block, which is there, is changed so
pub record Changes (old : Memory) (h : Handle) (change : Block → Block) (new : Memory) : Type 0 where
  pub block : Block
  pub was : get old.slots h ≡ Some block
  pub there : IsSome block.at
  pub slots : new.slots ≡ with_value old.slots h (change block)
  pub kept : KeepsBut old new []

-- the handle is released
pub record IsFreed (old : Memory) (h : Handle) (new : Memory) : Type 0 where
  pub was : IsSome (get old.slots h)
  pub slots : new.slots ≡ after_release old.slots h
  pub kept : KeepsBut old new []

-- the bytes that are borrowed are those of the handle's block, which is there
pub record IsBorrowed (memory : Memory) (h : Handle) (bytes : List ℕ) : Type 0 where
  pub live : IsSomeAnd (get memory.slots h) (λ block. IsSome block.at)
  pub is : bytes ≡ bytes_at memory h.slot

-- the user's purgeable blocks are emptied, and this is their number
pub record IsPurged (old : Memory) (user count : ℕ) (new : Memory) : Type 0 where
  pub slots : new.slots ≡ map (emptied_where (can_purge_of user)) old.slots
  pub counted : count ≡ count_by (λ slot. option_map_or (can_purge_of user) (block_in slot) false) old.slots
  pub kept : KeepsBut old new []
