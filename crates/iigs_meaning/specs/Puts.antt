-- Blocks put where their wants go, over banks and slots alone. What makes room for a want is a parameter. These are this
-- project's own rules.
use Rattle.std.specs.Prelude.{◌≡◌, ◌↔◌, ℕ, Bool, true, false, ◌==◌, ◌<◌, ◌≤◌, List, [], ◌∷◌, map, take, length, count_by, Some, None, IsSome, IsSomeAnd, slice_get, if◌then◌else◌}
use Rattle.std.specs.Option.{option_map_or}
use Rattle.iigs_meaning.specs.declared.handles.Handle.{Handle}
use Rattle.iigs_meaning.specs.declared.slots.Slot.{Slot}
use Rattle.iigs_meaning.specs.declared.wants.Want.{Want}
use Rattle.iigs_meaning.specs.declared.wants.Block.{Block}
use Rattle.iigs_meaning.specs.declared.faults.PlaceFault.{PlaceFault}
use Rattle.iigs_meaning.specs.declared.faults.PlaceFault.TheVariants.{Stale, NotEmpty, NoHandle, NoRoom, Memory}
use Rattle.iigs_meaning.specs.Slots.{get, is_free, new_handle, after_take, with_value, released}
use Rattle.iigs_meaning.specs.Fits.{Slots, block_in}
use Rattle.iigs_meaning.specs.Placement.{slots_after_purges, GoesTo, HasNoRoom}

-- ---- room

-- a rule of room: among these banks and slots a want goes to an address, and these are the slots once room is made there
abbrev pub MakesRoom : Type 1
MakesRoom = List ℕ → Slots → Want → ℕ → Slots → Type 0

-- room is made by purges: the want goes to the address once the first `count` purgeable blocks are emptied
pub record Purges (banks : List ℕ) (slots : Slots) (want : Want) (address : ℕ) (room : Slots) : Type 0 where
  pub count : ℕ
  pub goes : GoesTo banks slots want count address
  pub room_is : room ≡ slots_after_purges slots count

-- there is no room for the want
abbrev pub LacksRoom : MakesRoom → List ℕ → Slots → Want → Type 0
LacksRoom Makes banks slots want = (address : ℕ) (room : Slots) → ¬ Makes banks slots want address room

-- by purges there is no room exactly where the want fits nowhere, whatever is purged
abbrev pub LacksRoomWhereNoneFits : Type 0
LacksRoomWhereNoneFits = (banks : List ℕ) (slots : Slots) (want : Want) → LacksRoom Purges banks slots want ↔ HasNoRoom banks slots want

-- room for a want is made in one way at most
pub record IsOnce (Makes : MakesRoom) : Type 0 where
  pub room : (banks : List ℕ) (slots : Slots) (want : Want) (address other : ℕ) (one two : Slots) → Makes banks slots want address one
      → Makes banks slots want other two → (address ≡ other) × (one ≡ two)

-- ---- one block

-- a block that was just placed
abbrev pub placed_block : Want → ℕ → ℕ → Bool → ℕ → Bool → Block
placed_block want address user locked level movable = record { at = Some address; want = want; user = user; level = level; locked = locked; movable = movable }

-- a new handle has the block, where there is room for its want
pub record Puts (Makes : MakesRoom) (banks : List ℕ) (slots : Slots) (want : Want) (user : ℕ) (locked : Bool) (level : ℕ) (movable : Bool) (h : Handle) (next : Slots) : Type 0 where
  pub address : ℕ
  pub room : Slots
  pub makes : Makes banks slots want address room
  pub handle : new_handle slots ≡ Some h
  pub next_is : next ≡ after_take room (placed_block want address user locked level movable)

-- the handle's empty block is put anew, where there is room for the want; it keeps its user, level and lock, and isn't movable
pub record PutsAnew (Makes : MakesRoom) (banks : List ℕ) (slots : Slots) (h : Handle) (want : Want) (next : Slots) : Type 0 where
  pub block : Block
  pub was : get slots h ≡ Some block
  pub empty : block.at ≡ None
  pub address : ℕ
  pub room : Slots
  pub makes : Makes banks slots want address room
  pub next_is : next ≡ with_value room h (placed_block want address block.user block.locked block.level false)

-- why no block is put: no slot is free, and else there is no room for the want
abbrev pub IsPlaceRefusal : MakesRoom → List ℕ → Slots → Want → PlaceFault → Type 0
IsPlaceRefusal Makes banks slots want Stale = ⊥
IsPlaceRefusal Makes banks slots want NotEmpty = ⊥
IsPlaceRefusal Makes banks slots want NoHandle = new_handle slots ≡ None
IsPlaceRefusal Makes banks slots want (NoRoom i) = (i ≡ 0) × IsSome (new_handle slots) × LacksRoom Makes banks slots want
IsPlaceRefusal Makes banks slots want Memory = ⊥

-- why no block is put anew: the handle isn't live, its block is there, and else there is no room for the want
abbrev pub IsReplaceRefusal : MakesRoom → List ℕ → Slots → Handle → Want → PlaceFault → Type 0
IsReplaceRefusal Makes banks slots h want Stale = get slots h ≡ None
IsReplaceRefusal Makes banks slots h want NotEmpty = IsSomeAnd (get slots h) (λ block. IsSome block.at)
IsReplaceRefusal Makes banks slots h want NoHandle = ⊥
IsReplaceRefusal Makes banks slots h want (NoRoom i) = (i ≡ 0) × IsSomeAnd (get slots h) (λ block. block.at ≡ None) × LacksRoom Makes banks slots want
IsReplaceRefusal Makes banks slots h want Memory = ⊥

-- ---- several blocks

-- the slot once its handle was released if its block is the user's
abbrev pub without_user_in : ℕ → Slot Block → Slot Block
without_user_in user slot = option_map_or
    (λ block. if block.user == user then released slot.generation else slot) (block_in slot) slot

-- the slots once all handles of a user were released
abbrev pub without_user : Slots → ℕ → Slots
without_user slots user = map (without_user_in user) slots

-- the slots among which a list of wants is placed: with `fresh` the user's handles are released first
abbrev pub slots_for : Slots → ℕ → Bool → Slots
slots_for slots user fresh = if fresh then without_user slots user else slots

-- the wants are placed in order, locked with level 0, each under a new handle
abbrev pub PutsAll : MakesRoom → List ℕ → ℕ → Slots → List Want → List Handle → Slots → Type 0
PutsAll Makes banks user slots [] [] last = last ≡ slots
PutsAll Makes banks user slots [] (h ∷ hs) last = ⊥
PutsAll Makes banks user slots (want ∷ wants) [] last = ⊥
PutsAll Makes banks user slots (want ∷ wants) (h ∷ hs) last =
    (middle : Slots) × Puts Makes banks slots want user true 0 false h middle × PutsAll Makes banks user middle wants hs last

-- the wants before this one are placed, and there is no room for it then
pub record LacksRoomAt (Makes : MakesRoom) (banks : List ℕ) (user : ℕ) (slots : Slots) (wants : List Want) (i : ℕ) : Type 0 where
  pub want : Want
  pub is : slice_get wants i ≡ Some want
  pub handles : List Handle
  pub last : Slots
  pub before : PutsAll Makes banks user slots (take i wants) handles last
  pub none : LacksRoom Makes banks last want

-- why not all wants are placed: fewer slots are free than there are wants, and else there is no room for some want
abbrev pub IsPlaceAllRefusal : MakesRoom → List ℕ → ℕ → Slots → List Want → PlaceFault → Type 0
IsPlaceAllRefusal Makes banks user slots wants Stale = ⊥
IsPlaceAllRefusal Makes banks user slots wants NotEmpty = ⊥
IsPlaceAllRefusal Makes banks user slots wants NoHandle = count_by is_free slots < length wants
IsPlaceAllRefusal Makes banks user slots wants (NoRoom i) = (length wants ≤ count_by is_free slots) × LacksRoomAt Makes banks user slots wants i
IsPlaceAllRefusal Makes banks user slots wants Memory = ⊥
