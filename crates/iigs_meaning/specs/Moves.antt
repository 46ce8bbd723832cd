-- Single blocks that are listed in order of address, purged and moved. These are this project's own rules.
use Rattle.std.specs.Prelude.{◌≡◌, ℕ, Bool, true, false, ◌<◌, ◌≤◌, nat_lt, List, [], count_by, None, Some, IsSome, IsSomeAnd, is_some}
use Rattle.std.specs.Option.{option_map_or}
use Rattle.iigs_meaning.specs.declared.handles.Handle.{Handle}
use Rattle.iigs_meaning.specs.declared.slots.Slot.{Slot}
use Rattle.iigs_meaning.specs.declared.wants.Block.{Block}
use Rattle.iigs_meaning.specs.declared.faults.EmptyFault.{EmptyFault}
use Rattle.iigs_meaning.specs.declared.faults.EmptyFault.TheVariants as empty
use Rattle.iigs_meaning.specs.declared.faults.ShiftFault.{ShiftFault}
use Rattle.iigs_meaning.specs.declared.faults.ShiftFault.TheVariants as shift
use Rattle.iigs_meaning.specs.Slots.{get, with_value}
use Rattle.iigs_meaning.specs.Fits.{Slots, Fits}
use Rattle.iigs_meaning.specs.Placement.{can_purge}
use Rattle.iigs_meaning.specs.Blocks.{address_in}
use Rattle.iigs_meaning.specs.Memory.{Memory, KeepsBut}
use Rattle.iigs_meaning.specs.Slide.{Slides}

-- ---- blocks in order of address

-- how many blocks are there
abbrev pub count_there : Slots → ℕ
count_there slots = count_by (λ slot. is_some (address_in slot)) slots

-- a block is there in the slot, below an address
abbrev pub lies_below : ℕ → Slot Block → Bool
lies_below address slot = option_map_or (λ at. nat_lt at address) (address_in slot) false

-- the handle's block is there, and `place` others lie below it
pub record IsNth (slots : Slots) (place : ℕ) (h : Handle) : Type 0 where
  pub address : ℕ
  pub there : IsSomeAnd (get slots h) (λ block. block.at ≡ Some address)
  pub below : count_by (lies_below address) slots ≡ place

-- ---- purge of one block

-- the handle's block, which is purgeable, is emptied
pub record Empties (slots : Slots) (h : Handle) (next : Slots) : Type 0 where
  pub block : Block
  pub was : get slots h ≡ Some block
  pub can : can_purge block ≡ true
  pub next_is : next ≡ with_value slots h (record block { at = None })

-- so it is in memory, and the other blocks keep their bytes
pub record IsEmptied (old : Memory) (h : Handle) (new : Memory) : Type 0 where
  pub empties : Empties old.slots h new.slots
  pub kept : KeepsBut old new []

-- why it isn't: the handle isn't live; its block was purged; and else it is locked or has level 0
abbrev pub IsEmptyRefusal : Slots → Handle → EmptyFault → Type 0
IsEmptyRefusal slots h empty.Stale = get slots h ≡ None
IsEmptyRefusal slots h empty.Empty = IsSomeAnd (get slots h) (λ block. block.at ≡ None)
IsEmptyRefusal slots h empty.NotPurgeable = IsSomeAnd (get slots h) (λ block. IsSome block.at × (can_purge block ≡ false))

-- ---- one block moved

-- the slots without the handle's block, whose handle stays
abbrev pub without_block : Slots → Handle → Block → Slots
without_block slots h block = with_value slots h (record block { at = None })

-- the handle's block, which isn't locked, is moved to an address not above its own at which its kept want fits beside the other
-- blocks
pub record Shifts (banks : List ℕ) (slots : Slots) (h : Handle) (to : ℕ) (next : Slots) : Type 0 where
  pub block : Block
  pub was : get slots h ≡ Some block
  pub unlocked : block.locked ≡ false
  pub lower : IsSomeAnd block.at (λ at. to ≤ at)
  pub fits : Fits banks (without_block slots h block) block.want to
  pub next_is : next ≡ with_value slots h (record block { at = Some to })

-- so it is in memory, and each block keeps its bytes, that one too
pub record IsShifted (old : Memory) (h : Handle) (to : ℕ) (new : Memory) : Type 0 where
  pub shifts : Shifts old.banks old.slots h to new.slots
  pub kept : KeepsBut old new []

-- why it isn't: the handle isn't live; its block was purged; it is locked; the address is above its own; and else its kept want
-- doesn't fit there beside the other blocks
abbrev pub IsShiftRefusal : List ℕ → Slots → Handle → ℕ → ShiftFault → Type 0
IsShiftRefusal banks slots h to shift.Stale = get slots h ≡ None
IsShiftRefusal banks slots h to shift.Empty = IsSomeAnd (get slots h) (λ block. block.at ≡ None)
IsShiftRefusal banks slots h to shift.Locked = IsSomeAnd (get slots h) (λ block. IsSome block.at × (block.locked ≡ true))
IsShiftRefusal banks slots h to shift.Higher = IsSomeAnd (get slots h) (λ block. (block.locked ≡ false) × IsSomeAnd block.at (λ at. at < to))
IsShiftRefusal banks slots h to shift.NoFit = IsSomeAnd (get slots h) (λ block.
    (block.locked ≡ false) × IsSomeAnd block.at (λ at. to ≤ at) × ¬ Fits banks (without_block slots h block) block.want to)

-- ---- all movable blocks

-- the movable blocks are slid down, and each block keeps its bytes
pub record IsSlid (old new : Memory) : Type 0 where
  pub slides : Slides old.banks old.slots new.slots
  pub kept : KeepsBut old new []
