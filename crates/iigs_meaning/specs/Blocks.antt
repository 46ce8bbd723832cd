-- Slots with blocks: where these lie, and why a call on one refuses. These are this project's own rules.
use Rattle.std.specs.Prelude.{◌≡◌, ℕ, Bool, ◌==◌, ◌&&◌, List, replicate, Option, None, IsSomeAnd}
use Rattle.std.specs.Option.{option_and_then}
use Rattle.iigs_meaning.specs.declared.handles.Handle.{Handle}
use Rattle.iigs_meaning.specs.declared.slots.Slot.{Slot}
use Rattle.iigs_meaning.specs.declared.wants.Block.{Block}
use Rattle.iigs_meaning.specs.declared.wants.BlockState.{BlockState}
use Rattle.iigs_meaning.specs.declared.faults.BlockFault.{BlockFault}
use Rattle.iigs_meaning.specs.declared.faults.BlockFault.TheVariants.{Stale, Empty}
use Rattle.iigs_meaning.specs.Slots.{slot_at, new_slot, get}
use Rattle.iigs_meaning.specs.Free.{IsFree}
use Rattle.iigs_meaning.specs.Fits.{Slots, block_in, HoldsByte}
use Rattle.iigs_meaning.specs.Placement.{can_purge}

-- the 4,096 slots of a table that holds no block yet
unfoldable pub new_slots : Slots
new_slots = replicate 4096 new_slot

-- where the block in a slot lies, if one is there
abbrev pub address_in : Slot Block → Option ℕ
address_in slot = option_and_then (λ block. block.at) (block_in slot)

-- no two blocks share a byte, and each byte of a block is free memory of a configured bank
pub record AreApart (banks : List ℕ) (slots : Slots) : Type 0 where
  pub inside : (place address : ℕ) → HoldsByte address (slot_at slots place) → IsFree banks address
  pub apart : (place other address : ℕ) → HoldsByte address (slot_at slots place)
      → HoldsByte address (slot_at slots other) → place ≡ other

-- why a call on a block refuses: the handle isn't live, and else its block was purged
abbrev pub IsBlockRefusal : Slots → Handle → BlockFault → Type 0
IsBlockRefusal slots h Stale = get slots h ≡ None
IsBlockRefusal slots h Empty = IsSomeAnd (get slots h) (λ block. block.at ≡ None)

-- why a call on a handle refuses: the handle isn't live
abbrev pub IsStale : Slots → Handle → BlockFault → Type 0
IsStale slots h Stale = get slots h ≡ None
IsStale slots h Empty = ⊥

-- what is reported for a block
abbrev pub state_of : Block → BlockState
state_of block = record { at = block.at; size = block.want.size; user = block.user; level = block.level; locked = block.locked }

-- the block is purgeable and the user's
abbrev pub can_purge_of : ℕ → Block → Bool
can_purge_of user block = can_purge block && block.user == user
