-- Which blocks are purged for a want, and where it goes.
use Rattle.std.specs.Prelude.{◌≡◌, ℕ, Bool, false, ◌==◌, ◌&&◌, ◌||◌, not, nat_lt, ◌<◌, ◌≤◌, List, map, count_by, None, is_some, unwrap_or, if◌then◌else◌}
use Rattle.std.specs.Option.{option_map_or}
use Rattle.iigs_meaning.specs.declared.slots.Slot.{Slot}
use Rattle.iigs_meaning.specs.declared.slots.SlotContent.TheVariants.{Used}
use Rattle.iigs_meaning.specs.declared.wants.Want.{Want}
use Rattle.iigs_meaning.specs.declared.wants.Block.{Block}
use Rattle.iigs_meaning.specs.Fits.{Slots, Fits, block_in}

-- a block that is there is purgeable where it isn't locked and its level isn't 0
unfoldable pub can_purge : Block → Bool
can_purge block = is_some block.at && not block.locked && not (block.level == 0)

-- in purge order the highest level is first, then the lowest address
unfoldable pub goes_before : Block → Block → Bool
goes_before one other = nat_lt other.level one.level
    || (one.level == other.level && nat_lt (unwrap_or one.at 0) (unwrap_or other.at 0))

-- how many purgeable blocks go before this one
unfoldable pub rank : Slots → Block → ℕ
rank slots block = count_by (λ slot. option_map_or (λ one. can_purge one && goes_before one block) (block_in slot) false) slots

-- how many blocks may be purged
abbrev pub count_purgeable : Slots → ℕ
count_purgeable slots = count_by (λ slot. option_map_or can_purge (block_in slot) false) slots

-- the block is one of the first `count` purgeable ones
unfoldable pub is_gone : Slots → ℕ → Block → Bool
is_gone slots count block = can_purge block && nat_lt (rank slots block) count

-- the slot with its block emptied where that passes the test; an empty block keeps all but its place
abbrev pub emptied_where : (Block → Bool) → Slot Block → Slot Block
emptied_where test slot = option_map_or
    (λ block. if test block then (record { generation = slot.generation; content = Used (record block { at = None }) }) else slot)
    (block_in slot) slot

-- the slots with the first `count` purgeable blocks emptied
unfoldable pub slots_after_purges : Slots → ℕ → Slots
slots_after_purges slots count = map (emptied_where (is_gone slots count)) slots

-- the want goes to the least address that fits once the first `count` purgeable blocks are emptied, for the least `count` with which any
-- address fits
pub record GoesTo (banks : List ℕ) (slots : Slots) (want : Want) (count address : ℕ) : Type 0 where
  pub fits : Fits banks (slots_after_purges slots count) want address
  pub least : (other : ℕ) → Fits banks (slots_after_purges slots count) want other → address ≤ other
  pub fewest : (fewer : ℕ) → fewer < count → (other : ℕ) → ¬ Fits banks (slots_after_purges slots fewer) want other

-- a want goes to one address only, once one number of blocks is emptied
abbrev pub GoesToOneAddress : Type 0
GoesToOneAddress = (banks : List ℕ) (slots : Slots) (want : Want) (count other_count address other : ℕ)
    → GoesTo banks slots want count address → GoesTo banks slots want other_count other
    → (count ≡ other_count) × (address ≡ other)

-- the want fits nowhere, whatever is purged
abbrev pub HasNoRoom : List ℕ → Slots → Want → Type 0
HasNoRoom banks slots want = (count address : ℕ) → ¬ Fits banks (slots_after_purges slots count) want address
