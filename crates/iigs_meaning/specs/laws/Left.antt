-- What a rule of room leaves of each slot.
use Rattle.std.specs.Prelude.{◌≡◌, ℕ, true, length, Some, None}
use Rattle.iigs_meaning.specs.declared.slots.Slot.{Slot}
use Rattle.iigs_meaning.specs.declared.wants.Block.{Block}
use Rattle.iigs_meaning.specs.Slots.{slot_at}
use Rattle.iigs_meaning.specs.Fits.{Slots, block_in}
use Rattle.iigs_meaning.specs.Placement.{can_purge}
use Rattle.iigs_meaning.specs.Slide.{can_move, holding, moved_to}

-- a slot is as it was; or its block was purgeable and is empty; or it can move, and lies at another address
pub data IsLeft (was : Slot Block) (now : Slot Block) : Type 0 where
  Unmoved : now ≡ was → IsLeft was now
  Emptied : (block : Block) → block_in was ≡ Some block → can_purge block ≡ true → now ≡ holding was (record block { at = None }) → IsLeft was now
  Shifted : (block : Block) → block_in was ≡ Some block → can_move block ≡ true → (address : ℕ) → now ≡ holding was (moved_to address block) → IsLeft was now

-- each slot is left so
pub record AreLeft (old room : Slots) : Type 0 where
  pub len : length room ≡ length old
  pub each : (place : ℕ) → IsLeft (slot_at old place) (slot_at room place)
