-- Several blocks that are placed in order. No public clause cites this module.
use Rattle.std.specs.Prelude.{◌≡◌, ◌≢◌, ◌⊎◌, ℕ, true, false, List, [], ◌∷◌, map, length, All, Some, None}
use Rattle.iigs_meaning.specs.declared.handles.Handle.{Handle}
use Rattle.iigs_meaning.specs.declared.slots.Slot.{Slot}
use Rattle.iigs_meaning.specs.declared.wants.Want.{Want}
use Rattle.iigs_meaning.specs.declared.wants.Block.{Block}
use Rattle.iigs_meaning.specs.Slots.{slot_at}
use Rattle.iigs_meaning.specs.Fits.{block_in}
use Rattle.iigs_meaning.specs.Puts.{Purges, placed_block, PutsAll}
use Rattle.iigs_meaning.specs.Blocks.{AreApart}
use Rattle.iigs_places.specs.Spots.{IsBoundedSlot}
use Rattle.iigs_places.specs.Extent.{extent}
use Rattle.iigs_places.specs.declared.table.PlacedBlock.{PlacedBlock}

abbrev pub handle_of : PlacedBlock → Handle
handle_of put = put.handle

-- the block of each want is where it was put, locked with level 0
abbrev pub BlocksAre : ℕ → List (Slot Block) → List Want → List PlacedBlock → Type 0
BlocksAre user slots [] [] = Unit {0}
BlocksAre user slots [] (put ∷ puts) = ⊥
BlocksAre user slots (want ∷ wants) [] = ⊥
BlocksAre user slots (want ∷ wants) (put ∷ puts) = (block_in (slot_at slots put.handle.slot) ≡ Some (placed_block want put.at user true 0 false)) × BlocksAre user slots wants puts

-- none of them is in this slot
abbrev pub NotAmong : List PlacedBlock → ℕ → Type 0
NotAmong [] place = Unit {0}
NotAmong (put ∷ puts) place = (place ≢ put.handle.slot) × NotAmong puts place

-- these wants were placed in order
pub record AllPut (banks : List ℕ) (user : ℕ) (start : List (Slot Block)) (wants : List Want) (puts : List PlacedBlock) (now : List (Slot Block)) : Type 0 where
  pub places : PutsAll Purges banks user start wants (map handle_of puts) now
  pub bounded : All IsBoundedSlot now
  pub sound : AreApart banks now
  pub len : length now ≡ length start
  pub blocks : BlocksAre user now wants puts
  pub others : (place : ℕ) → NotAmong puts place → (extent (slot_at now place) ≡ None) ⊎ (extent (slot_at now place) ≡ extent (slot_at start place))
