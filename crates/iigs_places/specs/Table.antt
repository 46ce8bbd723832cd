-- What a placement makes of the slots. No public clause cites this module.
use Rattle.std.specs.Prelude.{◌≡◌, ℕ, Bool, false, List, Some, None}
use Rattle.iigs_meaning.specs.declared.handles.Handle.{Handle}
use Rattle.iigs_meaning.specs.declared.slots.Slot.{Slot}
use Rattle.iigs_meaning.specs.declared.wants.Want.{Want}
use Rattle.iigs_meaning.specs.declared.wants.Block.{Block}
use Rattle.iigs_meaning.specs.Slots.{new_handle, after_take, get, with_value}
use Rattle.iigs_meaning.specs.Placement.{slots_after_purges, GoesTo}
use Rattle.iigs_meaning.specs.Puts.{placed_block}
use Rattle.iigs_places.specs.declared.table.PlacedBlock.{PlacedBlock}

-- a new handle has the block where the want goes
pub record IsPut (banks : List ℕ) (old : List (Slot Block)) (want : Want) (user : ℕ) (locked : Bool) (level : ℕ) (movable : Bool) (put : PlacedBlock) (new : List (Slot Block)) : Type 0 where
  pub count : ℕ
  pub goes : GoesTo banks old want count put.at
  pub handle : new_handle old ≡ Some put.handle
  pub slots : new ≡ after_take (slots_after_purges old count) (placed_block want put.at user locked level movable)

-- the handle's empty block is where the want goes
pub record IsReput (banks : List ℕ) (old : List (Slot Block)) (h : Handle) (want : Want) (address : ℕ) (new : List (Slot Block)) : Type 0 where
  pub block : Block
  pub was : get old h ≡ Some block
  pub empty : block.at ≡ None
  pub count : ℕ
  pub goes : GoesTo banks old want count address
  pub slots : new ≡ with_value (slots_after_purges old count) h (placed_block want address block.user block.locked block.level false)
