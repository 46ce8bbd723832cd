-- A slide that is carried out block by block. No public clause cites this module.
use Rattle.std.specs.Prelude.{◌≡◌, ◌≢◌, ℕ, false, ◌<◌, ◌≤◌, List, length, Some, None}
use Rattle.iigs_meaning.specs.declared.handles.Handle.{Handle}
use Rattle.iigs_meaning.specs.declared.wants.Block.{Block}
use Rattle.iigs_meaning.specs.Slots.{slot_at, get}
use Rattle.iigs_meaning.specs.Fits.{Slots, Fits}
use Rattle.iigs_meaning.specs.Moves.{without_block}
use Rattle.iigs_meaning.specs.Slide.{movable_block, place_of, holding, moved_to}

-- the handle's block is at an address, and the plan has it where it can be moved to
pub record CanCarry (banks : List ℕ) (slots plan : Slots) (h : Handle) (at : ℕ) : Type 0 where
  pub block : Block
  pub was : get slots h ≡ Some block
  pub there : block.at ≡ Some at
  pub to : ℕ
  pub planned : slot_at plan h.slot ≡ holding (slot_at slots h.slot) (moved_to to block)
  pub goes : to ≢ at → (block.locked ≡ false) × (to ≤ at) × Fits banks (without_block slots h block) block.want to

-- the blocks that move and lay below an address are where the plan has them, and all else is as it was
pub record AreCarried (old plan now : Slots) (limit : ℕ) : Type 0 where
  pub len : length now ≡ length old
  pub stay : (place : ℕ) → movable_block (slot_at old place) ≡ None → slot_at now place ≡ slot_at old place
  pub wait : (place : ℕ) (block : Block) → movable_block (slot_at old place) ≡ Some block → limit ≤ place_of block → slot_at now place ≡ slot_at old place
  pub done : (place : ℕ) (block : Block) → movable_block (slot_at old place) ≡ Some block → place_of block < limit → slot_at now place ≡ slot_at plan place
