-- One block after the other is slid down, in order of address. No public clause cites this module.
use Rattle.std.specs.Prelude.{◌≡◌, ℕ, true, false, ◌<◌, List, Some}
use Rattle.iigs_meaning.specs.declared.wants.Block.{Block}
use Rattle.iigs_meaning.specs.Slots.{slot_at}
use Rattle.iigs_meaning.specs.Fits.{Slots, block_in}
use Rattle.iigs_meaning.specs.Slide.{can_move}
use Rattle.iigs_meaning.specs.laws.SlideLaws.{SinksTo, with_moved}
use Rattle.iigs_places.specs.declared.spots.BlockSpot.{BlockSpot}
use Rattle.iigs_places.specs.Extent.{extent, Spans}
use Rattle.iigs_places.specs.Runs.{AreRuns, InRuns}

-- a block that begins before the address has the byte
pub record HasPassed (slots : Slots) (limit i : ℕ) : Type 0 where
  pub place : ℕ
  pub at : ℕ × ℕ
  pub is : extent (slot_at slots place) ≡ Some at
  pub before : at.0 < limit
  pub spans : Spans i at

-- the bytes of the runs are those of the blocks that begin before the address
pub record ArePassed (slots : Slots) (limit : ℕ) (runs : List BlockSpot) : Type 0 where
  pub are : AreRuns runs
  pub to : (i : ℕ) → HasPassed slots limit i → InRuns runs i
  pub from : (i : ℕ) → InRuns runs i → HasPassed slots limit i

-- the block in a slot, at an address, goes to the least one at which it fits beside all others, if it moves, and else stays
pub record Sinks (banks : List ℕ) (slots : Slots) (place address to : ℕ) (next : Slots) : Type 0 where
  pub block : Block
  pub is : block_in (slot_at slots place) ≡ Some block
  pub stays : can_move block ≡ false → (to ≡ address) × (next ≡ slots)
  pub sinks : can_move block ≡ true → SinksTo banks slots place block to × (next ≡ with_moved slots place block to)
