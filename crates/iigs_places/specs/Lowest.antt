-- The lowest block from an address on.
use Rattle.std.specs.Prelude.{◌≡◌, ℕ, ◌≤◌, Some, IsSomeAnd}
use Rattle.iigs_meaning.specs.Slots.{slot_at, get}
use Rattle.iigs_meaning.specs.Fits.{Slots}
use Rattle.iigs_meaning.specs.Blocks.{address_in}
use Rattle.iigs_places.specs.declared.table.PlacedBlock.{PlacedBlock}

-- the handle's block is at the address, and no other is below it from the given address on
pub record IsFirstPut (slots : Slots) (address : ℕ) (put : PlacedBlock) : Type 0 where
  pub there : IsSomeAnd (get slots put.handle) (λ block. block.at ≡ Some put.at)
  pub from : address ≤ put.at
  pub least : (place at : ℕ) → address_in (slot_at slots place) ≡ Some at → address ≤ at → put.at ≤ at
