-- The block that has a byte.
use Rattle.std.specs.Prelude.{◌≡◌, ℕ, ◌+◌, ◌<◌, ◌≤◌, IsSomeAnd}
use Rattle.iigs_meaning.specs.declared.handles.Handle.{Handle}
use Rattle.iigs_meaning.specs.Slots.{get}
use Rattle.iigs_meaning.specs.Fits.{Slots}

-- the handle's block is there, and has the byte at the address
abbrev pub Has : Slots → ℕ → Handle → Type 0
Has slots address h = IsSomeAnd (get slots h) (λ block. IsSomeAnd block.at (λ first. (first ≤ address) × (address < first + block.want.size)))

-- the handle of the one block that has the byte at the address
pub record IsHolder (slots : Slots) (address : ℕ) (h : Handle) : Type 0 where
  pub has : Has slots address h
  pub only : (k : Handle) → Has slots address k → k ≡ h
