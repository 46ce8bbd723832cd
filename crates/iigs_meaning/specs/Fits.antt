-- Where a want fits.
use Rattle.std.specs.Prelude.{◌≡◌, ◌⊎◌, ℕ, ◌+◌, ◌%◌, ◌<◌, ◌≤◌, false, List, All, Option, IfSome, IsSomeAnd, IsTrue}
use Rattle.iigs_meaning.specs.declared.slots.Slot.{Slot}
use Rattle.iigs_meaning.specs.declared.wants.Want.{Want}
use Rattle.iigs_meaning.specs.declared.wants.Block.{Block}
use Rattle.iigs_meaning.specs.Slots.{used_value}
use Rattle.iigs_meaning.specs.Free.{bank_of, low_of, is_special, IsFree}

-- the slots of a table of blocks
abbrev pub Slots : Type 0
Slots = List (Slot Block)

-- a want has a byte at least, and aligns to a byte, a page or a bank
pub record IsWant (want : Want) : Type 0 where
  pub some : 0 < want.size
  pub align : (want.align ≡ 1) ⊎ (want.align ≡ 0x100) ⊎ (want.align ≡ 0x10000)

-- the block in a slot, whether it is there or was purged
abbrev pub block_in : Slot Block → Option Block
block_in slot = used_value slot.content

-- the byte at this address lies in the slot's block
abbrev pub HoldsByte : ℕ → Slot Block → Type 0
HoldsByte address slot = IsSomeAnd (block_in slot) (λ block. IsSomeAnd block.at (λ first.
    (first ≤ address) × (address < first + block.want.size)))

-- none of the `size` bytes from an address on is a byte of the slot's block
abbrev pub IsApart : ℕ → ℕ → Slot Block → Type 0
IsApart address size slot = (i : ℕ) → address ≤ i → i < address + size → ¬ HoldsByte i slot

-- A want fits at an address where each of its bytes lies in free memory of configured banks and in no block; where no
-- border of banks lies inside if crossing is forbidden; where the address is a multiple of the alignment, is the fixed
-- one if there is one, and has the fixed low part if there is one; where all bytes lie in the fixed bank if there is
-- one; and where no byte is special if that is forbidden.
pub record Fits (banks : List ℕ) (slots : Slots) (want : Want) (address : ℕ) : Type 0 where
  pub free : (i : ℕ) → address ≤ i → i < address + want.size → IsFree banks i
  pub apart : All (IsApart address want.size) slots
  pub crossing : IsTrue want.no_cross → (i : ℕ) → address ≤ i → i < address + want.size → bank_of i ≡ bank_of address
  pub aligned : address % want.align ≡ 0
  pub fixed : IfSome want.at (λ at. address ≡ at)
  pub bank : IfSome want.bank (λ bank. (i : ℕ) → address ≤ i → i < address + want.size → bank_of i ≡ bank)
  pub low : IfSome want.low (λ low. low_of address ≡ low)
  pub special : IsTrue want.no_special → (i : ℕ) → address ≤ i → i < address + want.size → is_special (bank_of i) ≡ false
