-- How the bytes of blocks lie in one buffer. No public clause cites this module.
use Rattle.std.specs.Prelude.{◌≡◌, ℕ, ◌+◌, ◌≤◌, Bool, true, List, [], map, take, drop, length, IsSome, IsSomeAnd, slice_index}
use Rattle.std.specs.Option.{option_map_or}
use Rattle.iigs_meaning.specs.declared.slots.Slot.{Slot}
use Rattle.iigs_meaning.specs.declared.wants.Block.{Block}
use Rattle.iigs_meaning.specs.declared.handles.Handle.{Handle}
use Rattle.iigs_meaning.specs.Slots.{get, slot_at}
use Rattle.iigs_memory.specs.declared.part.BlockPart.{BlockPart}
use Rattle.iigs_meaning.specs.Fits.{block_in}
use Rattle.iigs_meaning.specs.Memory.{Memory}
use Rattle.iigs_places.specs.Offsets.{offset_of, bytes_below}
use Rattle.iigs_places.specs.Extent.{extent}

-- the bytes of a block, if it is there
abbrev pub bytes_of : List ℕ → List ℕ → Block → List ℕ
bytes_of banks buffer block = option_map_or (λ at. take block.want.size (drop (offset_of banks at) buffer)) block.at []

abbrev pub bytes_in : List ℕ → List ℕ → Slot Block → List ℕ
bytes_in banks buffer slot = option_map_or (bytes_of banks buffer) (block_in slot) []

-- where the buffer is blank its bytes are zeros
abbrev pub IsBlank : Bool → List ℕ → Type 0
IsBlank blank buffer = blank ≡ true → (i : ℕ) → slice_index buffer i ≡ 0

-- the memory that slots and a buffer represent
abbrev pub memory_of : List ℕ → List (Slot Block) → List ℕ → Memory
memory_of banks slots buffer = record { banks = banks; slots = slots; bytes = map (bytes_in banks buffer) slots }

-- the buffer has the bytes of the banks, and scratch space has room for all blocks
pub record IsStore (banks buffer : List ℕ) (made : ℕ) : Type 0 where
  pub room : bytes_below banks 256 ≤ length buffer
  pub made_room : 4096 ≤ made

-- the part of the buffer that a live handle's block has, which is there
pub record IsPart (memory : Memory) (h : Handle) (part : BlockPart) : Type 0 where
  pub live : IsSomeAnd (get memory.slots h) (λ block. IsSome block.at)
  pub extent_is : IsSomeAnd (extent (slot_at memory.slots h.slot)) (λ e.
      (part.start ≡ offset_of memory.banks e.0) × (part.end ≡ part.start + e.1))
