-- What memory ends as, where a block's bytes are borrowed to be written.
use Rattle.std.specs.Prelude.{ℕ, ◌+◌, ◌-◌, ◌&&◌, nat_le, nat_lt, List, map, length, slice_index, if◌then◌else◌, unwrap_or}
use Rattle.std.specs.List.{range_with_len, zip}
use Rattle.std.specs.Borrow.{Lends, Fml, MutBor, Array, u8}
use Rattle.iigs_meaning.specs.declared.handles.Handle.{Handle}
use Rattle.iigs_meaning.specs.declared.slots.Slot.{Slot}
use Rattle.iigs_meaning.specs.declared.wants.Block.{Block}
use Rattle.iigs_meaning.specs.Slots.{slot_at}
use Rattle.iigs_meaning.specs.Blocks.{address_in}
use Rattle.iigs_meaning.specs.Memory.{Memory}
use Rattle.iigs_places.specs.Offsets.{offset_of}
use Rattle.iigs_memory.specs.contracts.banks.Banks.{the_row}

-- where the block in a slot begins in the buffer
abbrev pub start_of : List ℕ → Slot Block → ℕ
start_of banks slot = offset_of banks (unwrap_or (address_in slot) 0)

-- these bytes, which begin at a place, with others written over them that begin at another place
abbrev pub written_over : ℕ → List ℕ → ℕ → List ℕ → List ℕ
written_over start bytes other written = map
    (λ i. if nat_le other (start + i) && nat_lt (start + i) (other + length written)
    then slice_index written (start + i - other) else slice_index bytes i)
    (range_with_len 0 (length bytes))

-- the memory with these bytes written from the start of the handle's block on, however many they are
abbrev pub with_bytes_written : Memory → Handle → List ℕ → Memory
with_bytes_written memory h written = record memory {
  bytes = map
      (λ pair. written_over (start_of memory.banks pair.0) pair.1 (start_of memory.banks (slot_at memory.slots h.slot)) written)
      (zip memory.slots memory.bytes);
}

-- the memory ends with what was written through r last
abbrev pub lends_block : MutBor Memory → Handle → MutBor (List ℕ) → Fml
lends_block memory h r = Lends the_row (Array u8 0) memory r (with_bytes_written memory.now h)
