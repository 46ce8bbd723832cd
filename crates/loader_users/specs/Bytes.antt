-- Memory in which the bytes of one block are others.
use Rattle.std.specs.Prelude.{ℕ, List, slice_set}
use Rattle.iigs_meaning.specs.Memory.{Memory}

-- memory with other bytes of one block
abbrev pub with_bytes : Memory → ℕ → List ℕ → Memory
with_bytes memory slot w = record { banks = memory.banks; slots = memory.slots; bytes = slice_set memory.bytes slot w }
