-- What memory ends as, where a block's bytes are borrowed to be written.
use Rattle.std.specs.Prelude.{List, ℕ}
use Rattle.std.specs.Borrow.{Lends, Fml, MutBor, Array, u8}
use Rattle.iigs_meaning.specs.declared.handles.Handle.{Handle}
use Rattle.iigs_meaning.specs.Memory.{Memory}
use Rattle.iigs_memory.specs.Overlay.{with_bytes_written}
use Rattle.iigs_compact_memory.specs.contracts.banks.CompactBanks.{the_row}

-- the memory ends with what was written through r last
abbrev pub lends_block : MutBor Memory → Handle → MutBor (List ℕ) → Fml
lends_block memory h r = Lends the_row (Array u8 0) memory r (with_bytes_written memory.now h)
