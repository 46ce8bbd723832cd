use Rattle.std.proofs.Common.{◌≡◌, take, length}
use Rattle.iigs_memory.specs.Cleared.{with_zeroed_blocks}
use Rattle.iigs_memory.specs.Store.{IsBlank}
use Rattle.iigs_memory.proofs.placed.clear_all.Given as goal

-- the bytes of the blocks so far are zeros
abbrev pub invariant-loop-place : goal.invariant-loop-place
invariant-loop-place l = (l.bytes.items ≡ with_zeroed_blocks l.places.banks (take l.place l.wants) (take l.place l.made) l.initial.bytes.items)
    × (length l.bytes.items ≡ length l.initial.bytes.items)
    × IsBlank l.blank l.bytes.items
