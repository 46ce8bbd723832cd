use Rattle.std.proofs.Common.{ℕ, ◌<◌, ◌≤◌}
use Rattle.iigs_meaning.specs.Free.{bank_of}
use Rattle.iigs_places.specs.Open.{Allows}
use Rattle.iigs_places.proofs.open.next_clear_address.Given as goal

-- the bytes in the banks so far may belong to the block
abbrev pub invariant-loop-bank : goal.invariant-loop-bank
invariant-loop-bank l = (i : ℕ) → l.at ≤ i → i < l.end → bank_of i < l.bank → Allows l.map l.want i
