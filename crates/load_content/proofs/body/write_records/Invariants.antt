use Rattle.std.proofs.Common.{◌≡◌, ℕ, List, length, take}
use Rattle.load_content.proofs.Walks.{Left}
use Rattle.load_content.proofs.body.write_records.Given as goal

-- the bytes so far were written
abbrev pub invariant-records : goal.invariant-records
invariant-records l = record {
  bytes : List ℕ;
  left : Left l.initial.records l.records bytes;
  size : l.at ≡ length bytes;
  written : take l.at l.out ≡ bytes;
}

abbrev pub decreases-records : goal.decreases-records
decreases-records l = length l.records.left
