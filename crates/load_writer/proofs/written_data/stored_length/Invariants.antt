use Rattle.std.proofs.Common.{◌≡◌, ◌≤◌, ◌<◌, ℕ, Some, length}
use Rattle.std.specs.Prelude.{slice_get}
use Rattle.load_writer.proofs.written_data.stored_length.Given as goal

-- the bytes from here on are 0
abbrev pub invariant-zeros : goal.invariant-zeros
invariant-zeros l = record {
  within : l.kept ≤ length l.content;
  end' : l.end ≤ l.kept;
  zeros : (k : ℕ) → l.kept ≤ k → k < length l.content → slice_get l.content k ≡ Some 0;
}

abbrev pub decreases-zeros : goal.decreases-zeros
decreases-zeros l = l.kept
