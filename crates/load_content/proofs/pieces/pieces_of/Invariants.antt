use Rattle.std.proofs.Common.{◌≡◌, ℕ, List, length}
use Rattle.load_content.specs.Content.{ArePieces}
use Rattle.load_content.proofs.Walks.{Left}
use Rattle.load_content.proofs.pieces.pieces_of.Given as goal

-- the pieces so far are those of the bytes so far
abbrev pub invariant-records : goal.invariant-records
invariant-records l = record {
  so_far : List ℕ;
  left : Left l.initial.records l.records so_far;
  size : l.start ≡ length so_far;
  are : ArePieces l.pieces.items so_far;
}

abbrev pub decreases-records : goal.decreases-records
decreases-records l = length l.records.left
