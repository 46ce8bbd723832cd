use Rattle.std.proofs.Common.{◌≡◌, ℕ, ◌≤◌, List, ◌++◌, length, take}
use Rattle.load_content.specs.Content.{ArePieces}
use Rattle.load_content.proofs.FilledLists.{IsFilled}
use Rattle.load_content.proofs.filled.put_bytes.Given as goal

-- the pieces so far are filled in
abbrev pub invariant-pieces : goal.invariant-pieces
invariant-pieces l = (bytes : List ℕ) → ArePieces l.pieces bytes → l.size ≤ length bytes → IsFilled l.pieces l.piece-index l.size l.at × (l.out.items ≡ l.initial.out.items ++ take l.at bytes)
