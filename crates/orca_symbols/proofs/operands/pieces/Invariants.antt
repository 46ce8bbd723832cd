use Rattle.std.proofs.Common.{◌≡◌, ◌≤◌, ◌++◌, length}
use Rattle.macro_meaning.specs.Pieces.{pieces}
use Rattle.orca_symbols.proofs.operands.pieces.Given as goal

abbrev pub invariant-pieces : goal.invariant-pieces
invariant-pieces l = (l.found.items ++ pieces l.separator l.left ≡ pieces l.separator l.text.bytes.now) × (length l.left ≤ length l.text.bytes.now)

abbrev pub decreases-pieces : goal.decreases-pieces
decreases-pieces l = length l.left
