use Rattle.std.proofs.Common.{◌≡◌, ◌≤◌, ◌-◌, length, drop, Some}
use Rattle.macro_meaning.specs.Pieces.{joined_texts}
use Rattle.macro_meaning.specs.laws.Steps.{appended_texts}
use Rattle.orca_symbols.proofs.operands.join_quoted.Given as goal

abbrev pub invariant-pieces : goal.invariant-pieces
invariant-pieces l = (appended_texts (Some l.out.items) (joined_texts (drop l.at l.pieces)) ≡ joined_texts l.pieces) × (l.at ≤ length l.pieces)

abbrev pub decreases-pieces : goal.decreases-pieces
decreases-pieces l = length l.pieces - l.at
