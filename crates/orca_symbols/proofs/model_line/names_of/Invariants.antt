use Rattle.std.proofs.Common.{◌≡◌, ◌≤◌, ◌-◌, length, drop}
use Rattle.macro_meaning.specs.Definition.{names_of}
use Rattle.orca_symbols.proofs.Models.{with_names}
use Rattle.orca_symbols.proofs.model_line.names_of.Given as goal

abbrev pub invariant-pieces : goal.invariant-pieces
invariant-pieces l = (with_names l.names.items (names_of (drop l.at l.pieces)) ≡ names_of l.pieces) × (l.at ≤ length l.pieces)

abbrev pub decreases-pieces : goal.decreases-pieces
decreases-pieces l = length l.pieces - l.at
