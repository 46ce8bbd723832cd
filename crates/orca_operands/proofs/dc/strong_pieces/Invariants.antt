use Rattle.std.proofs.Common.{◌≡◌, ◌++◌, map, drop}
use Rattle.asm_meaning.specs.laws.Steps.{strong_piece}
use Rattle.orca_operands.specs.PieceView.{piece}
use Rattle.orca_operands.proofs.dc.strong_pieces.Given as goal

abbrev pub invariant-names : goal.invariant-names
invariant-names l = map piece l.out.items ++ map strong_piece (drop l.name-index l.names) ≡ map strong_piece l.names
