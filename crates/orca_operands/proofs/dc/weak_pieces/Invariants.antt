use Rattle.std.proofs.Common.{◌≡◌, ◌++◌, map, drop}
use Rattle.std.specs.List.{AllByRecursion}
use Rattle.asm_meaning.specs.laws.Steps.{weak_piece}
use Rattle.asm_meaning.specs.laws.GivenLaws.{IsNameLength}
use Rattle.orca_operands.specs.PieceView.{piece}
use Rattle.orca_operands.proofs.dc.weak_pieces.Given as goal

abbrev pub invariant-names : goal.invariant-names
invariant-names l = (map piece l.out.items ++ map weak_piece (drop l.name-index l.names) ≡ map weak_piece l.names) × AllByRecursion IsNameLength (drop l.name-index l.names)
