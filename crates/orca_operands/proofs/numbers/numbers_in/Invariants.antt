use Rattle.std.proofs.Common.{map, length}
use Rattle.asm_meaning.specs.Elements.{piece_of_number}
use Rattle.orca_operands.specs.NamesView.{constants}
use Rattle.orca_operands.specs.PieceView.{piece}
use Rattle.orca_operands.proofs.Gathering.{Gathers}
use Rattle.orca_operands.proofs.Judging.{FormulaStands}
use Rattle.orca_operands.proofs.numbers.numbers_in.Given as goal

abbrev pub invariant-formulas : goal.invariant-formulas
invariant-formulas l = Gathers FormulaStands (piece_of_number (constants l.known) l.width) l.text.bytes.now l.fault (map piece l.out.items) l.left

abbrev pub decreases-formulas : goal.decreases-formulas
decreases-formulas l = length l.left
