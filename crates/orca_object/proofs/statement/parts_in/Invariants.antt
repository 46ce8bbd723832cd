use Rattle.std.proofs.Common.{map, length}
use Rattle.asm_meaning.specs.Elements.{IsElementAt, element_pieces}
use Rattle.orca_operands.specs.GivenView.{part_pieces}
use Rattle.orca_operands.specs.NamesView.{constants}
use Rattle.orca_operands.proofs.Gathering.{Gathers}
use Rattle.orca_object.proofs.statement.parts_in.Given as goal

abbrev pub invariant-elements : goal.invariant-elements
invariant-elements l = Gathers IsElementAt (element_pieces (constants l.known) l.msb) l.text.bytes.now l.fault (map part_pieces l.out.items) l.left

abbrev pub decreases-elements : goal.decreases-elements
decreases-elements l = length l.left
