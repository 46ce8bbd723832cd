use Rattle.std.proofs.Common.{drop}
use Rattle.orca_operands.specs.PutView.{parts_size}
use Rattle.orca_operands.proofs.Sizes.{SumLeft}
use Rattle.orca_operands.proofs.encoding.parts_cells.Given as goal

abbrev pub invariant-parts : goal.invariant-parts
invariant-parts l = SumLeft l.total (parts_size (drop l.part-index l.parts)) (parts_size l.parts)
