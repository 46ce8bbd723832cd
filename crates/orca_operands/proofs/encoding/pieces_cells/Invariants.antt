use Rattle.std.proofs.Common.{drop}
use Rattle.orca_operands.specs.PutView.{pieces_size}
use Rattle.orca_operands.proofs.Sizes.{SumLeft}
use Rattle.orca_operands.proofs.encoding.pieces_cells.Given as goal

abbrev pub invariant-pieces : goal.invariant-pieces
invariant-pieces l = SumLeft l.total (pieces_size (drop l.piece-index l.pieces)) (pieces_size l.pieces)
