use Rattle.std.proofs.Common.{map}
use Rattle.orca_operands.specs.PieceView.{piece}
use Rattle.orca_operands.proofs.Elementing.{has_binary}
use Rattle.orca_operands.proofs.dc.binary_value.Goals as goal

pub returns-in_ok-pieces-in-Some-found-clause-found : goal.returns-in_ok-pieces-in-Some-found-clause-found
returns-in_ok-pieces-in-Some-found-clause-found c =
    has_binary c.args.text.now c.in-Some.inner.now c.in-Some.rest.now c.in-Some-found.bytes.items (map piece c.in_ok-pieces-in-Some-found.pieces.items) c.in-Some.ensures.text (rw c.in-Some-found.is at c.in_ok-found.ensures)
    c.in_ok-pieces-in-Some-found.ensures
