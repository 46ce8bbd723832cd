use Rattle.std.proofs.Common.{map, ap, ◌∙◌}
use Rattle.asm_meaning.specs.laws.Steps.{text_byte}
use Rattle.orca_operands.specs.PieceView.{piece}
use Rattle.orca_operands.proofs.Elementing.{has_text}
use Rattle.orca_operands.proofs.dc.text_value.Goals as goal

pub returns-in_ok-pieces-in-Some-clause-found : goal.returns-in_ok-pieces-in-Some-clause-found
returns-in_ok-pieces-in-Some-clause-found c =
    has_text c.args.msb c.args.text.now c.in-Some.rest.now c.in-Some.bytes.items c.in_ok-marked-in-Some.marked.items (map piece c.in_ok-pieces-in-Some.pieces.items) (rw c.in-Some.is at c.in_ok-found.ensures)
    (c.in_ok-marked-in-Some.ensures ∙ ap (map (text_byte c.args.msb)) c.as_slice.ensures.value) c.in_ok-pieces-in-Some.ensures
