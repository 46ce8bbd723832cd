use Rattle.std.proofs.Common.{map, ap, ◌∙◌}
use Rattle.asm_meaning.specs.laws.Steps.{strong_piece}
use Rattle.orca_operands.specs.PieceView.{piece}
use Rattle.orca_operands.proofs.Elementing.{closed_short, has_strong}
use Rattle.orca_operands.proofs.dc.strong_value.Goals as goal

pub invariant_of-names_in : goal.invariant_of-names_in
invariant_of-names_in c = record { short = closed_short c.args.text.bytes.now c.in-Some.inner.now c.in-Some.rest.now c.in-Some.ensures.text c.args.text.short }

pub returns-in_ok-pieces-in-Some-found-clause-found : goal.returns-in_ok-pieces-in-Some-found-clause-found
returns-in_ok-pieces-in-Some-found-clause-found c =
    has_strong c.args.text.bytes.now c.in-Some.inner.now c.in-Some.rest.now c.in-Some-found.names.items (map piece c.in_ok-pieces-in-Some-found.pieces.items) c.in-Some.ensures.text (rw c.in-Some-found.is at c.in_ok-found.ensures.found)
    (c.in_ok-pieces-in-Some-found.ensures ∙ ap (map strong_piece) c.as_slice.ensures.value)
