use Rattle.orca_operands.specs.NamesView.{constants}
use Rattle.orca_operands.specs.PieceView.{pieces_answer}
use Rattle.orca_operands.proofs.Elementing.{closed_short, has_numbers}
use Rattle.orca_operands.proofs.dc.number_value.Goals as goal

pub invariant_of-numbers_in : goal.invariant_of-numbers_in
invariant_of-numbers_in c = record { short = closed_short c.args.text.bytes.now c.in-Some.inner.now c.in-Some.rest.now c.in-Some.ensures.text c.args.text.short }

pub returns-in-Some-found-clause-found : goal.returns-in-Some-found-clause-found
returns-in-Some-found-clause-found c =
    has_numbers (constants c.args.known) c.args.width c.args.text.bytes.now c.in-Some.inner.now c.in-Some.rest.now (pieces_answer c.in-Some-found.answer) c.in-Some.ensures.text (rw c.in-Some-found.is at c.in_ok-found.ensures.found)
