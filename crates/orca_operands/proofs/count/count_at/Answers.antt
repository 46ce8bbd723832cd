use Rattle.orca_operands.specs.NamesView.{constants}
use Rattle.orca_operands.proofs.Counting.{if_some, if_none, computed_is, computed_none, digits_are}
use Rattle.orca_operands.proofs.count.count_at.Goals as goal

pub returns-in-Some-clause-found : goal.returns-in-Some-clause-found
returns-in-Some-clause-found c =
    if_some _ _ c.in_ok-found.found c.in_ok-found.ensures.found (λ x is. computed_is (constants c.args.known) c.args.text.bytes.now c.in-Some.following.now x.0 x.1.now c.in-Some.ensures is)

pub returns-in-Some-clause-none : goal.returns-in-Some-clause-none
returns-in-Some-clause-none c = if_none _ _ c.in_ok-found.found c.in_ok-found.ensures.none (computed_none c.args.text.bytes.now c.in-Some.following.now c.in-Some.ensures)

pub returns-in-Some-digits_count-clause-found : goal.returns-in-Some-digits_count-clause-found
returns-in-Some-digits_count-clause-found c =
    digits_are (constants c.args.known) c.args.text.bytes.now c.in-Some-digits_count.answer c.in-Some-digits_count.rest.now c.in_default.ensures (rw c.in-Some-digits_count.is at c.digits_count.ensures)
