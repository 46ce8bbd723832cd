use Rattle.orca_operands.specs.AmountView.{amount_view}
use Rattle.orca_operands.specs.NamesView.{constants}
use Rattle.orca_operands.proofs.Judging.{too_deep, too_large, well_judged, more_than, at_most, same_formula}
use Rattle.orca_operands.proofs.numbers.judged_amount.Goals as goal

pub returns-then-is_too_deep : goal.returns-then-is_too_deep
returns-then-is_too_deep c = λ tree k. too_deep (constants c.args.known) c.args.formula.now c.args.large tree (more_than c.is_too_deep.result _ c.is_too_deep.ensures c.if-is_too_deep.true) k

pub returns-then-large : goal.returns-then-large
returns-then-large c = λ tree k. too_large (constants c.args.known) c.args.formula.now c.args.large tree (at_most c.is_too_deep.result _ c.is_too_deep.ensures c.if-is_too_deep.false) c.if-large.true k

pub returns : goal.returns
returns c = λ tree k.
    well_judged (constants c.args.known) c.args.formula.now c.args.large tree (amount_view c.in_ok-answer.answer) (at_most c.is_too_deep.result _ c.is_too_deep.ensures c.if-is_too_deep.false) c.if-large.false
    (λ t is. c.in_ok-answer.ensures t (same_formula _ _ t c.terms.ensures is)) k
