use Rattle.std.proofs.Common.{sym, ◌∙◌}
use Rattle.orca_operands.specs.NamesView.{constants}
use Rattle.orca_object.proofs.Lefts.{equ_good, equ_fault}
use Rattle.orca_object.proofs.equates.do_equate.Goals as goal

pub returns-in_ok-equate-in-Ok : goal.returns-in_ok-equate-in-Ok
returns-in_ok-equate-in-Ok c = λ state shows.
    equ_good state (constants c.known_constants.result) c.equate.new.self c.args.global c.args.label c.in_ok-amount.amount c.in-Ok.amount c.args.text.bytes.now c.in-Ok.name c.in_ok-amount.ensures.amount (c.known_constants.ensures state shows)
    (sym c.pair_or_earlier_fault.ensures ∙ c.in-Ok.is) (λ meant is. c.in_ok-equate-in-Ok.ensures state meant shows is)

pub returns-in-Err : goal.returns-in-Err
returns-in-Err c = λ state shows. equ_fault state (constants c.known_constants.result) c.args.global c.args.label c.in_ok-amount.amount c.args.text.bytes.now c.args.kept.now c.in-Err.cause c.in_ok-amount.ensures.amount (c.known_constants.ensures state shows) (sym c.pair_or_earlier_fault.ensures ∙ c.in-Err.is)
