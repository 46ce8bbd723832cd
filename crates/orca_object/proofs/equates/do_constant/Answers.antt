use Rattle.std.proofs.Common.{sym, ◌∙◌}
use Rattle.orca_operands.specs.NamesView.{constants}
use Rattle.orca_object.proofs.Lefts.{constant_fault}
use Rattle.orca_object.proofs.equates.do_constant.Goals as goal

pub returns-in-Err : goal.returns-in-Err
returns-in-Err c = λ state shows. constant_fault state (constants c.known_constants.result) c.args.label c.in_ok-number.number c.args.text.bytes.now c.args.kept.now c.in-Err.cause c.in_ok-number.ensures (c.known_constants.ensures state shows) (sym c.pair_or_earlier_fault.ensures ∙ c.in-Err.is)
