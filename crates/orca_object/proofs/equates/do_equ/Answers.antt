use Rattle.orca_operands.proofs.After.{then_if}
use Rattle.orca_object.proofs.StepLaws.{equ_left}
use Rattle.orca_object.proofs.equates.do_equ.Goals as goal

pub returns : goal.returns
returns c = then_if c.do_equate.result (λ done is state l shows. equ_left state l c.args.label c.args.text.bytes.now done c.do_equate.new.kept (is state shows)) c.do_equate.ensures
