use Rattle.orca_operands.proofs.After.{then_if}
use Rattle.orca_object.proofs.StepLaws.{gequ_inside, gequ_outside}
use Rattle.orca_object.proofs.equates.do_gequ.Goals as goal

pub returns-then-is_open : goal.returns-then-is_open
returns-then-is_open c =
    then_if c.do_equate.result (λ done is state l shows. gequ_inside state l c.args.label c.args.text.bytes.now done c.do_equate.new.kept c.is_open.result (c.is_open.ensures state shows) c.if-is_open.true (is state shows)) c.do_equate.ensures

pub returns : goal.returns
returns c =
    then_if c.do_constant.result (λ done is state l shows. gequ_outside state l c.args.label c.args.text.bytes.now done c.do_constant.new.kept c.is_open.result (c.is_open.ensures state shows) c.if-is_open.false (is state shows)) c.do_constant.ensures
