use Rattle.orca_object.proofs.Lefts.{end_left, turn_left, nothing_left, ignored_left}
use Rattle.orca_operands.proofs.After.{then_if}
use Rattle.orca_object.proofs.step.do_unlabelled.Goals as goal

pub returns-in-End : goal.returns-in-End
returns-in-End c = rw c.in-End.is (then_if c.do_end.result (λ done leaves state l shows. end_left state l c.args.label c.args.text.bytes.now done c.do_end.new.kept (leaves state shows)) c.do_end.ensures)

pub returns-in-Turn : goal.returns-in-Turn
returns-in-Turn c =
    rw c.in-Turn.is (then_if c.turning.result (λ done leaves state l shows. turn_left state l c.in-Turn.switch c.args.label c.args.text.bytes.now done c.turning.new.kept (leaves state shows)) c.turning.ensures)

pub returns-in-Nothing : goal.returns-in-Nothing
returns-in-Nothing c = rw c.in-Nothing.is (then_if c.do_anop.result (λ done leaves state l shows. nothing_left state l c.args.label c.args.text.bytes.now done c.do_anop.new.kept (leaves state shows)) c.do_anop.ensures)

pub returns-in-Ignored : goal.returns-in-Ignored
returns-in-Ignored c =
    rw c.in-Ignored.is (then_if c.do_anop-in-Ignored.result (λ done leaves state l shows. ignored_left state l c.args.label c.args.text.bytes.now done c.do_anop-in-Ignored.new.kept (leaves state shows)) c.do_anop-in-Ignored.ensures)
