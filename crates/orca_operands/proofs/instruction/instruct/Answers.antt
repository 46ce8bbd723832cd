use Rattle.orca_operands.specs.ModeView.{widths}
use Rattle.orca_operands.specs.NamesView.{constants}
use Rattle.orca_operands.proofs.ByFormulas.{first_for, first_is, none_is}
use Rattle.orca_operands.proofs.instruction.instruct.Goals as goal

pub returns-in_ok-answer-in-Some : goal.returns-in_ok-answer-in-Some
returns-in_ok-answer-in-Some c = λ mn written good.
    first_is (constants c.args.known) (widths c.args.of) c.args.mnemonic mn c.in-Some.first _ (first_for c.args.mnemonic c.args.operand.now mn c.first_mode.result _ written c.first_mode.ensures c.in-Some.is)
    (c.in_ok-answer-in-Some.ensures mn written good)

pub returns-in-None : goal.returns-in-None
returns-in-None c = λ mn written good.
    none_is (constants c.args.known) (widths c.args.of) c.args.mnemonic mn (first_for c.args.mnemonic c.args.operand.now mn c.first_mode.result _ written c.first_mode.ensures c.in-None.is)
