use Rattle.orca_text.specs.OperandView.{line_operand}
use Rattle.orca_operands.specs.ModeView.{widths}
use Rattle.orca_operands.specs.NamesView.{constants}
use Rattle.orca_object.proofs.MarkLaws.{instruct_left}
use Rattle.orca_operands.proofs.After.{then_if}
use Rattle.orca_object.proofs.data.do_instruct.Goals as goal

pub returns : goal.returns
returns c =
    then_if c.give_statement.result (λ done leaves state l shows. instruct_left state l (constants c.known_constants.result) (widths c.args.kept.now.widths) c.args.mnemonic c.args.label (line_operand c.args.line.now.line) c.in_ok-given.given done
    c.give_statement.new.kept c.in_ok-given.ensures.given (c.known_constants.ensures state shows) shows.widths (leaves state shows)) c.give_statement.ensures
