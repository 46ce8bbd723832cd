use Rattle.orca_text.specs.OperandView.{line_operand}
use Rattle.orca_operands.specs.GivenView.{given_answer}
use Rattle.orca_operands.specs.ModeView.{widths}
use Rattle.orca_operands.specs.NamesView.{constants}
use Rattle.orca_object.proofs.MarkLaws.{instruct_plain}
use Rattle.orca_object.proofs.Stating.{first_is_fine, second_is_fine, by_instruction, bad_operand, bad_number}
use Rattle.orca_object.proofs.statement.instruction_given.Goals as goal

pub instruct-requires-clause-first : goal.instruct-requires-clause-first
instruct-requires-clause-first c = first_is_fine (widths c.args.of) c.args.line.now.line c.args.mnemonic c.in-Ok.operand c.requires.mnemonic c.know_short.ensures (rw c.in-Ok.is at c.read_decoded_operand.ensures.operand)

pub instruct-requires-clause-second : goal.instruct-requires-clause-second
instruct-requires-clause-second c = second_is_fine (widths c.args.of) c.args.line.now.line c.args.mnemonic c.in-Ok.operand c.requires.mnemonic c.know_short.ensures (rw c.in-Ok.is at c.read_decoded_operand.ensures.operand)

pub returns-in_ok-answer-in-Ok : goal.returns-in_ok-answer-in-Ok
returns-in_ok-answer-in-Ok c =
    let short = c.know_short.ensures in
    let by = by_instruction (constants c.args.known) (widths c.args.of) c.args.line.now.line c.args.mnemonic c.in-Ok.operand (given_answer c.in_ok-answer-in-Ok.answer) c.requires.mnemonic short
    (rw c.in-Ok.is at c.read_decoded_operand.ensures.operand) c.in_ok-answer-in-Ok.ensures in
    record {
      given = by;
      plain = instruct_plain (constants c.args.known) (widths c.args.of) c.args.mnemonic (line_operand c.args.line.now.line) c.in_ok-answer-in-Ok.answer c.recall_small.ensures short by;
    }

pub returns-in-BadOperand-clause-given : goal.returns-in-BadOperand-clause-given
returns-in-BadOperand-clause-given c =
    bad_operand (constants c.args.known) (widths c.args.of) c.args.line.now.line c.args.mnemonic c.in-Err.fault c.requires.mnemonic (rw c.in-Err.is at c.read_decoded_operand.ensures.refused) c.in-BadOperand.is

pub returns-in-BadNumber-clause-given : goal.returns-in-BadNumber-clause-given
returns-in-BadNumber-clause-given c =
    bad_number (constants c.args.known) (widths c.args.of) c.args.line.now.line c.args.mnemonic c.in-Err.fault c.requires.mnemonic (rw c.in-Err.is at c.read_decoded_operand.ensures.refused) c.in-BadNumber.is
