use Rattle.asm_meaning.specs.Instruction.{modes_of_form}
use Rattle.orca_operands.specs.ModeView.{widths, kind}
use Rattle.orca_operands.proofs.Modes.{first_holds}
use Rattle.orca_operands.proofs.mode.mode_of_number.Goals as goal

pub returns-then-is_operand_of_width : goal.returns-then-is_operand_of_width
returns-then-is_operand_of_width c =
    first_holds (widths c.args.of) c.args.mnemonic c.args.prefix c.args.n c.args.first (modes_of_form c.args.mnemonic c.args.form c.args.prefix) (kind c.kind_of.result) c.operand_bytes-width.result c.is_operand_of_width.result c.requires
    c.kind_of.ensures c.operand_bytes-width.ensures.value c.is_operand_of_width.ensures c.if-is_operand_of_width.true
