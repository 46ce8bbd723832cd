use Rattle.std.proofs.Common.{◌<◌, ◌^◌, arith}
use Rattle.orca_operands.proofs.Sizes.{cells_few, cells_operand}
use Rattle.orca_operands.proofs.encoding.Encoding.cells.Goals as goal

pub returns-in-Bytes : goal.returns-in-Bytes
returns-in-Bytes c = λ at. cells_few at c.from.result c.args.self.now c.in-Bytes.few c.in-Bytes.is c.from.ensures

pub returns-in-Operand : goal.returns-in-Operand
returns-in-Operand c = λ at.
    let small : c.in-Operand.count < 2 ^ 8 = omega (arith, c.operand_cells.ensures.value, c.operand_cells.ensures.few) in
    cells_operand at c.operand_cells.result c.in-Operand.opcode c.in-Operand.code c.in-Operand.count c.in-Operand.n c.args.self.now c.in-Operand.expr c.in-Operand.is small c.operand_cells.ensures.value
