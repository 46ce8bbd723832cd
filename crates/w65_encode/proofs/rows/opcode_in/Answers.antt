use Rattle.std.proofs.Common.{sym, ◌∙◌}
use Rattle.w65_encode.proofs.RowLaws.{found, not_found}
use Rattle.w65_encode.proofs.rows.opcode_in.Goals as goal

pub returns-then-is_opcode : goal.returns-then-is_opcode
returns-then-is_opcode c = record { exact = found c.args.mnemonic c.args.mode c.in_row-opcode.result (sym c.is_opcode.ensures ∙ c.if-is_opcode.true) }

pub returns : goal.returns
returns c = record { exact = not_found c.args.mnemonic c.args.mode c.row_of.result.now c.row_of.ensures (rw c.in_row-opcode.ensures at (sym c.is_opcode.ensures ∙ c.if-is_opcode.false)) }
