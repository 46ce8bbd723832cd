use Rattle.std.proofs.Common.{◌∙◌, arith}
use Rattle.w65_encode.proofs.RowLaws.{answers}
use Rattle.w65_encode.proofs.rows.is_opcode.Goals as goal

pub returns : goal.returns
returns c = c.eq.ensures ∙ (rw c.instructions.ensures.exact (answers c.args.mnemonic c.args.mode c.args.opcode _ (omega arith)))
