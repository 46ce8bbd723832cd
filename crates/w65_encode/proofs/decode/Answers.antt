use Rattle.std.proofs.Common.{arith}
use Rattle.orca_meaning.proofs.MatrixLemmas.{entry_at, opcode_at}
use Rattle.w65_encode.proofs.decode.Goals as goal

pub returns-clause-entry : goal.returns-clause-entry
returns-clause-entry c = rw c.instructions.ensures.exact (entry_at c.args.byte _ (omega arith))

pub returns-clause-back : goal.returns-clause-back
returns-clause-back c = opcode_at c.args.byte _ (rw c.instructions.ensures.exact (entry_at c.args.byte _ (omega arith)))
