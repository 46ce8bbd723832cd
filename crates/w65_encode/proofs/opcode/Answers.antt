use Rattle.std.proofs.Common.{sym}
use Rattle.std.specs.Prelude.{◌≡◌, Some, None, IfSome, IfNone, slice_get, Contains}
use Rattle.orca_meaning.specs.Matrix.{matrix, opcode_of}
use Rattle.orca_meaning.proofs.MatrixLemmas.{instruction_at, no_opcode}
use Rattle.w65_encode.proofs.opcode.Goals as goal

pub returns-clause-found : goal.returns-clause-found
returns-clause-found c = elim c.opcode_in.result as (λ r. r ≡ opcode_of c.args.mnemonic c.args.mode → IfSome r (λ byte. slice_get matrix byte ≡ Some (c.args.mnemonic, c.args.mode))) [ None ↦ (λ e. tt) | Some byte ↦ (λ e. instruction_at c.args.mnemonic c.args.mode byte (sym e)) ] c.opcode_in.ensures.exact

pub returns-clause-absent : goal.returns-clause-absent
returns-clause-absent c = elim c.opcode_in.result as (λ r. r ≡ opcode_of c.args.mnemonic c.args.mode → IfNone r (¬ Contains matrix (c.args.mnemonic, c.args.mode))) [ None ↦ (λ e. no_opcode c.args.mnemonic c.args.mode (sym e)) | Some byte ↦ (λ e. tt) ] c.opcode_in.ensures.exact
