use Rattle.std.proofs.Common.{ap, ◌∙◌}
use Rattle.omf_format.specs.Expression.{Leaf, Constant}
use Rattle.asm_meaning.specs.Instruction.{is_distance}
use Rattle.orca_operands.specs.ModeView.{widths}
use Rattle.orca_operands.proofs.Instructed.{known_branch}
use Rattle.orca_operands.proofs.instruction.with_known.Goals as goal

pub returns-then-is_distance : goal.returns-then-is_distance
returns-then-is_distance c =
    known_branch (widths c.args.of) c.args.mnemonic c.args.prefix c.args.n c.args.mode c.operand_bytes-width.result _ c.is_distance.result (c.is_distance.ensures ∙ ap is_distance c.kind_of.ensures) c.if-is_distance.true
    c.operand_bytes-width.ensures.value (c.in_ok-given.ensures (Leaf (Constant c.args.n)) c.in_ok-text.ensures)
