use Rattle.std.proofs.Common.{◌∙◌}
use Rattle.orca_meaning.specs.Line.{part}
use Rattle.orca_text.proofs.Accumulators.{accumulator_is}
use Rattle.orca_text.proofs.operand.operand_with.Goals as goal

pub operand_of-requires : goal.operand_of-requires
operand_of-requires c =
    c.is_accumulator-accumulator.ensures ∙ accumulator_is (part c.args.line.now.text c.args.line.now.operation) c.part-text.result.bytes.now c.args.operation c.requires.decoded
