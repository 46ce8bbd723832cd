use Rattle.std.proofs.Common.{sym, ◌∙◌}
use Rattle.orca_text.proofs.OperandIs.{nothing_read, empty_text, accumulator_read}
use Rattle.orca_text.proofs.operand.operand_of.Goals as goal

pub returns-then-is_empty-clause-ok : goal.returns-then-is_empty-clause-ok
returns-then-is_empty-clause-ok c = nothing_read _ _ _ (empty_text _ c.if-is_empty.ensures) c.bare_operand.ensures

pub returns-then-accumulator-clause-ok : goal.returns-then-accumulator-clause-ok
returns-then-accumulator-clause-ok c = accumulator_read _ _ _ (sym c.requires ∙ c.if-accumulator.true) c.bare_operand-then-accumulator.ensures
