use Rattle.omf_format.specs.laws.ExpressionLaws.{none-begins}
use Rattle.omf_expr.proofs.laws.none_begins_another.Goals as goal

pub returns : goal.returns
returns c = record { none = none-begins }
