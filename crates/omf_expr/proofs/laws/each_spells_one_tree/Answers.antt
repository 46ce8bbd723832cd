use Rattle.omf_format.specs.laws.ExpressionLaws.{one-tree}
use Rattle.omf_expr.proofs.laws.each_spells_one_tree.Goals as goal

pub returns : goal.returns
returns c = record { one = one-tree }
