use Rattle.omf_format.specs.laws.ExpressionLaws.{one-fault, no-fault}
use Rattle.omf_expr.proofs.laws.one_first_fault.Goals as goal

pub returns-clause-one : goal.returns-clause-one
returns-clause-one c = one-fault

pub returns-clause-none : goal.returns-clause-none
returns-clause-none c = no-fault
