use Rattle.omf_format.specs.laws.ExpressionLaws.{expression-takes, expression-again, expression-flaw}
use Rattle.omf_expr.proofs.laws.field_is_expression.Goals as goal

pub returns-clause-takes : goal.returns-clause-takes
returns-clause-takes c = λ l bytes text rest fits read. let t = expression-takes l bytes (text, rest) fits read in (t.expression, t.taken.parts)

pub returns-clause-again : goal.returns-clause-again
returns-clause-again c = expression-again

pub returns-clause-flaw : goal.returns-clause-flaw
returns-clause-flaw c = expression-flaw
