use Rattle.orca_text.proofs.Steps.{operator_pushed}
use Rattle.orca_text.proofs.formula.take_operator.Goals as goal

pub returns : goal.returns
returns c = record { ok = operator_pushed c.args.operator _ _ _ _ _ _ c.level.ensures c.in_ok-reduce.ensures.ok c.in_ok-push.ensures.ok }
