use Rattle.orca_text.proofs.Steps.{closed_bracket, closed_pending, closed_nothing}
use Rattle.orca_text.proofs.formula.close.Goals as goal

pub returns-in_default : goal.returns-in_default
returns-in_default c = record { ok = closed_nothing _ _ _ c.in_ok-reduce.ensures.ok c.in_default.ensures.0 }

pub returns-in-Bracket : goal.returns-in-Bracket
returns-in-Bracket c = record { ok = closed_bracket _ _ _ _ c.in_ok-reduce.ensures.ok (rw c.in-Bracket.is at c.in-Some.ensures) }

pub returns-in-Before : goal.returns-in-Before
returns-in-Before c = record { ok = closed_pending _ _ _ _ _ _ c.in_ok-reduce.ensures.ok (rw c.in-Before.is at c.in-Some.ensures) }

pub returns-in-Between : goal.returns-in-Between
returns-in-Between c = record { ok = closed_pending _ _ _ _ _ _ c.in_ok-reduce.ensures.ok (rw c.in-Between.is at c.in-Some.ensures) }
