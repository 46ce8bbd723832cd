use Rattle.orca_text.proofs.Steps.{shut_steps, whole_end, open_stuck}
use Rattle.std.proofs.Common.{refl}
use Rattle.orca_text.proofs.formula.operator_next.Goals as goal

pub returns-in-Shut : goal.returns-in-Shut
returns-in-Shut c =
    let found = rw c.in-Some-Closes-default.field-0-0-is at c.in-Some-Closes-default.ensures in
    let shut = rw c.in-Shut.is at c.in_ok-close-in-Some-Closes-default.ensures.ok in
    λ operands large. shut_steps operands large _ _ _ _ _ _ found shut.0

pub returns-in-Whole : goal.returns-in-Whole
returns-in-Whole c =
    let found = rw c.in-Some-Closes-default.field-0-0-is at c.in-Some-Closes-default.ensures in
    let both = rw c.in-Whole.is at c.in_ok-close-in-Some-Closes-default.ensures.ok in
    λ operands large. (whole_end _ _ _ _ _ found both, refl)

pub returns-in-Open : goal.returns-in-Open
returns-in-Open c =
    let found = rw c.in-Some-Closes-default.field-0-0-is at c.in-Some-Closes-default.ensures in
    let both = rw c.in-Open.is at c.in_ok-close-in-Some-Closes-default.ensures.ok in
    λ operands large. open_stuck operands _ _ _ _ found both
