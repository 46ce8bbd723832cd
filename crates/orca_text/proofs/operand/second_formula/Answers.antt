use Rattle.orca_text.proofs.OperandIs.{no_second_formula, second_goes_on, some_left}
use Rattle.orca_text.proofs.operand.second_formula.Goals as goal

pub returns-in_default-2-clause-none : goal.returns-in_default-2-clause-none
returns-in_default-2-clause-none c = no_second_formula _ c.in-Some.following.now c.in-Some.ensures (rw c.in_default-2.is at c.in_ok-second.ensures.none)

pub returns-then-not-is_empty-clause-none : goal.returns-then-not-is_empty-clause-none
returns-then-not-is_empty-clause-none c =
    let found = rw c.in-Some-2.is at c.in_ok-second.ensures.found in
    second_goes_on _ c.in-Some.following.now _ _ _ c.in-Some.ensures found (some_left _ _ c.is_empty.ensures c.if-not-is_empty.true)
