use Rattle.std.proofs.Common.{arith, ap, map}
use Rattle.orca_meaning.specs.laws.TokenLaws.{token-shorter}
use Rattle.orca_text.specs.View.{term}
use Rattle.orca_text.proofs.Whole.{under_way, goes_on, found_as, no_formula}
use Rattle.orca_text.proofs.formula.formula_at.Goals as goal

pub tokens-init : goal.tokens-init
tokens-init c = (omega arith, under_way _ _ _ _ (ap (map term) c.new-out.ensures.items) c.new-waiting.ensures)

pub tokens-preserved : goal.tokens-preserved
tokens-preserved c =
    let next = rw c.in-Goes.is at c.in_ok-again.ensures in
    let less = token-shorter _ _ _ _ _ next.found in
    (omega arith, goes_on _ _ _ _ _ _ _ _ c.tokens.invariant.1 next)

pub tokens-smaller : goal.tokens-smaller
tokens-smaller c =
    let next = rw c.in-Goes.is at c.in_ok-again.ensures in
    token-shorter _ _ _ _ _ next.found

pub returns-in-Ends-clause-found : goal.returns-in-Ends-clause-found
returns-in-Ends-clause-found c =
    let next = rw c.in-Ends.is at c.in_ok-again.ensures in
    found_as _ _ _ _ _ _ _ _ c.tokens.invariant.1 next c.of.ensures

pub returns-in-Fails-clause-none : goal.returns-in-Fails-clause-none
returns-in-Fails-clause-none c =
    let next = rw c.in-Fails.is at c.in_ok-again.ensures in
    no_formula _ _ _ _ _ c.tokens.invariant.1 next
