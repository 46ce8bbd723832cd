use Rattle.std.proofs.Common.{refl, sym, ◌∙◌}
use Rattle.std.proofs.lemmas.Bool.{false≢true}
use Rattle.orca_operands.proofs.Formulated.{no_formula, more_after, too_deep, too_large, good_formula}
use Rattle.orca_operands.proofs.amount.formula_in.Goals as goal

pub returns-in_default : goal.returns-in_default
returns-in_default c = no_formula c.args.text.bytes.now (rw c.in_default.is at c.in_ok-found.ensures.none)

pub returns-then-not-is_empty : goal.returns-then-not-is_empty
returns-then-not-is_empty c =
    more_after c.args.text.bytes.now c.in-Some.found.rest.now c.in-Some.found.formula c.in-Some.found.large (rw c.in-Some.is at c.in_ok-found.ensures.found) (sym c.is_empty.ensures ∙ c.if-not-is_empty.true)

pub returns-then-is_too_deep : goal.returns-then-is_too_deep
returns-then-is_too_deep c =
    too_deep c.args.text.bytes.now c.in-Some.found.rest.now c.in-Some.found.formula c.in-Some.found.large (sym c.is_empty.ensures ∙ c.if-not-is_empty.false) (rw c.in-Some.is at c.in_ok-found.ensures.found)
    ((rw c.if-is_too_deep.true at c.is_too_deep.ensures).0 refl)

pub returns-then-found : goal.returns-then-found
returns-then-found c =
    too_large c.args.text.bytes.now c.in-Some.found.rest.now c.in-Some.found.formula c.in-Some.found.large (sym c.is_empty.ensures ∙ c.if-not-is_empty.false) (rw c.in-Some.is at c.in_ok-found.ensures.found)
    (λ h. false≢true ((rw c.if-is_too_deep.false at c.is_too_deep.ensures).1 h)) c.if-found.true

pub returns : goal.returns
returns c =
    good_formula c.args.text.bytes.now c.in-Some.found.rest.now c.in-Some.found.formula c.in-Some.found.large c.args.text.short (sym c.is_empty.ensures ∙ c.if-not-is_empty.false) (rw c.in-Some.is at c.in_ok-found.ensures.found)
    (λ h. false≢true ((rw c.if-is_too_deep.false at c.is_too_deep.ensures).1 h)) c.if-found.false
