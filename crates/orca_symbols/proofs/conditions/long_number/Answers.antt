use Rattle.std.proofs.Common.{ap, sym, ◌∙◌}
use Rattle.std.specs.List.{list_all}
use Rattle.macro_meaning.specs.laws.Steps.{is_declared}
use Rattle.orca_symbols.specs.View.{values}
use Rattle.orca_symbols.proofs.Numbers.{no_formula, more_after, undeclared, too_large, too_deep, fine_terms, all_values, empty_rest, some_rest, not_deep}
use Rattle.orca_symbols.proofs.conditions.long_number.Goals as goal

pub returns-in_default : goal.returns-in_default
returns-in_default c = no_formula _ _ (rw c.in_default.is at c.in_ok-found.ensures.none)

pub returns-then-not-is_empty : goal.returns-then-not-is_empty
returns-then-not-is_empty c =
    more_after _ _ c.in-Some.found.formula c.in-Some.found.large c.in-Some.found.rest.now (rw c.in-Some.is at c.in_ok-found.ensures.found)
    (some_rest c.in-Some.found.rest.now (sym c.is_empty.ensures ∙ c.if-not-is_empty.true))

pub returns-then-not-are_declared : goal.returns-then-not-are_declared
returns-then-not-are_declared c =
    undeclared _ _ c.in-Some.found.formula c.in-Some.found.large c.in-Some.found.rest.now (rw c.in-Some.is at c.in_ok-found.ensures.found)
    (empty_rest c.in-Some.found.rest.now (sym c.is_empty.ensures ∙ c.if-not-is_empty.false))
    (ap (list_all (is_declared (values c.args.of))) (sym c.terms.ensures) ∙ sym c.are_declared.ensures ∙ c.if-not-are_declared.true)

pub value_of-requires : goal.value_of-requires
value_of-requires c = fine_terms c.args.text.bytes.now c.in-Some.found.formula c.in-Some.found.large c.in-Some.found.rest.now c.args.text.short (rw c.in-Some.is at c.in_ok-found.ensures.found) c.if-found.false

pub returns : goal.returns
returns c =
    all_values (values c.args.of) c.args.text.bytes.now c.in-Some.found.formula c.in-Some.found.large c.in-Some.found.rest.now c.value_of.result c.args.text.short (rw c.in-Some.is at c.in_ok-found.ensures.found)
    (empty_rest c.in-Some.found.rest.now (sym c.is_empty.ensures ∙ c.if-not-is_empty.false))
    (ap (list_all (is_declared (values c.args.of))) (sym c.terms.ensures) ∙ sym c.are_declared.ensures ∙ c.if-not-are_declared.false)
    c.if-found.false (not_deep c.is_too_deep.result _ c.is_too_deep.ensures c.if-is_too_deep.false) c.value_of.ensures

pub returns-then-found : goal.returns-then-found
returns-then-found c =
    too_large _ _ c.in-Some.found.formula c.in-Some.found.large c.in-Some.found.rest.now (rw c.in-Some.is at c.in_ok-found.ensures.found)
    (empty_rest c.in-Some.found.rest.now (sym c.is_empty.ensures ∙ c.if-not-is_empty.false))
    (ap (list_all (is_declared (values c.args.of))) (sym c.terms.ensures) ∙ sym c.are_declared.ensures ∙ c.if-not-are_declared.false)
    c.if-found.true

pub returns-then-is_too_deep : goal.returns-then-is_too_deep
returns-then-is_too_deep c =
    too_deep _ _ c.in-Some.found.formula c.in-Some.found.large c.in-Some.found.rest.now (rw c.in-Some.is at c.in_ok-found.ensures.found)
    (empty_rest c.in-Some.found.rest.now (sym c.is_empty.ensures ∙ c.if-not-is_empty.false))
    (ap (list_all (is_declared (values c.args.of))) (sym c.terms.ensures) ∙ sym c.are_declared.ensures ∙ c.if-not-are_declared.false)
    c.if-found.false (c.is_too_deep.ensures.0 c.if-is_too_deep.true)
