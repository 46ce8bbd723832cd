use Rattle.std.proofs.Common.{sym, ◌∙◌}
use Rattle.link_program.proofs.ResolvingLaws.{use_is, place_within, none_before, none_next, first_use}
use Rattle.link_program.proofs.linked.Linked.first_unresolved_use.Goals as goal

pub uses-init : goal.uses-init
uses-init c = λ list holds far. none_before list

pub found_for-requires-clause-positive : goal.found_for-requires-clause-positive
found_for-requires-clause-positive c =
    let kept = c.args.self.now in
    let there = c.get-used.ensures in
    (place_within c.requires.held.0 kept c.uses.number c.get-used.result c.requires.held.1 (use_is c.requires.held.0 kept c.uses.number c.get-used.result c.requires.held.1 there)).0

pub found_for-requires-clause-within : goal.found_for-requires-clause-within
found_for-requires-clause-within c =
    let kept = c.args.self.now in
    let there = c.get-used.ensures in
    (place_within c.requires.held.0 kept c.uses.number c.get-used.result c.requires.held.1 (use_is c.requires.held.0 kept c.uses.number c.get-used.result c.requires.held.1 there)).1

pub returns-in-Some : goal.returns-in-Some
returns-in-Some c = λ list holds far.
    let kept = c.args.self.now in
    let u = c.get-used.result in
    let there = c.get-used.ensures in
    first_use list c.uses.number u c.found_for.result c.in-Some.cause (use_is list kept c.uses.number u holds there) (λ m at. c.found_for.ensures list m holds far at) (sym c.use_cause.ensures ∙ c.in-Some.is) (c.uses.invariant list holds far)

pub uses-preserved : goal.uses-preserved
uses-preserved c = λ list holds far.
    let kept = c.args.self.now in
    let u = c.get-used.result in
    let there = c.get-used.ensures in
    none_next list c.uses.number u c.found_for.result (use_is list kept c.uses.number u holds there) (λ m at. c.found_for.ensures list m holds far at) (sym c.use_cause.ensures ∙ c.in-None.is) (c.uses.invariant list holds far)
