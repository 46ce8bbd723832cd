use Rattle.std.proofs.Common.{◌≤◌, length, Some, None, ap, arith}
use Rattle.std.proofs.lemmas.List.{length-map}
use Rattle.link_tables.specs.Offers.{origin_view}
use Rattle.link_program.proofs.ResolvingLaws.{use_is, place_within}
use Rattle.link_program.proofs.WantedLaws.{wants_so, wants_next, wanted_here, wanted_none, wanted_without_rows}
use Rattle.link_program.proofs.linked.Linked.wanted.Goals as goal

pub row_wanted-requires-clause-positive : goal.row_wanted-requires-clause-positive
row_wanted-requires-clause-positive c =
    let kept = c.args.self.now in
    let there = c.get-used.ensures in
    (place_within c.requires.held.0 kept c.uses.number c.get-used.result c.requires.held.1 (use_is c.requires.held.0 kept c.uses.number c.get-used.result c.requires.held.1 there)).0

pub row_wanted-requires-clause-within : goal.row_wanted-requires-clause-within
row_wanted-requires-clause-within c =
    let kept = c.args.self.now in
    let there = c.get-used.ensures in
    (place_within c.requires.held.0 kept c.uses.number c.get-used.result c.requires.held.1 (use_is c.requires.held.0 kept c.uses.number c.get-used.result c.requires.held.1 there)).1

pub returns-in-Some : goal.returns-in-Some
returns-in-Some c = λ list os holds far are none.
    let kept = c.args.self.now in
    let u = c.get-used.result in
    let is = use_is list kept c.uses.number u holds (c.get-used.ensures) in
    wanted_here os list c.uses.number u c.in-Some.row is (wants_so os list c.uses.number u (Some c.in-Some.row) is (λ m at. c.in-Some.ensures list os m holds far are at)) (c.uses.invariant list os holds far are none)

pub uses-preserved : goal.uses-preserved
uses-preserved c = λ list os holds far are none.
    let kept = c.args.self.now in
    let u = c.get-used.result in
    let is = use_is list kept c.uses.number u holds (c.get-used.ensures) in
    wants_next os list c.uses.number u is (wants_so os list c.uses.number u None is (λ m at. c.in-None.ensures list os m holds far are at)) (c.uses.invariant list os holds far are none)

pub returns : goal.returns
returns c = λ list os holds far are none.
    let kept = c.args.self.now in
    let past : length kept.uses ≤ c.uses.number = omega (arith, c.uses-test.false, c.count.ensures) in
    wanted_none os list kept c.uses.number holds past (c.uses.invariant list os holds far are none)

pub returns-then-count-eq0 : goal.returns-then-count-eq0
returns-then-count-eq0 c = λ list os holds far are none.
    wanted_without_rows os list (omega (arith, length-map os origin_view, ap length are.origins, c.if-count-eq0.true, c.count.ensures))
