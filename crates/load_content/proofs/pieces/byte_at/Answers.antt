use Rattle.std.proofs.Common.{◌-◌, sym, ◌∙◌, arith}
use Rattle.load_content.proofs.Splits.{get_there}
use Rattle.load_content.proofs.PieceLists.{none_begins, covered, uncovered}
use Rattle.load_content.proofs.pieces.byte_at.Goals as goal

pub returns-then-count-eq0 : goal.returns-then-count-eq0
returns-then-count-eq0 c = λ bytes are lt.
    none_begins c.args.pieces.now bytes c.args.at are lt (λ i p is. c.count_up_to-count.ensures.split.following i p (omega (arith, c.if-count-eq0.true)) is)

pub overflow_sub-at : goal.overflow_sub-at
overflow_sub-at c =
    let place = c.count_up_to-count.result - 1 in
    let there = get_there c.args.pieces.now place _ (omega (arith, c.count_up_to-count.ensures.bound, c.if-count-eq0.false)) in
    c.count_up_to-count.ensures.split.before place _ (omega (arith, c.if-count-eq0.false)) there

pub returns-in-Some : goal.returns-in-Some
returns-in-Some c = λ bytes are lt.
    let place = c.count_up_to-count.result - 1 in
    let there = get_there c.args.pieces.now place _ (omega (arith, c.count_up_to-count.ensures.bound, c.if-count-eq0.false)) in
    let low = c.count_up_to-count.ensures.split.before place _ (omega (arith, c.if-count-eq0.false)) there in
    covered c.args.pieces.now bytes c.args.at place _ _ are there low (sym c.nth.ensures ∙ c.in-Some.is)

pub returns-in-None : goal.returns-in-None
returns-in-None c = λ bytes are lt.
    let place = c.count_up_to-count.result - 1 in
    let there = get_there c.args.pieces.now place _ (omega (arith, c.count_up_to-count.ensures.bound, c.if-count-eq0.false)) in
    let low = c.count_up_to-count.ensures.split.before place _ (omega (arith, c.if-count-eq0.false)) there in
    uncovered c.args.pieces.now bytes c.args.at place _ are lt there low (sym c.nth.ensures ∙ c.in-None.is)
    (λ j q after is. c.count_up_to-count.ensures.split.following j q (omega (arith, after)) is)
