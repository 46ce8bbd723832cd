use Rattle.std.proofs.Common.{arith, ◌<◌, length, get_or, ◌≡◌}
use Rattle.std.proofs.lemmas.Grind.{common_steps}
use Rattle.iigs_places.proofs.Beside.{least_before, none_before, past_there}
use Rattle.iigs_places.proofs.search.least_among.Goals as goal

pub returns-then-place-want : goal.returns-then-place-want
returns-then-place-want c = least_before c.args.map.now c.args.want.now c.args.spots.now c.args.limit c.loop-place.from c.loop-place.index c.in-Some.place c.first_after-index.result
    c.requires.order c.loop-place.invariant.2 c.loop-place.invariant.3 c.in-Some.ensures c.first_after-index.ensures.past (λ d inside. grind (arith, common_steps))

pub loop-place-preserved : goal.loop-place-preserved
loop-place-preserved c =
    let spot = c.in-Some-get.spot.now in
    let next = c.first_after-index.result in
    let inside : next < length c.args.spots.now = grind (arith, common_steps) in
    let is : get_or c.args.spots.now next spot ≡ spot = grind (arith, common_steps) in
    let here = c.first_after-index.ensures.here spot inside in (
      c.run_from-run.ensures.within,
      c.run_from-run.ensures.inside,
      none_before c.args.map.now c.args.want.now c.args.spots.now c.args.limit c.loop-place.from c.loop-place.index c.in-Some.place next c.run_from-run.result.end spot
          c.loop-place.invariant.2 c.in-Some.ensures inside here.0 (rw is (omega (arith, c.if-place-want.false))) (c.run_from-run.ensures.full spot),
      past_there c.args.map.now c.args.want.now c.args.spots.now c.args.limit c.loop-place.from c.loop-place.index c.in-Some.place next c.run_from-run.result.end c.run_from-run.result.next
          c.in-Some.ensures.after (omega (arith, here.1, c.run_from-run.ensures.after spot)) c.loop-place.invariant.3 c.first_after-index.ensures.past c.run_from-run.ensures.past,
    )
