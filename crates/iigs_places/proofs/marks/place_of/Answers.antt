use Rattle.iigs_places.proofs.Marked.{none_after}
use Rattle.iigs_places.proofs.marks.place_of.Goals as goal

pub returns-then-marks-place-2 : goal.returns-then-marks-place-2
returns-then-marks-place-2 c = none_after c.args.marks.now c.args.slot c.args.at c.count_before-count.result c.loop-place.place _ c.requires.order c.requires.same c.count_before-count.ensures
    c.loop-place.invariant.0 c.loop-place-test.true c.if-marks-place-2.true c.loop-place.invariant.1
