use Rattle.std.proofs.Common.{arith}
use Rattle.iigs_places.proofs.Covered.{stretch_one, stretch_more}
use Rattle.iigs_places.proofs.runs.stretch_from.Goals as goal

pub loop-place-init : goal.loop-place-init
loop-place-init c = stretch_one c.args.marks.now c.args.first _ c.requires.inside c.requires.sized

pub loop-place-preserved : goal.loop-place-preserved
loop-place-preserved c = stretch_more c.args.marks.now c.args.first c.loop-place.end c.loop-place.place _ c.loop-place-test.true c.requires.sized c.loop-place.invariant (omega (arith, c.if-marks-place.false))
