use Rattle.std.proofs.Common.{arith}
use Rattle.iigs_places.proofs.Neighbours.{all_before, first_is}
use Rattle.iigs_places.proofs.marks.first_from.Goals as goal

pub returns-then-count-marks : goal.returns-then-count-marks
returns-then-count-marks c = all_before c.args.marks.now c.args.address c.count_before-count.result c.count_before-count.ensures c.requires (omega (arith, c.if-count-marks.true))

pub returns : goal.returns
returns c = first_is c.args.marks.now c.args.address c.count_before-count.result c.count_before-count.ensures c.requires _ (omega (arith, c.if-count-marks.false, c.count_before-count.ensures.within))
