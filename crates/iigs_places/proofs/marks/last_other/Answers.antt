use Rattle.std.proofs.Common.{arith}
use Rattle.iigs_places.proofs.Neighbours.{other_none, other_first, other_alone, other_second}
use Rattle.iigs_places.proofs.marks.last_other.Goals as goal

pub returns-then-count-eq0 : goal.returns-then-count-eq0
returns-then-count-eq0 c = other_none c.args.marks.now c.args.address c.count_before-count.result c.count_before-count.ensures c.requires.order c.args.slot c.requires.once
    (omega (arith, c.if-count-eq0.true))

pub returns-then-marks-count : goal.returns-then-marks-count
returns-then-marks-count c = other_first c.args.marks.now c.args.address c.count_before-count.result c.count_before-count.ensures c.requires.order c.args.slot c.requires.once _
    (omega (arith, c.if-count-eq0.false)) c.if-marks-count.true

pub returns-then-count-eq1 : goal.returns-then-count-eq1
returns-then-count-eq1 c = other_alone c.args.marks.now c.args.address c.count_before-count.result c.count_before-count.ensures c.requires.order c.args.slot c.requires.once _
    (omega (arith, c.if-count-eq1.true)) c.if-marks-count.false

pub returns : goal.returns
returns c = other_second c.args.marks.now c.args.address c.count_before-count.result c.count_before-count.ensures c.requires.order c.args.slot c.requires.once _
    (omega (arith, c.if-count-eq0.false, c.if-count-eq1.false)) c.if-marks-count.false
