use Rattle.std.proofs.Common.{arith}
use Rattle.iigs_places.proofs.Covered.{joined_none, joined_more, joined_all}
use Rattle.iigs_places.proofs.runs.join_marks.Goals as goal

pub loop-first-preserved : goal.loop-first-preserved
loop-first-preserved c = (
  rw c.push_reserved.ensures.items (joined_more c.args.marks.now c.loop-first.first _ _ c.stretch_from-stretch.result c.loop-first.runs.items c.loop-first-test.true c.requires.order c.stretch_from-stretch.ensures c.loop-first.invariant.0),
  c.stretch_from-stretch.ensures.within,
  omega (arith, c.push_reserved.ensures.len, c.stretch_from-stretch.ensures.after, c.loop-first.invariant.2),
  omega (arith, c.push_reserved.ensures.capacity, c.loop-first.invariant.3),
)

pub loop-first-init : goal.loop-first-init
loop-first-init c = (rw c.clear.ensures.items (joined_none c.args.marks.now), omega arith, omega (arith, c.clear.ensures.len), omega (arith, c.clear.ensures.capacity))

pub returns-clause-cover : goal.returns-clause-cover
returns-clause-cover c = joined_all c.args.marks.now c.loop-first.first c.loop-first.runs.items (omega (arith, c.loop-first-test.false)) c.loop-first.invariant.0
