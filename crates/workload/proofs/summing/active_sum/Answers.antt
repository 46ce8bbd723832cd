use Rattle.std.proofs.Common.{arith}
use Rattle.workload.proofs.Sums.{sum_step, sum_end}
use Rattle.workload.proofs.summing.active_sum.Goals as goal

pub segments-preserved : goal.segments-preserved
segments-preserved c = λ held state agrees.
    sum_step held state c.args.count c.segments.segment c.segments.sum c.sum_of-sum.result c.active_bytes.result.now (c.segments.invariant held state agrees)
    (omega (arith, c.segments-test.true)) (c.active_bytes.ensures held state agrees) c.sum_of-sum.ensures

pub returns : goal.returns
returns c = λ held state agrees.
    sum_end held state c.args.count c.segments.segment c.segments.sum (c.segments.invariant held state agrees) (omega (arith, c.segments-test.false))
