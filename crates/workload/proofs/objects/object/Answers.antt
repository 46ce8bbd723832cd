use Rattle.std.proofs.Common.{length, ap, arith}
use Rattle.workload.proofs.Parts.{segments_end, object_short}
use Rattle.workload.proofs.objects.object.Goals as goal

pub returns-clause-made : goal.returns-clause-made
returns-clause-made c =
    (segments_end c.args.n c.args.draws.now.last c.segments.i c.segments.draws.last c.segments.object.items c.segments.invariant (omega (arith, c.segments-test.false))).0

pub returns-clause-following : goal.returns-clause-following
returns-clause-following c =
    (segments_end c.args.n c.args.draws.now.last c.segments.i c.segments.draws.last c.segments.object.items c.segments.invariant (omega (arith, c.segments-test.false))).1

pub returns-clause-short : goal.returns-clause-short
returns-clause-short c = omega (arith, ap length (returns-clause-made c), object_short c.args.n c.args.draws.now.last c.requires)
