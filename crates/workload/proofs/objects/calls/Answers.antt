use Rattle.std.proofs.Common.{length, ap, arith}
use Rattle.workload.proofs.Parts.{calls_end, calls_short}
use Rattle.workload.proofs.objects.calls.Goals as goal

pub returns-clause-records : goal.returns-clause-records
returns-clause-records c =
    calls_end c.args.n c.calls.i c.calls.body.items c.append_record.new.body.items c.calls.invariant (omega (arith, c.calls-test.false)) c.in_ok-append_record.ensures

pub returns-clause-short : goal.returns-clause-short
returns-clause-short c = omega (arith, ap length (returns-clause-records c), calls_short c.args.n 1 (omega (arith, c.requires)), c.requires)
