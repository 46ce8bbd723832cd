use Rattle.std.proofs.Common.{arith}
use Rattle.iigs_memory.proofs.Cleared.{give_next}
use Rattle.iigs_memory.proofs.placed.give.Goals as goal

pub loop-place-preserved : goal.loop-place-preserved
loop-place-preserved c = give_next c.loop-place.handles c.args.made.now c.loop-place.place _
    (omega (arith, c.loop-place.auto.handles, c.requires, c.loop-place-test.true)) c.loop-place-test.true c.loop-place.invariant
