use Rattle.std.proofs.Common.{arith}
use Rattle.loader_users.proofs.Lies.{none_more}
use Rattle.loader_users.proofs.locate.search.Goals as goal

pub segments-preserved : goal.segments-preserved
segments-preserved c = record {
  none = none_more c.args.banks.now.slots c.args.segments.now.items c.deref-segment-items.result.now c.args.h c.segments.segment-index c.args.address _ c.deref-segment-items.ensures.value c.segments-test.true
      c.segments.invariant.none c.in-None-offset_in.ensures;
  count = omega (arith, c.segments.invariant.count);
}
