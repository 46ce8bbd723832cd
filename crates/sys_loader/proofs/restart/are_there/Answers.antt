use Rattle.std.proofs.Common.{sym, ◌∙◌}
use Rattle.sys_loader.proofs.Static.{all_more_sought, one_missing, all_there}
use Rattle.sys_loader.proofs.restart.are_there.Goals as goal

pub segments-preserved : goal.segments-preserved
segments-preserved c =
    all_more_sought c.args.banks.now.slots c.args.segments.now.items c.deref-segment-items.result.now c.segments.segment-index _ c.deref-segment-items.ensures.value c.segments-test.true c.segments.invariant
    (sym c.is_missing.ensures ∙ c.if-is_missing.false)

pub returns-then-is_missing : goal.returns-then-is_missing
returns-then-is_missing c =
    sym (one_missing c.args.banks.now.slots c.args.segments.now.items c.deref-segment-items.result.now c.segments.segment-index _ c.deref-segment-items.ensures.value c.segments-test.true c.segments.invariant
    (sym c.is_missing.ensures ∙ c.if-is_missing.true))

pub returns : goal.returns
returns c = sym (all_there c.args.banks.now.slots c.args.segments.now.items c.deref-segment-items.result.now c.segments.segment-index c.deref-segment-items.ensures.value c.segments.invariant c.segments-test.false)
