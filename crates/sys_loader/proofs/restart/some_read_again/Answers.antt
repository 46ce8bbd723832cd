use Rattle.std.proofs.Common.{sym, ◌∙◌}
use Rattle.sys_loader.proofs.Static.{again_more_sought, one_again, none_again_left}
use Rattle.sys_loader.proofs.restart.some_read_again.Goals as goal

pub segments-preserved : goal.segments-preserved
segments-preserved c =
    again_more_sought c.args.segments.now.items c.deref-segment-items.result.now c.segments.segment-index _ c.deref-segment-items.ensures.value c.segments-test.true c.segments.invariant
    (sym c.is_read_again.ensures ∙ c.if-is_read_again.false)

pub returns-then-is_read_again : goal.returns-then-is_read_again
returns-then-is_read_again c =
    sym (one_again c.args.segments.now.items c.deref-segment-items.result.now c.segments.segment-index _ c.deref-segment-items.ensures.value c.segments-test.true c.segments.invariant
    (sym c.is_read_again.ensures ∙ c.if-is_read_again.true))

pub returns : goal.returns
returns c = sym (none_again_left c.args.segments.now.items c.deref-segment-items.result.now c.segments.segment-index c.deref-segment-items.ensures.value c.segments.invariant c.segments-test.false)
