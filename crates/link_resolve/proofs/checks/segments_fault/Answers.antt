use Rattle.std.proofs.Common.{sym, ◌∙◌, arith}
use Rattle.omf_records.specs.Segments.{segment_of_view}
use Rattle.omf_records.specs.SegmentLaws.{shown_at, none_past}
use Rattle.link_resolve.proofs.SegmentsLeft.{left_more, left_here}
use Rattle.link_resolve.proofs.checks.segments_fault.Goals as goal

pub returns-in-Some-segment_fault : goal.returns-in-Some-segment_fault
returns-in-Some-segment_fault c =
    let there = shown_at c.args.list.now c.segments.number c.in-Some.segment.now c.in-Some.ensures.value in
    left_here c.args.list.now c.segments.number (segment_of_view c.in-Some.segment.now) c.in-Some-segment_fault.found c.segments.invariant there (sym c.segment_fault.ensures ∙ c.in-Some-segment_fault.is)

pub segments-preserved : goal.segments-preserved
segments-preserved c =
    let there = shown_at c.args.list.now c.segments.number c.in-Some.segment.now c.in-Some.ensures.value in
    left_more c.args.list.now c.segments.number (segment_of_view c.in-Some.segment.now) c.segments.invariant there (sym c.segment_fault.ensures ∙ c.in-None-segment_fault.is) (omega (arith, c.segments-test.true, c.count.ensures))

pub unreachable-requires : goal.unreachable-requires
unreachable-requires c =
    let past = none_past c.args.list.now c.segments.number c.in-None.ensures.value in
    omega (arith, past, c.segments-test.true, c.count.ensures)
