use Rattle.std.proofs.Common.{arith}
use Rattle.omf_records.specs.Segments.{segment_of_view}
use Rattle.omf_records.specs.SegmentLaws.{shown_at, none_past}
use Rattle.w65_list.proofs.SourceLaws.{segments_on, segments_end, segments_stop}
use Rattle.w65_list.proofs.source.put_file.Goals as goal

pub segments-preserved : goal.segments-preserved
segments-preserved c =
    let found = shown_at c.args.list.now c.segments.place c.in-Some.view.now c.in-Some.ensures.value in
    segments_on c.args.list.now c.segments.place (segment_of_view c.in-Some.view.now) c.segments.out c.put_segment.new.out c.segments.invariant found c.in-Ok.ensures.wrote

pub returns-in-Err-clause-refused : goal.returns-in-Err-clause-refused
returns-in-Err-clause-refused c =
    let found = shown_at c.args.list.now c.segments.place c.in-Some.view.now c.in-Some.ensures.value in
    segments_stop c.args.list.now c.segments.place (segment_of_view c.in-Some.view.now) c.segments.out c.in-Err.refusal c.segment_fault.result c.segments.invariant found c.in-Err.ensures.refused c.segment_fault.ensures

pub unreachable-requires : goal.unreachable-requires
unreachable-requires c = omega (arith, none_past c.args.list.now c.segments.place c.in-None.ensures.value, c.segments-test.true, c.count-place-end.ensures)

pub returns-clause-wrote : goal.returns-clause-wrote
returns-clause-wrote c = segments_end c.args.list.now c.segments.place c.segments.out c.segments.invariant (omega (arith, c.segments-test.false, c.count-place-end.ensures))
