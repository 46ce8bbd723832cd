use Rattle.std.proofs.Common.{List, map, sym, subst, arith}
use Rattle.std.proofs.lemmas.Result.{err_from_is_err_and}
use Rattle.load_writer.specs.declared.written.Patch.{Patch}
use Rattle.load_writer.specs.WrittenParts.{seen}
use Rattle.omf_compact.specs.laws.Writing.{HasStretches}
use Rattle.omf_compact.proofs.SegmentLaws.{segment_there, place_of, written_none, written_more, written_long, written_all, err_moved}
use Rattle.omf_compact.proofs.segments.put_segments.Goals as goal

pub segments-init : goal.segments-init
segments-init c = written_none c.args.load.now c.args.out.now.items c.requires.empty

pub put_segment-requires-clause-there : goal.put_segment-requires-clause-there
put_segment-requires-clause-there c = segment_there c.args.load.now c.segments.index (omega (arith, c.segments-test.true, c.count-index-end.ensures))

pub put_segment-requires-clause-whole : goal.put_segment-requires-clause-whole
put_segment-requires-clause-whole c = λ s at.
    subst (λ (l : List Patch). HasStretches s (map seen l)) (sym c.as_slice.ensures.value)
    (c.requires.lists.each c.segments.index s c.in-Some.patches.now (place_of c.args.load.now c.segments.index s at) c.in-Some.ensures)

pub segments-preserved : goal.segments-preserved
segments-preserved c =
    let load = c.args.load.now in
    let i = c.segments.index in
    let found = segment_there load i (omega (arith, c.segments-test.true, c.count-index-end.ensures)) in
    written_more load i c.segments.place c.in_ok-place.place c.segments.out.items c.put_segment.new.out.items found.0 c.segments.invariant found.1 (c.in_ok-place.ensures.ok found.0 found.1) c.in_ok-place.ensures.next c.in_ok-place.ensures.short

pub returns-in_err-place-clause-too_long : goal.returns-in_err-place-clause-too_long
returns-in_err-place-clause-too_long c =
    let p = err_from_is_err_and c.from_residual.result c.from_residual.ensures.1 in
    rw (p.1, p.2) (λ e.
    let load = c.args.load.now in
    let i = c.segments.index in
    let found = segment_there load i (omega (arith, c.segments-test.true, c.count-index-end.ensures)) in
    written_long load i c.segments.place c.segments.out.items found.0 c.segments.invariant found.1 (c.in_err-place.ensures.too_long (err_moved _ _ e) found.0 found.1))

pub returns-clause-ok : goal.returns-clause-ok
returns-clause-ok c = written_all c.args.load.now c.segments.index c.segments.place c.segments.out.items c.segments.invariant (omega (arith, c.segments-test.false, c.count-index-end.ensures))
