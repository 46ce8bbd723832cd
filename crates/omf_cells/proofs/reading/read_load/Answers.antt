use Rattle.std.proofs.Common.{◌≡◌, ◌+◌, ◌++◌, ◌∷◌, [], List, length, map, sym, ap, subst, ◌∙◌, arith}
use Rattle.std.proofs.lemmas.Bool.{eqb-false}
use Rattle.std.proofs.lemmas.List.{map-append}
use Rattle.std.proofs.lemmas.Result.{err_from_is_err_and}
use Rattle.omf_format.specs.Reading.{Reader, records_of}
use Rattle.omf_records.specs.Segments.{placed_view, segment_of_view}
use Rattle.omf_records.specs.declared.segment.SegmentView.{SegmentView}
use Rattle.load_tables.proofs.ExportWalks.{exported_all, exports_by, exports_by-one, exports_are, body_short}
use Rattle.omf_cells.proofs.ReadSegments.{Read, view_lies, read_more, read_loadable, refused_in, few_read}
use Rattle.omf_cells.proofs.reading.read_load.Goals as goal

pub returns-in_err-view-clause-refused : goal.returns-in_err-view-clause-refused
returns-in_err-view-clause-refused c =
    let p = err_from_is_err_and c.from_residual.result c.from_residual.ensures.1 in
    rw (p.1, p.2)
    (refused_in c.args.file.now c.segments.views.items c.in_err-view.field-0.0 c.segments.start c.segments.number c.segments.invariant.read c.segments-test.true c.in_err-view.ensures.err)

pub overflow_add-number : goal.overflow_add-number
overflow_add-number c = omega (arith, few_read c.args.file.now c.segments.views.items c.segments.start c.segments.number c.segments.invariant.read, c.segments-test.true, c.requires)

pub segments-smaller : goal.segments-smaller
segments-smaller c =
    let lies = view_lies c.args.file.now c.in_ok-view.view c.in_ok-view.ensures.ok in
    omega (arith, lies.some, lies.within, c.in_ok-view.ensures.start, c.segments-test.true)

pub segments-preserved : goal.segments-preserved
segments-preserved c =
    let inv = c.segments.invariant in
    let v = c.in_ok-view.view in
    let views = c.segments.views.items in
    let more = read_more c.args.file.now views v c.segments.start c.segments.number inv.read c.in_ok-view.ensures.start c.segments-test.true c.in_ok-view.ensures.ok in
    let pushed = c.in_ok-push.ensures.items in
    let whole : map segment_of_view (views ++ v ∷ []) ≡ map segment_of_view views ++ segment_of_view v ∷ [] = map-append segment_of_view views (v ∷ []) in
    let all = c.in_ok-add_exports.ensures.value ∙ ap (λ l. l ++ exported_all v.header.seg_num (records_of c.records.result)) inv.exported
    ∙ ap (λ (r : Reader). exports_by (map segment_of_view views) ++ exported_all v.header.seg_num (records_of r)) c.records.ensures ∙ sym (exports_by-one (map segment_of_view views) (segment_of_view v)) in
    let short = body_short v.start (placed_view v).fields v.file.now in
    record {
      read = subst (λ (l : List SegmentView). Read c.args.file.now l (c.segments.start + v.header.byte_count) (c.segments.number + 1)) (sym pushed) more;
      exported = all ∙ ap exports_by (sym whole) ∙ ap (λ (l : List SegmentView). exports_by (map segment_of_view l)) (sym pushed);
      few = omega (arith, inv.few, c.in_ok-add_exports.ensures.few, ap (λ (r : Reader). length r.left) c.records.ensures, short);
    }

pub invariant_of-result : goal.invariant_of-result
invariant_of-result c =
    let file = c.args.file.now in
    let views = c.segments.views.items in
    let inv = c.segments.invariant in
    let later = c.in_ok-contents.ensures in
    record {
      views' = record {
        file = file;
        short = c.requires;
        each = inv.read.each;
        loadable = read_loadable file views c.segments.start c.segments.number inv.read (omega (arith, c.segments-test.false)) (eqb-false (length file) 0 (sym c.is_empty.ensures ∙ c.if-is_empty.false)) later.sound;
        contents' = later.contents;
      };
      exports' = inv.exported ∙ exports_are (map segment_of_view views) later.sound;
      few = omega (arith, inv.few, inv.read.within, c.requires);
      paths' = later.paths;
    }
