use Rattle.std.proofs.Common.{◌+◌, List, sym, subst, arith}
use Rattle.std.proofs.lemmas.Result.{err_from_is_err_and}
use Rattle.omf_records.specs.declared.segment.SegmentView.{SegmentView}
use Rattle.omf_records.proofs.Lists.{Listed, view_lies, listed_more, few_listed, views_fit, is_file, refused}
use Rattle.omf_records.proofs.list.segments.Goals as goal

pub returns-in_err-view-clause-refused : goal.returns-in_err-view-clause-refused
returns-in_err-view-clause-refused c =
    let p = err_from_is_err_and c.from_residual.result c.from_residual.ensures.1 in
    rw (p.1, p.2)
    (refused c.args.file.now c.segments.views.items c.in_err-view.field-0.0 c.segments.start c.segments.number c.segments.invariant c.segments-test.true c.in_err-view.ensures.err)

pub overflow_add-number : goal.overflow_add-number
overflow_add-number c =
    omega (arith, few_listed c.args.file.now c.segments.views.items c.segments.start c.segments.number c.segments.invariant, c.segments-test.true, c.requires)

pub segments-smaller : goal.segments-smaller
segments-smaller c =
    let lies = view_lies c.args.file.now c.in_ok-view.view c.in_ok-view.ensures.ok in
    omega (arith, lies.some, lies.within, c.in_ok-view.ensures.start, c.segments-test.true)

pub segments-preserved : goal.segments-preserved
segments-preserved c =
    let more = listed_more c.args.file.now c.segments.views.items c.in_ok-view.view c.segments.start c.segments.number c.segments.invariant c.in_ok-view.ensures.start c.in_ok-view.ensures.ok c.segments-test.true in
    subst (λ (views : List SegmentView). Listed c.args.file.now views (c.segments.start + c.in_ok-view.view.header.byte_count) (c.segments.number + 1)) (sym c.in_ok-push.ensures.items) more

pub invariant_of-result : goal.invariant_of-result
invariant_of-result c = views_fit c.args.file.now c.segments.views.items c.segments.start c.segments.number c.requires c.segments.invariant

pub returns-clause-found : goal.returns-clause-found
returns-clause-found c = is_file c.args.file.now c.segments.views.items c.segments.start c.segments.number c.segments.invariant c.segments-test.false
