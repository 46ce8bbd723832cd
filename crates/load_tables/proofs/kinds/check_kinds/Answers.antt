use Rattle.std.proofs.Common.{List, length, get_or, ap, ◌∙◌, arith}
use Rattle.load_meaning.specs.Runtime.{kind_fault}
use Rattle.omf_records.specs.declared.segment.SegmentView.{SegmentView}
use Rattle.load_content.proofs.LoadViews.{passed_none, passed_more, passed_some, passed_all}
use Rattle.load_tables.proofs.kinds.check_kinds.Goals as goal

pub views-init : goal.views-init
views-init c = passed_none kind_fault c.args.views.now.items

pub returns-in-Some-clause-value : goal.returns-in-Some-clause-value
returns-in-Some-clause-value c =
    let views = c.args.views.now.items in
    let item = c.view-item.is ∙ ap (λ (l : List SegmentView). get_or l c.views.view-index c.view-item.result) c.deref-view-items.ensures.value in
    passed_some kind_fault views c.views.view-index c.views.number c.view-item.result c.fault_of.result c.in-Some.fault c.views.invariant (omega (arith, c.views-test.true, ap length c.deref-view-items.ensures.value)) item c.fault_of.ensures.value c.in-Some.is

pub overflow_add-number : goal.overflow_add-number
overflow_add-number c = omega (arith, c.views.invariant.place, c.views-test.true, c.deref-view-items.ensures.len, ap length c.deref-view-items.ensures.value, c.requires)

pub views-preserved : goal.views-preserved
views-preserved c =
    let views = c.args.views.now.items in
    let item = c.view-item.is ∙ ap (λ (l : List SegmentView). get_or l c.views.view-index c.view-item.result) c.deref-view-items.ensures.value in
    passed_more kind_fault views c.views.view-index c.views.number c.view-item.result c.fault_of.result c.views.invariant (omega (arith, c.views-test.true, ap length c.deref-view-items.ensures.value)) item c.fault_of.ensures.value c.in-None.is

pub returns-clause-value : goal.returns-clause-value
returns-clause-value c =
    passed_all kind_fault c.args.views.now.items c.views.view-index c.views.number c.views.invariant (omega (arith, c.views-test.false, ap length c.deref-view-items.ensures.value))
