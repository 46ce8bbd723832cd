use Rattle.std.proofs.Common.{◌≡◌, ℕ, suc, ◌+◌, ◌<◌, List, Some, length, drop, get_or, map, refl, sym, ap, ◌∙◌, arith}
use Rattle.std.specs.Prelude.{if◌then◌else◌}
use Rattle.load_meaning.specs.LoadTable.{table_from}
use Rattle.omf_records.specs.declared.segment.SegmentView.{SegmentView}
use Rattle.omf_records.specs.Segments.{segment_of_view}
use Rattle.load_tables.proofs.TableSearch.{table-next, table-past}
use Rattle.load_tables.proofs.table.table_of.Goals as goal

pub views-init : goal.views-init
views-init c = record { place = refl; same = refl }

pub returns-then-is_table : goal.returns-then-is_table
returns-then-is_table c =
    let views = c.args.views.now.items in
    let v = c.view-item.result in
    let i = c.views.view-index in
    let item = c.view-item.is ∙ ap (λ (l : List SegmentView). get_or l i v) c.deref-view-items.ensures.value in
    let lt : i < length views = omega (arith, c.views-test.true, ap length c.deref-view-items.ensures.value) in
    sym (c.views.invariant.same ∙ table-next views i c.views.number v lt item
    ∙ ap (λ b. if b then Some c.views.number else table_from (c.views.number + 1) (map segment_of_view (drop (suc i) views))) (sym c.is_table.ensures ∙ c.if-is_table.true))

pub overflow_add-number : goal.overflow_add-number
overflow_add-number c = omega (arith, c.views.invariant.place, c.views-test.true, ap length c.deref-view-items.ensures.value, c.requires)

pub views-preserved : goal.views-preserved
views-preserved c =
    let views = c.args.views.now.items in
    let v = c.view-item.result in
    let i = c.views.view-index in
    let item = c.view-item.is ∙ ap (λ (l : List SegmentView). get_or l i v) c.deref-view-items.ensures.value in
    let lt : i < length views = omega (arith, c.views-test.true, ap length c.deref-view-items.ensures.value) in
    let step : suc i ≡ i + 1 = omega arith in
    record {
      place = omega (arith, c.views.invariant.place);
      same =
          c.views.invariant.same ∙ table-next views i c.views.number v lt item
          ∙ ap (λ b. if b then Some c.views.number else table_from (c.views.number + 1) (map segment_of_view (drop (suc i) views))) (sym c.is_table.ensures ∙ c.if-is_table.false)
          ∙ ap (λ (n : ℕ). table_from (c.views.number + 1) (map segment_of_view (drop n views))) step;
    }

pub returns : goal.returns
returns c =
    sym (c.views.invariant.same ∙ table-past c.args.views.now.items c.views.view-index c.views.number (omega (arith, c.views-test.false, ap length c.deref-view-items.ensures.value)))
