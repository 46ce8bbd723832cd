use Rattle.std.proofs.Common.{◌≡◌, ◌-◌, ◌<◌, List, Some, length, get_or, map, refl, sym, ap, subst, ◌∙◌, arith}
use Rattle.std.specs.Prelude.{◌||◌, slice_get}
use Rattle.std.proofs.lemmas.Option.{slice_get_read, slice_get-map}
use Rattle.std.specs.Prelude.{option_map}
use Rattle.load_meaning.specs.LoadTable.{is_table}
use Rattle.load_meaning.specs.Loadable.{table_fault}
use Rattle.omf_records.specs.declared.segment.SegmentView.{SegmentView}
use Rattle.omf_records.specs.Segments.{segment_of_view}
use Rattle.load_content.specs.declared.targets.SegmentContent.{SegmentContent}
use Rattle.load_content.specs.Content.{HasPieces}
use Rattle.load_content.proofs.LoadViews.{passed_more}
use Rattle.load_content.proofs.Contents.{contents_at, contents_count}
use Rattle.load_tables.proofs.TableRuns.{any_more, some_and}
use Rattle.load_tables.proofs.table.check_tables.Goals.{then-second, else-second}
use Rattle.load_tables.proofs.table.check_tables.Goals as goal

pub pieces_at-pieces-requires : goal.pieces_at-pieces-requires
pieces_at-pieces-requires c =
    omega (arith, c.views.invariant.passed.place, c.views-test.true, ap length c.deref-view-items.ensures.value, contents_count c.args.views.now.items c.args.contents.now.items c.requires.contents)

pub fault_of-requires-clause-pieces : goal.fault_of-requires-clause-pieces
fault_of-requires-clause-pieces c =
    let views = c.args.views.now.items in
    let v = c.view-item.result in
    let i = c.views.view-index in
    let item = c.view-item.is ∙ ap (λ (l : List SegmentView). get_or l i v) c.deref-view-items.ensures.value in
    let lt : i < length views = omega (arith, c.views-test.true, ap length c.deref-view-items.ensures.value) in
    let place : i ≡ c.views.number - 1 = omega (arith, c.views.invariant.passed.place) in
    let there : slice_get views (c.views.number - 1) ≡ Some v = sym (ap (slice_get views) place) ∙ slice_get_read views (length views) i v refl lt item in
    let found = some_and (slice_get c.args.contents.now.items (c.views.number - 1)) (λ (content : SegmentContent). content.pieces.items ≡ c.pieces_at-pieces.result.now) c.pieces_at-pieces.ensures in
    subst (HasPieces v) found.2 (contents_at views c.args.contents.now.items c.requires.contents (c.views.number - 1) v found.0 there found.1).pieces

pub views-preserved : goal.views-preserved
views-preserved c =
    let views = c.args.views.now.items in
    let segments = map segment_of_view views in
    let v = c.view-item.result in
    let i = c.views.view-index in
    let item = c.view-item.is ∙ ap (λ (l : List SegmentView). get_or l i v) c.deref-view-items.ensures.value in
    let lt : i < length views = omega (arith, c.views-test.true, ap length c.deref-view-items.ensures.value) in
    let there : slice_get segments i ≡ Some (segment_of_view v) = slice_get-map segment_of_view views i ∙ ap (option_map segment_of_view) (slice_get_read views (length views) i v refl lt item) in
    record {
      passed = passed_more (table_fault segments) views i c.views.number v c.fault_of.result c.views.invariant.passed lt item c.fault_of.ensures.value c.in-None.is;
      second = elim c.if-second.branch [
        | then-second w ↦ w.second-is ∙ w.if-second.true ∙ sym (any_more is_table segments i (segment_of_view v) there ∙ ap (λ b. b || is_table (segment_of_view v)) (sym c.views.invariant.second ∙ w.if-second.true))
        | else-second w ↦ w.second-is ∙ w.is_table-second.ensures ∙ sym (any_more is_table segments i (segment_of_view v) there ∙ ap (λ b. b || is_table (segment_of_view v)) (sym c.views.invariant.second ∙ w.if-second.false))
      ];
    }
