use Rattle.std.proofs.Common.{◌+◌, ◌<◌, ◌++◌, ◌∷◌, [], List, length, take, get_or, map, refl, sym, ap, subst, ◌∙◌, arith}
use Rattle.std.specs.Prelude.{option_map}
use Rattle.load_meaning.specs.Loadable.{shape_fault, target_fault}
use Rattle.load_meaning.specs.laws.Steps.{in_segment}
use Rattle.omf_records.specs.declared.segment.SegmentView.{SegmentView}
use Rattle.omf_records.specs.Segments.{segment_of_view}
use Rattle.load_content.specs.Content.{AreContents}
use Rattle.load_content.proofs.LoadViews.{passed_more}
use Rattle.load_content.proofs.Contents.{none_here, contents_push, take_more}
use Rattle.load_content.proofs.targets.contents_of.Goals as goal

pub content_of-requires-clause-sized : goal.content_of-requires-clause-sized
content_of-requires-clause-sized c =
    let views = c.args.views.now.items in
    let item = c.view-item.is ∙ ap (λ (l : List SegmentView). get_or l c.views.view-index c.view-item.result) c.deref-view-items.ensures.value in
    let lt : c.views.view-index < length views = omega (arith, c.views-test.true, ap length c.deref-view-items.ensures.value) in
    none_here shape_fault views c.views.view-index c.views.number c.view-item.result c.views.invariant.shapes c.requires.sized lt item

pub views-preserved : goal.views-preserved
views-preserved c =
    let views = c.args.views.now.items in
    let v = c.view-item.result in
    let i = c.views.view-index in
    let number = c.views.number in
    let phase = target_fault (map segment_of_view views) in
    let item = c.view-item.is ∙ ap (λ (l : List SegmentView). get_or l i v) c.deref-view-items.ensures.value in
    let lt : i < length views = omega (arith, c.views-test.true, ap length c.deref-view-items.ensures.value) in
    let sized = none_here shape_fault views i number v c.views.invariant.shapes c.requires.sized lt item in
    let pushed : AreContents (take i views ++ v ∷ []) (c.views.contents.items ++ c.in_ok-content.content ∷ []) =
    contents_push (take i views) c.views.contents.items v c.in_ok-content.content c.views.invariant.are c.in_ok-content.ensures.ok.1 in
    record {
      targets = passed_more phase views i number v (option_map (in_segment number) (phase number (segment_of_view v))) c.views.invariant.targets lt item refl
          (ap (λ o. option_map (in_segment number) o) c.in_ok-content.ensures.ok.0);
      shapes = passed_more shape_fault views i number v (option_map (in_segment number) (shape_fault number (segment_of_view v))) c.views.invariant.shapes lt item refl (ap (λ o. option_map (in_segment number) o) sized);
      are =
          subst (AreContents (take (i + 1) views)) (sym c.in_ok-push.ensures.items)
          (subst (λ (l : List SegmentView). AreContents l (c.views.contents.items ++ c.in_ok-content.content ∷ [])) (sym (take_more views i v lt item)) pushed);
    }
