use Rattle.std.proofs.Common.{◌≡◌, ◌-◌, ◌<◌, List, Some, length, get_or, map, take, refl, sym, ap, ◌∙◌, arith}
use Rattle.std.specs.Prelude.{◌||◌, slice_get, option_map}
use Rattle.std.specs.List.{list_any}
use Rattle.std.proofs.lemmas.Option.{slice_get_read, slice_get-map}
use Rattle.std.proofs.lemmas.List.{length-map}
use Rattle.std.proofs.lemmas.Result.{err_from_is_err_and}
use Rattle.load_meaning.specs.Pathnames.{has_pathnames}
use Rattle.load_meaning.specs.Loadable.{shape_fault, pathnames_fault}
use Rattle.load_meaning.specs.laws.Steps.{in_segment}
use Rattle.load_meaning.specs.laws.CellLaws.{shaped, length-segment_bytes}
use Rattle.omf_records.specs.declared.segment.SegmentView.{SegmentView}
use Rattle.omf_records.specs.Segments.{segment_of_view}
use Rattle.load_tables.specs.Paths.{paths_then, is_second}
use Rattle.load_tables.specs.View.{seen_paths}
use Rattle.load_content.proofs.LoadViews.{passed_none, passed_more, passed_some, passed_all}
use Rattle.load_content.proofs.Contents.{none_here}
use Rattle.load_content.proofs.NamedFaults.{unless_then}
use Rattle.load_tables.proofs.TableRuns.{any_more}
use Rattle.load_tables.proofs.PathSegments.{phase_after, first_passed, paths_none, paths_more, paths_all}
use Rattle.load_tables.proofs.pathnames.check_pathnames.Goals.{then-second, else-second}
use Rattle.load_tables.proofs.pathnames.check_pathnames.Goals as goal

pub take_paths-requires-clause-sized : goal.take_paths-requires-clause-sized
take_paths-requires-clause-sized c =
    let views = c.args.views.now.items in
    let v = c.view-item.result in
    let item = c.view-item.is ∙ ap (λ (l : List SegmentView). get_or l c.views.view-index v) c.deref-view-items.ensures.value in
    let lt : c.views.view-index < length views = omega (arith, c.views-test.true, ap length c.deref-view-items.ensures.value) in
    let none = none_here shape_fault views c.views.view-index c.views.number v c.views.invariant.shapes c.requires.sized lt item in
    length-segment_bytes (segment_of_view v) (shaped c.views.number (segment_of_view v) none).fits

pub views-preserved : goal.views-preserved
views-preserved c =
    let views = c.args.views.now.items in
    let segments = map segment_of_view views in
    let v = c.view-item.result in
    let i = c.views.view-index in
    let number = c.views.number in
    let inv = c.views.invariant in
    let item = c.view-item.is ∙ ap (λ (l : List SegmentView). get_or l i v) c.deref-view-items.ensures.value in
    let lt : i < length views = omega (arith, c.views-test.true, ap length c.deref-view-items.ensures.value) in
    let there : slice_get segments i ≡ Some (segment_of_view v) = slice_get-map segment_of_view views i ∙ ap (option_map segment_of_view) (slice_get_read views (length views) i v refl lt item) in
    let sized = none_here shape_fault views i number v inv.shapes c.requires.sized lt item in
    let place : i ≡ number - 1 = omega (arith, inv.passed.place) in
    let second : c.views.second ≡ is_second segments number = inv.second ∙ ap (λ n. list_any has_pathnames (take n segments)) place in
    let sound = sym (phase_after segments number (segment_of_view v) c.views.second second) ∙ c.in_ok-take_paths.ensures.sound in
    record {
      passed = passed_more (pathnames_fault segments) views i number v (option_map (in_segment number) (pathnames_fault segments number (segment_of_view v))) inv.passed lt item refl sound;
      shapes = passed_more shape_fault views i number v (option_map (in_segment number) (shape_fault number (segment_of_view v))) inv.shapes lt item refl (ap (λ o. option_map (in_segment number) o) sized);
      second = elim c.if-second.branch [
        | then-second w ↦ w.second-is ∙ w.if-second.true ∙ sym (any_more has_pathnames segments i (segment_of_view v) there ∙ ap (λ b. b || has_pathnames (segment_of_view v)) (sym inv.second ∙ w.if-second.true))
        | else-second w ↦ w.second-is ∙ w.has_pathnames-second.ensures ∙ sym (any_more has_pathnames segments i (segment_of_view v) there ∙ ap (λ b. b || has_pathnames (segment_of_view v)) (sym inv.second ∙ w.if-second.false))
      ];
      paths =
          c.in_ok-take_paths.ensures.paths ∙ ap (λ l. paths_then (segment_of_view v) l) inv.paths
          ∙ sym (paths_more segments i (segment_of_view v) there (λ is. sym inv.second ∙ first_passed c.views.second number (segment_of_view v) c.in_ok-take_paths.ensures.sound is));
    }

pub views-init : goal.views-init
views-init c =
    let views = c.args.views.now.items in
    record {
      passed = passed_none (pathnames_fault (map segment_of_view views)) views;
      shapes = passed_none shape_fault views;
      second = refl;
      paths = ap seen_paths c.new-paths.ensures.items ∙ sym paths_none;
    }

pub returns-in_err-take_paths-clause-refused : goal.returns-in_err-take_paths-clause-refused
returns-in_err-take_paths-clause-refused c =
    let p = err_from_is_err_and c.from_residual.result c.from_residual.ensures.1 in
    let views = c.args.views.now.items in
    let segments = map segment_of_view views in
    let v = c.view-item.result in
    let i = c.views.view-index in
    let number = c.views.number in
    let inv = c.views.invariant in
    let fault = c.in_err-take_paths.field-0.0 in
    let item = c.view-item.is ∙ ap (λ (l : List SegmentView). get_or l i v) c.deref-view-items.ensures.value in
    let lt : i < length views = omega (arith, c.views-test.true, ap length c.deref-view-items.ensures.value) in
    let place : i ≡ number - 1 = omega (arith, inv.passed.place) in
    let second : c.views.second ≡ is_second segments number = inv.second ∙ ap (λ n. list_any has_pathnames (take n segments)) place in
    rw (p.1, p.2)
    (unless_then fault.cause fault _ _
    (λ first. sym (passed_some (pathnames_fault segments) views i number v (option_map (in_segment number) (pathnames_fault segments number (segment_of_view v))) fault inv.passed lt item refl
    (sym (phase_after segments number (segment_of_view v) c.views.second second) ∙ first)))
    c.in_err-take_paths.ensures.refused)

pub returns-clause-sound : goal.returns-clause-sound
returns-clause-sound c =
    let views = c.args.views.now.items in
    sym (passed_all (pathnames_fault (map segment_of_view views)) views c.views.view-index c.views.number c.views.invariant.passed (omega (arith, c.views-test.false, ap length c.deref-view-items.ensures.value)))

pub returns-clause-paths : goal.returns-clause-paths
returns-clause-paths c =
    let segments = map segment_of_view c.args.views.now.items in
    c.views.invariant.paths ∙ paths_all segments c.views.view-index (omega (arith, c.views-test.false, ap length c.deref-view-items.ensures.value, length-map c.args.views.now.items segment_of_view))
