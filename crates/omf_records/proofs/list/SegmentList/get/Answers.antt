use Rattle.std.proofs.Common.{◌≡◌, ◌-◌, ◌<◌, ◌≤◌, List, Some, None, length, get_or, refl, sym, subst, ◌∙◌, ap, arith}
use Rattle.std.specs.Prelude.{slice_get}
use Rattle.std.proofs.lemmas.Bool.{ltb-false}
use Rattle.std.proofs.lemmas.Option.{slice_get_read, slice_get_past}
use Rattle.omf_format.specs.File.{Segment, segment_at}
use Rattle.omf_records.specs.declared.segment.SegmentView.{SegmentView}
use Rattle.omf_records.specs.Segments.{segment_of_view}
use Rattle.omf_records.proofs.Lists.{at_none, at_some}
use Rattle.omf_records.proofs.list.SegmentList.get.Goals as goal

pub returns-in-Some-clause-value : goal.returns-in-Some-clause-value
returns-in-Some-clause-value c =
    let v = c.in-Some.view.now in
    let views = c.self.inside.views.items in
    let place = c.args.place - 1 in
    let more : 0 < c.args.place = omega (arith, c.if-place-eq0.false) in
    let lt : place < length views = omega (arith, c.in-Some.ensures.lookup.3.0, ap length c.deref.ensures.value) in
    let item : v ≡ get_or views place v = c.in-Some.ensures.lookup.1 ∙ ap (λ (l : List SegmentView). get_or l place v) c.deref.ensures.value in
    let found : slice_get views place ≡ Some v = slice_get_read views (length views) place v refl lt item in
    sym (subst (λ (segments : List Segment). segment_at segments c.args.place ≡ Some (segment_of_view v)) c.self.view_is (at_some views c.args.place v more found))

pub returns-in-None-clause-value : goal.returns-in-None-clause-value
returns-in-None-clause-value c =
    let views = c.self.inside.views.items in
    let past : length c.deref.result.now ≤ c.args.place - 1 = ltb-false (c.args.place - 1) (length c.deref.result.now) (sym c.in-None.ensures.lookup.0) in
    let none : slice_get views (c.args.place - 1) ≡ None = slice_get_past views (c.args.place - 1) (omega (arith, past, ap length c.deref.ensures.value)) in
    sym (subst (λ (segments : List Segment). segment_at segments c.args.place ≡ None) c.self.view_is (at_none views c.args.place (λ more. none)))
