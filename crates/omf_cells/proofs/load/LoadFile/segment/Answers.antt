use Rattle.std.proofs.Common.{◌≡◌, ◌-◌, ◌<◌, List, Some, length, get_or, refl, subst, ◌∙◌, ap, arith}
use Rattle.std.specs.Prelude.{slice_get}
use Rattle.std.proofs.lemmas.Option.{slice_get_read}
use Rattle.omf_format.specs.File.{Segment}
use Rattle.omf_records.specs.declared.segment.SegmentView.{SegmentView}
use Rattle.omf_cells.specs.Load.{Shows}
use Rattle.omf_cells.proofs.LoadShows.{shows}
use Rattle.omf_cells.proofs.load.LoadFile.segment.Goals as goal

pub returns-in-Some : goal.returns-in-Some
returns-in-Some c =
    let v = c.in-Some.view.now in
    let views = c.self.inside.views.items in
    let place = c.args.number - 1 in
    let more : 0 < c.args.number = omega (arith, c.if-number-eq0.false) in
    let lt : place < length views = omega (arith, c.in-Some.ensures.lookup.3.0, ap length c.deref.ensures.value) in
    let item : v ≡ get_or views place v = c.in-Some.ensures.lookup.1 ∙ ap (λ (l : List SegmentView). get_or l place v) c.deref.ensures.value in
    let found : slice_get views place ≡ Some v = slice_get_read views (length views) place v refl lt item in
    subst (λ (segments : List Segment). Shows segments c.args.number v) c.self.view_is (shows views c.self.inside.contents.items c.args.number v c.self.invariant.views' more found)
