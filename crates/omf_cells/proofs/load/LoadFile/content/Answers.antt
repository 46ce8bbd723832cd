use Rattle.std.proofs.Common.{◌≡◌, ◌-◌, ◌<◌, List, Some, length, refl, subst, arith}
use Rattle.std.specs.Prelude.{slice_get}
use Rattle.std.proofs.lemmas.Option.{slice_get_read}
use Rattle.omf_format.specs.File.{Segment}
use Rattle.omf_cells.specs.Load.{ShowsContent}
use Rattle.load_content.proofs.Contents.{contents_count}
use Rattle.omf_cells.proofs.LoadShows.{shows_content}
use Rattle.omf_cells.proofs.load.LoadFile.content.Goals as goal

pub index-requires-then-place-len : goal.index-requires-then-place-len
index-requires-then-place-len c =
    omega (arith, c.if-place-len.true, c.len.ensures, c.self.inside.views.ok, c.self.inside.contents.ok, contents_count c.self.inside.views.items c.self.inside.contents.items c.self.invariant.views'.contents')

pub returns-then-place-len : goal.returns-then-place-len
returns-then-place-len c =
    let views = c.self.inside.views.items in
    let contents = c.self.inside.contents.items in
    let v = c.index.result.now in
    let content = c.index-then-place-len.result.now in
    let place = c.args.number - 1 in
    let lt : place < length views = omega (arith, c.if-place-len.true, c.len.ensures, c.self.inside.views.ok) in
    let lt' : place < length contents = omega (arith, lt, contents_count views contents c.self.invariant.views'.contents') in
    let here : slice_get views place ≡ Some v = slice_get_read views (length views) place v refl lt c.index.ensures in
    let there : slice_get contents place ≡ Some content = slice_get_read contents (length contents) place content refl lt' c.index-then-place-len.ensures in
    subst (λ (segments : List Segment). ShowsContent segments c.args.number v content) c.self.view_is
    (shows_content views contents c.args.number v content c.self.invariant.views' (omega (arith, c.if-number-eq0.false)) here there)
