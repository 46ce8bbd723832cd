use Rattle.std.proofs.Common.{◌≡◌, ◌≤◌, ℕ, List, length, sym, subst, arith}
use Rattle.load_meaning.specs.Cells.{segment_bytes}
use Rattle.omf_records.specs.Segments.{segment_of_view}
use Rattle.omf_records.specs.declared.segment.SegmentView.{SegmentView}
use Rattle.omf_format.specs.File.{Segment}
use Rattle.load_content.specs.declared.pieces.BytePiece.{BytePiece}
use Rattle.load_content.specs.declared.spots.PatchSpot.{PatchSpot}
use Rattle.load_content.specs.declared.targets.SegmentContent.{SegmentContent}
use Rattle.load_content.specs.Content.{ArePieces, shown_spots}
use Rattle.load_writer.specs.WrittenParts.{IsKept}
use Rattle.omf_cells.specs.Ends.{IsEnd}
use Rattle.omf_cells.specs.Load.{ShowsContent}
use Rattle.omf_cells.specs.Whole.{front_at}
use Rattle.omf_cells.proofs.EndShows.{end_fits, front_there}
use Rattle.omf_cells.proofs.load.LoadFile.front.Goals as goal

found : (segments : List Segment) (number : ℕ) (v : SegmentView) (content : SegmentContent) (pieces : List BytePiece) (spots : List PatchSpot) (end size : ℕ) → ShowsContent segments number v content → pieces ≡ content.pieces.items → spots ≡ content.spots.items
    → IsEnd (shown_spots spots) end → ((bytes : List ℕ) → ArePieces pieces bytes → end ≤ length bytes → IsKept bytes end size) → (size ≡ front_at segments number) × (size ≤ v.header.length)
found segments number v content pieces spots end size is p s ends kept =
    let at : IsEnd (shown_spots content.spots.items) end = subst (λ (l : List PatchSpot). IsEnd (shown_spots l) end) s ends in
    let are : ArePieces pieces (segment_bytes (segment_of_view v)) = subst (λ (l : List BytePiece). ArePieces l (segment_bytes (segment_of_view v))) (sym p) is.content'.pieces.are in
    front_there segments number v content end size is at (kept (segment_bytes (segment_of_view v)) are (end_fits segments number v content end is at))

pub overflow_cast-result : goal.overflow_cast-result
overflow_cast-result c =
    let v = c.in-Some.found.0.now in
    let content = c.in-Some.found.1.now in
    let both = found c.args.self.now c.args.segment v content c.deref.result.now c.deref-2.result.now c.last_end.result c.end_from.result c.in-Some.ensures c.deref.ensures.value c.deref-2.ensures.value c.last_end.ensures c.end_from.ensures in
    omega (arith, both.1, c.in-Some.ensures.content'.pieces.short)

pub returns : goal.returns
returns c =
    let v = c.in-Some.found.0.now in
    let content = c.in-Some.found.1.now in
    (found c.args.self.now c.args.segment v content c.deref.result.now c.deref-2.result.now c.last_end.result c.end_from.result c.in-Some.ensures c.deref.ensures.value c.deref-2.ensures.value c.last_end.ensures c.end_from.ensures).0
