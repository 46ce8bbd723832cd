use mir.Val.{to_z, of_z}
use mir.Syntax.{w8}
use Rattle.std.proofs.lemmas.Int.{to_z-of_z}
use Rattle.std.proofs.Common.{◌≡◌, ℤ, ◌<◌, List, Some, None, length, sym, ap, subst, ◌∙◌, arith}
use Rattle.std.specs.Prelude.{option_map}
use Rattle.std.specs.List.Sorted.{IsNonDecreasingBy}
use Rattle.load_meaning.specs.Cells.{Part, segment_bytes}
use Rattle.omf_records.specs.Segments.{segment_of_view}
use Rattle.load_content.specs.declared.pieces.BytePiece.{BytePiece}
use Rattle.load_content.specs.declared.spots.PatchSpot.{PatchSpot}
use Rattle.load_content.specs.Content.{ArePieces, start_of, last_at, part_of, shown_spots}
use Rattle.load_content.proofs.PieceLists.{rising}
use Rattle.omf_cells.proofs.LoadShows.{cell_past, cell_part, cell_byte}
use Rattle.omf_cells.proofs.load.LoadFile.cell.Goals as goal

pub returns-then-at-view : goal.returns-then-at-view
returns-then-at-view c = sym (cell_past c.args.self.now c.args.segment c.args.at c.in-Some.found.0.now c.in-Some.ensures.shows c.if-at-view.true)

pub byte_at-requires : goal.byte_at-requires
byte_at-requires c =
    let content = c.in-Some.found.1.now in
    subst (λ (l : List BytePiece). IsNonDecreasingBy start_of l) (sym c.deref-in-None-spot_at.ensures.value)
    (rising content.pieces.items (segment_bytes (segment_of_view c.in-Some.found.0.now)) c.in-Some.ensures.content'.pieces.are)

pub returns-in-Some-spot_at : goal.returns-in-Some-spot_at
returns-in-Some-spot_at c =
    let spot = c.in-Some-spot_at.spot in
    let content = c.in-Some.found.1.now in
    let shift : to_z w8 (of_z w8 spot.shift) ≡ spot.shift = grind (arith, to_z-of_z) in
    let found : last_at (shown_spots content.spots.items) c.args.at ≡ Some (part_of spot) =
    ap (λ (l : List PatchSpot). last_at (shown_spots l) c.args.at) (sym c.deref.ensures.value) ∙ sym c.spot_at.ensures ∙ ap (option_map part_of) c.in-Some-spot_at.is in
    ap (λ (z : ℤ). Some (Part 1 spot.segment spot.offset z spot.first)) shift
    ∙ sym (cell_part c.args.self.now c.args.segment c.args.at c.in-Some.found.0.now content (part_of spot) c.in-Some.ensures found)

pub returns-in-None-spot_at : goal.returns-in-None-spot_at
returns-in-None-spot_at c =
    let v = c.in-Some.found.0.now in
    let content = c.in-Some.found.1.now in
    let bytes = segment_bytes (segment_of_view v) in
    let pieces = c.in-Some.ensures.content'.pieces in
    let none : last_at (shown_spots content.spots.items) c.args.at ≡ None =
    ap (λ (l : List PatchSpot). last_at (shown_spots l) c.args.at) (sym c.deref.ensures.value) ∙ sym c.spot_at.ensures ∙ ap (option_map part_of) c.in-None-spot_at.is in
    let are : ArePieces c.deref-in-None-spot_at.result.now bytes = subst (λ (l : List BytePiece). ArePieces l bytes) (sym c.deref-in-None-spot_at.ensures.value) pieces.are in
    let lt : c.args.at < length bytes = omega (arith, c.if-at-view.false, pieces.sized) in
    sym (cell_byte c.args.self.now c.args.segment c.args.at v content c.byte_at.result c.in-Some.ensures none (c.byte_at.ensures bytes are lt))
