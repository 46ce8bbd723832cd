-- The bytes of the segment that a view shows.
use Rattle.std.proofs.Common.{◌≡◌, ℕ, ◌-◌, ◌<◌, ◌^◌, ◌≤◌, List, ◌++◌, length, replicate, None, refl, sym, ap, subst, ◌∙◌, arith}
use Rattle.std.proofs.lemmas.List.{length-replicate}
use Rattle.omf_format.specs.Reading.{Reader}
use Rattle.omf_format.specs.File.{Placed, segment_of, body_reader}
use Rattle.omf_format.specs.Body.{body_bytes}
use Rattle.load_meaning.specs.Cells.{segment_bytes}
use Rattle.load_meaning.specs.laws.CellLaws.{shaped, length-segment_bytes}
use Rattle.load_meaning.specs.Loadable.{shape_fault}
use Rattle.omf_records.specs.declared.segment.SegmentView.{SegmentView}
use Rattle.omf_records.specs.Segments.{placed_view, segment_of_view}
use Rattle.load_content.specs.declared.pieces.BytePiece.{BytePiece}
use Rattle.load_content.specs.Walk.{content}
use Rattle.load_content.specs.Content.{ArePieces, HasPieces}
use Rattle.load_content.proofs.PieceLists.{zeros_more}

-- a reader of its body has its bytes to give
pub body_content : (p : Placed) → body_bytes (segment_of p) ≡ content (body_reader p.start p.fields p.file)
unfolding body_bytes content
body_content p = refl

-- the bytes of the segment that a view shows
pub bytes-shown : (v : SegmentView) (reader : Reader) → reader ≡ body_reader v.start (placed_view v).fields v.file.now
    → segment_bytes (segment_of_view v) ≡ content reader ++ replicate (v.header.length - length (content reader)) 0
unfolding segment_bytes
bytes-shown v reader at =
    ap (λ (l : List ℕ). l ++ replicate (v.header.length - length l) 0) (body_content (placed_view v) ∙ ap content (sym at))

-- ---- where phase 2 finds nothing

-- LENGTH has room for the bytes of the body
pub body_fits : (number : ℕ) (v : SegmentView) (reader : Reader) → shape_fault number (segment_of_view v) ≡ None → reader ≡ body_reader v.start (placed_view v).fields v.file.now → length (content reader) ≤ v.header.length
body_fits number v reader none at =
    let size : length (body_bytes (segment_of_view v)) ≡ length (content reader) = ap length (body_content (placed_view v) ∙ ap content (sym at)) in
    omega (arith, size, (shaped number (segment_of_view v) none).fits)

-- the pieces of the body are those of the segment
pub has_pieces : (number : ℕ) (v : SegmentView) (reader : Reader) (pieces : List BytePiece) → shape_fault number (segment_of_view v) ≡ None → reader ≡ body_reader v.start (placed_view v).fields v.file.now
    → v.header.length < 2 ^ 32 → ArePieces pieces (content reader) → HasPieces v pieces
has_pieces number v reader pieces none at short are =
    let rest : List ℕ = replicate (v.header.length - length (content reader)) 0 in
    let size : length rest ≡ v.header.length - length (content reader) = length-replicate {A = ℕ} (v.header.length - length (content reader)) 0 in
    record {
      are = subst (ArePieces pieces) (sym (bytes-shown v reader at)) (zeros_more pieces (content reader) rest are (ap (λ (n : ℕ). replicate n 0) (sym size)));
      sized = length-segment_bytes (segment_of_view v) (shaped number (segment_of_view v) none).fits;
      short = short;
    }
