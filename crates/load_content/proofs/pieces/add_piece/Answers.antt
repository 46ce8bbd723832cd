use Rattle.std.proofs.Common.{ℕ, ◌++◌, List, [], ◌∷◌, sym, subst}
use Rattle.omf_format.specs.Record.{content_of}
use Rattle.omf_records.specs.View.{view}
use Rattle.load_content.specs.declared.pieces.BytePiece.{BytePiece}
use Rattle.load_content.specs.Content.{ArePieces}
use Rattle.load_content.proofs.PieceLists.{zeros_more, pieces_more}
use Rattle.load_content.proofs.pieces.add_piece.Goals as goal

pub returns-in_ok-push-in-Some : goal.returns-in_ok-push-in-Some
returns-in_ok-push-in-Some c = λ so_far are start.
    let new : BytePiece = record { start = c.args.start; bytes = c.in-Some.bytes } in
    let more : ArePieces (c.args.pieces.now.items ++ new ∷ []) (so_far ++ c.in-Some.bytes.now) = pieces_more c.args.pieces.now.items so_far new are start in
    let same : ArePieces (c.args.pieces.now.items ++ new ∷ []) (so_far ++ content_of (view c.args.rec.now)) =
    subst (λ (l : List ℕ). ArePieces (c.args.pieces.now.items ++ new ∷ []) (so_far ++ l)) (sym c.in-Some.ensures) more in
    subst (λ (l : List BytePiece). ArePieces l (so_far ++ content_of (view c.args.rec.now))) (sym c.in_ok-push-in-Some.ensures.items) same

pub returns-in-None : goal.returns-in-None
returns-in-None c = λ so_far are start. zeros_more c.args.pieces.now.items so_far (content_of (view c.args.rec.now)) are c.in-None.ensures
