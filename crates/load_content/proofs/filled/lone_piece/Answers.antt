use Rattle.std.proofs.Common.{◌≡◌, ℕ, ◌-◌, ◌++◌, List, [], ◌∷◌, length, replicate, get_or, arith}
use Rattle.load_content.specs.declared.pieces.BytePiece.{BytePiece}
use Rattle.load_content.specs.Content.{ArePieces}
use Rattle.load_content.proofs.FilledLists.{lone_is}
use Rattle.load_content.proofs.filled.lone_piece.Goals as goal

abbrev no_piece : BytePiece
no_piece = record { start = 0; bytes = record { ref_ptr = (0, 0); now = [] } }

lone : (pieces : List BytePiece) → length pieces ≡ 1 → (get_or pieces 0 no_piece).start ≡ 0 → (bytes : List ℕ) → ArePieces pieces bytes
    → bytes ≡ (get_or pieces 0 no_piece).bytes.now ++ replicate (length bytes - length (get_or pieces 0 no_piece).bytes.now) 0
lone [] one first bytes are = absurd (omega (arith, one))
lone (p ∷ []) one first bytes are = lone_is p bytes are first
lone (p ∷ q ∷ pieces) one first bytes are = absurd (omega (arith, one))

pub returns : goal.returns
returns c = λ bytes are. lone c.args.pieces.now c.if-pieces-ne1.false c.if-pieces-ne0.false bytes are
