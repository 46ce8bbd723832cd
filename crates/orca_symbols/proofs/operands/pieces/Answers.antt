use Rattle.std.proofs.Common.{◌≡◌, ℕ, List, length, subst, ◌∙◌}
use Rattle.orca_symbols.proofs.Parted.{last_piece}
use Rattle.orca_symbols.proofs.operands.pieces.Goals as goal

pub returns-in_default : goal.returns-in_default
returns-in_default c =
    last_piece _ _ c.pieces.left.now c.pieces.found.items _ _ c.piece_len.result c.pieces.invariant.0 c.piece_len.ensures.value (c.of.ensures ∙ c.split_at.ensures.front)
    (subst (λ (l : List ℕ). length l ≡ 0) c.split_at.ensures.back (rw c.in_default.is at c.split_first.ensures.cases)) c.in_ok-push.ensures.items
