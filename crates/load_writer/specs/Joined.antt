-- Pieces one after another.
use Rattle.std.specs.Prelude.{◌≡◌, ℕ, zero, suc, ◌+◌, ◌<◌, List, [], ◌∷◌, ◌++◌, length, take, get_or}
use Rattle.std.specs.Borrow.{Bor}
use Rattle.std.proofs.Common.{sym, ap, ◌∙◌, append_assoc, append-nil, arith}

-- all their bytes, in order
abbrev pub joined : List (Bor (List ℕ)) → List ℕ
joined [] = []
joined (piece ∷ pieces) = piece.now ++ joined pieces

-- the first ones with the next after them
pub joined_next : (pieces : List (Bor (List ℕ))) (k : ℕ) (none : Bor (List ℕ)) → k < length pieces
    → joined (take (k + 1) pieces) ≡ joined (take k pieces) ++ (get_or pieces k none).now
joined_next [] k none less = absurd (omega (arith, less))
joined_next (piece ∷ pieces) zero none less = append-nil piece.now
joined_next (piece ∷ pieces) (suc k) none less =
    let place : suc k + 1 ≡ suc (k + 1) = omega arith in
    ap (λ (n : ℕ). joined (take n (piece ∷ pieces))) place
    ∙ ap (λ (l : List ℕ). piece.now ++ l) (joined_next pieces k none (omega (arith, less)))
    ∙ sym (append_assoc piece.now (joined (take k pieces)) (get_or pieces k none).now)

-- one more after them
pub joined_more : (pieces : List (Bor (List ℕ))) (piece : Bor (List ℕ)) → joined (pieces ++ piece ∷ []) ≡ joined pieces ++ piece.now
joined_more [] piece = append-nil piece.now
joined_more (first ∷ pieces) piece =
    ap (λ (l : List ℕ). first.now ++ l) (joined_more pieces piece) ∙ sym (append_assoc first.now (joined pieces) piece.now)
