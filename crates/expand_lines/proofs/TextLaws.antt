-- The text of the first lines.
use Rattle.std.proofs.Common.{◌≡◌, ℕ, zero, suc, ◌+◌, List, [], ◌∷◌, ◌++◌, take, Some, sym, ap, ◌∙◌, append_assoc, append-nil, arith}
use Rattle.std.specs.Prelude.{slice_get}
use Rattle.std.specs.List.{flat_map}
use Rattle.orca_meaning.specs.Line.{Line}

-- one line more
pub text_more : (text_of : Line → List ℕ) (k : ℕ) (lines : List Line) (l : Line) → slice_get lines k ≡ Some l → flat_map text_of (take k lines) ++ text_of l ≡ flat_map text_of (take (k + 1) lines)
text_more text_of k [] l found = absurd cc
text_more text_of zero (x ∷ lines) l found =
    let same : l ≡ x = cc in
    ap text_of same ∙ sym (append-nil (text_of x))
text_more text_of (suc k) (x ∷ lines) l found =
    let more : suc k + 1 ≡ suc (k + 1) = omega arith in
    append_assoc (text_of x) (flat_map text_of (take k lines)) (text_of l)
    ∙ ap (λ (t : List ℕ). text_of x ++ t) (text_more text_of k lines l found)
    ∙ ap (λ (n : ℕ). flat_map text_of (take n (x ∷ lines))) (sym more)
