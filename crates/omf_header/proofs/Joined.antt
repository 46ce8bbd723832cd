-- The parts of a written header, one after another.
use Rattle.std.proofs.Common.{◌≡◌, ℕ, List, [], ◌∷◌, ◌++◌, refl, sym, ap, ◌∙◌, append_assoc}
use Rattle.byteorder.specs.Endian.{little_bytes}
use Rattle.omf_format.specs.Header.{laid_out}

laid_out-append : (a b : List (ℕ × ℕ)) → laid_out (a ++ b) ≡ laid_out a ++ laid_out b
laid_out-append [] b = refl
laid_out-append (x ∷ a) b = ap (λ (l : List ℕ). little_bytes x.0 x.1 ++ l) (laid_out-append a b) ∙ sym (append_assoc (little_bytes x.0 x.1) (laid_out a) (laid_out b))

four : (a b c d : List (ℕ × ℕ)) → laid_out (a ++ b ++ c ++ d) ≡ laid_out a ++ laid_out b ++ laid_out c ++ laid_out d
four a b c d =
    laid_out-append (a ++ b ++ c) d ∙ ap (λ (l : List ℕ). l ++ laid_out d) (laid_out-append (a ++ b) c
    ∙ ap (λ (l : List ℕ). l ++ laid_out c) (laid_out-append a b))

-- appended to nothing one after another, they are the header
pub joined : (s text e0 e1 e2 e3 e4 : List ℕ) (a b c g : List (ℕ × ℕ)) → s ≡ [] → e0 ≡ s ++ laid_out a → e1 ≡ e0 ++ laid_out b → e2 ≡ e1 ++ laid_out c → e3 ≡ e2 ++ laid_out g
    → e4 ≡ e3 ++ text → e4 ≡ laid_out (a ++ b ++ c ++ g) ++ text
joined s text e0 e1 e2 e3 e4 a b c g q q0 q1 q2 q3 q4 =
    q4 ∙ ap (λ (l : List ℕ). l ++ text) (q3 ∙ ap (λ (l : List ℕ). l ++ laid_out g) (q2 ∙ ap (λ (l : List ℕ). l ++ laid_out c) (q1 ∙ ap (λ (l : List ℕ). l ++ laid_out b) (q0 ∙ ap (λ (l : List ℕ). l ++ laid_out a) q))) ∙ sym (four a b c g))
