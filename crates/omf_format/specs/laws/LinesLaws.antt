-- Laws of lines: where one ends, and what a line before others is.
use Rattle.std.proofs.Common.{◌≡◌, ℕ, Bool, true, false, cond, List, [], ◌∷◌, ◌++◌, refl, ap, subst, ◌∙◌}
use Rattle.std.specs.Prelude.{◌||◌, ◌&&◌, ◌==◌, not, slice_index}
use Rattle.std.specs.List.{onto_first}
use Rattle.std.proofs.lemmas.List.{append-nil}
use Rattle.omf_format.specs.Ascii as ascii
use Rattle.omf_format.specs.Lines.{lines_of, HasNoEnd}

-- the bytes are before the first line
onto_front : List ℕ → List (List ℕ) → List (List ℕ)
onto_front [] lines = lines
onto_front (byte ∷ line) lines = onto_first byte (onto_front line lines)

no_end_step : (x y z : Bool) (a b c : List (List ℕ)) → (x || y) ≡ false → cond (x || (y && z)) a (cond y b c) ≡ c
no_end_step true y z a b c h = absurd cc
no_end_step false true z a b c h = absurd cc
no_end_step false false z a b c h = refl

lines_of-front : (line following : List ℕ) → HasNoEnd line → lines_of (line ++ following) ≡ onto_front line (lines_of following)
unfolding lines_of onto_front
lines_of-front [] following h = refl
lines_of-front (byte ∷ line) following h =
    no_end_step (byte == ascii.line_feed) (byte == ascii.carriage_return) (not (slice_index (line ++ following) 0 == ascii.line_feed)) ([] ∷ lines_of (line ++ following)) (lines_of (line ++ following)) (onto_first byte (lines_of (line ++ following))) h.0
    ∙ ap (λ (lines : List (List ℕ)). onto_first byte lines) (lines_of-front line following h.1)

onto_front-first : (line : List ℕ) (lines : List (List ℕ)) → onto_front line ([] ∷ lines) ≡ line ∷ lines
unfolding onto_front
onto_front-first [] lines = refl
onto_front-first (byte ∷ line) lines = ap (λ (all : List (List ℕ)). onto_first byte all) (onto_front-first line lines)

onto_front-last : (byte : ℕ) (line : List ℕ) → onto_front (byte ∷ line) [] ≡ (byte ∷ line) ∷ []
unfolding onto_front
onto_front-last byte [] = refl
onto_front-last byte (next ∷ line) = ap (λ (all : List (List ℕ)). onto_first byte all) (onto_front-last next line)

-- a line without an end in it, before the rest of a text that begins with an end
pub lines_of-ended : (line rest following : List ℕ) → HasNoEnd line → lines_of rest ≡ [] ∷ lines_of following
    → lines_of (line ++ rest) ≡ line ∷ lines_of following
lines_of-ended line rest following h ends =
    lines_of-front line rest h ∙ ap (onto_front line) ends ∙ onto_front-first line (lines_of following)

-- a line before LF
pub lines_of-lf : (line following : List ℕ) → HasNoEnd line → lines_of (line ++ ascii.line_feed ∷ following) ≡ line ∷ lines_of following
unfolding lines_of
lines_of-lf line following h = lines_of-ended line (ascii.line_feed ∷ following) following h refl

-- a line before CR LF
pub lines_of-cr_lf : (line following : List ℕ) → HasNoEnd line → lines_of (line ++ ascii.carriage_return ∷ ascii.line_feed ∷ following) ≡ line ∷ lines_of following
unfolding lines_of
lines_of-cr_lf line following h = lines_of-ended line (ascii.carriage_return ∷ ascii.line_feed ∷ following) following h refl

-- a line before a CR with no LF after it
pub lines_of-cr : (line following : List ℕ) → HasNoEnd line → (slice_index following 0 == ascii.line_feed) ≡ false
    → lines_of (line ++ ascii.carriage_return ∷ following) ≡ line ∷ lines_of following
unfolding lines_of
lines_of-cr line following h no_lf =
    lines_of-ended line (ascii.carriage_return ∷ following) following h (rw no_lf refl)

-- a line without an end
pub lines_of-last : (byte : ℕ) (line : List ℕ) → HasNoEnd (byte ∷ line) → lines_of (byte ∷ line) ≡ (byte ∷ line) ∷ []
unfolding lines_of
lines_of-last byte line h =
    subst (λ (text : List ℕ). lines_of text ≡ onto_front (byte ∷ line) []) (append-nil (byte ∷ line)) (lines_of-front (byte ∷ line) [] h)
    ∙ onto_front-last byte line

-- nothing has no line
pub lines_of-nil : lines_of [] ≡ []
unfolding lines_of
lines_of-nil = refl
