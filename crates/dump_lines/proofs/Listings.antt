-- The listing of a file's segments so far.
use Rattle.std.proofs.Common.{◌≡◌, ℕ, zero, suc, ◌+◌, List, [], ◌∷◌, ◌++◌, take, Some, sym, ap, ◌∙◌, append_assoc, arith}
use Rattle.std.proofs.lemmas.List.{append-nil}
use Rattle.std.specs.Prelude.{slice_get}
use Rattle.omf_format.specs.File.{Segment}
use Rattle.dump_lines.specs.Listing.{segment_text, listing_from}

-- one more segment
pub listing_more : (n k : ℕ) (segments : List Segment) (s : Segment) → slice_get segments k ≡ Some s → listing_from n (take k segments) ++ segment_text (n + k) s ≡ listing_from n (take (k + 1) segments)
listing_more n k [] s found = absurd cc
listing_more n zero (t ∷ segments) s found =
    let same : s ≡ t = cc in
    let number : n + 0 ≡ n = omega arith in
    ap (λ (m : ℕ). segment_text m s) number ∙ ap (segment_text n) same ∙ sym (append-nil (segment_text n t))
listing_more n (suc k) (t ∷ segments) s found =
    let more : suc k + 1 ≡ suc (k + 1) = omega arith in
    let number : n + suc k ≡ suc n + k = omega arith in
    let rest = listing_more (suc n) k segments s found in
    append_assoc (segment_text n t) (listing_from (suc n) (take k segments)) (segment_text (n + suc k) s)
    ∙ ap (λ (m : ℕ). segment_text n t ++ (listing_from (suc n) (take k segments) ++ segment_text m s)) number
    ∙ ap (λ (l : List ℕ). segment_text n t ++ l) rest
    ∙ ap (λ (m : ℕ). listing_from n (take m (t ∷ segments))) (sym more)
