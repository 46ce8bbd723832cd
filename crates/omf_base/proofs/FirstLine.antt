-- The first line of a text, found by its first LF or CR.
use Rattle.std.proofs.Common.{◌≡◌, ℕ, zero, suc, ◌<◌, ◌≤◌, Bool, true, false, cond, ltb, List, [], ◌∷◌, length, take, drop, get_or, Some, None, add-zero, refl, sym, ap, subst, ◌∙◌, arith}
use Rattle.std.specs.Prelude.{slice_index}
use Rattle.std.specs.List.{position, position_or_len}
use Rattle.std.proofs.lemmas.Bool.{ltb-false}
use Rattle.std.proofs.Math.Seq.{take-length}
use Rattle.std.proofs.lemmas.List.{take-append-drop, get_or-drop}
use Rattle.std.proofs.lemmas.List.Sums.{fails_before_first}
use Rattle.std.proofs.lemmas.List.Quantifiers.{position-Some}
use Rattle.omf_format.specs.Lines.{lines_of, HasNoEnd}
use Rattle.omf_format.specs.laws.Steps.{is_end_byte}
use Rattle.omf_format.specs.laws.LinesLaws.{lines_of-ended, lines_of-last, lines_of-nil}

-- no end is among the bytes before the first one
no_end_before : (text : List ℕ) (i : ℕ) → ((k : ℕ) → k < i → is_end_byte (get_or text k 0) ≡ false) → HasNoEnd (take i text)
no_end_before text zero h = tt
no_end_before [] (suc i) h = tt
no_end_before (byte ∷ text) (suc i) h = (h 0 (omega arith), no_end_before text i (λ k less. h (suc k) (omega arith)))

-- the first line is the text before the first end
pub lines_of_first : (text : List ℕ) (i : ℕ) (following : List ℕ) → position is_end_byte text ≡ Some i
    → lines_of (drop i text) ≡ [] ∷ lines_of following → lines_of text ≡ take i text ∷ lines_of following
lines_of_first text i following is ends =
    let found = position-Some is_end_byte text i 0 is in
    subst (λ (t : List ℕ). lines_of t ≡ take i text ∷ lines_of following) (take-append-drop i text)
    (lines_of-ended (take i text) (drop i text) following (no_end_before text i found.2) ends)

none_from : (b : Bool) (n : ℕ) → cond b (Some n) None ≡ None → b ≡ false
none_from true n e = absurd cc
none_from false n e = refl

-- a text without an end is one line
pub lines_of_only : (text : List ℕ) → 0 < length text → position is_end_byte text ≡ None → lines_of text ≡ text ∷ lines_of []
lines_of_only [] some is = absurd (omega arith)
lines_of_only (byte ∷ text) some is =
    let n = position_or_len is_end_byte (byte ∷ text) in
    let past : length (byte ∷ text) ≤ n = ltb-false _ _ (none_from (ltb n (length (byte ∷ text))) n is) in
    let free : HasNoEnd (take (length (byte ∷ text)) (byte ∷ text)) =
    no_end_before (byte ∷ text) (length (byte ∷ text)) (λ k less. fails_before_first is_end_byte (byte ∷ text) k 0 (omega arith)) in
    lines_of-last byte text (subst HasNoEnd (take-length (byte ∷ text)) free) ∙ ap (λ (l : List (List ℕ)). (byte ∷ text) ∷ l) (sym lines_of-nil)

-- the byte at the place of the first end is an end
pub end_at : (text : List ℕ) (i : ℕ) → position is_end_byte text ≡ Some i → is_end_byte (slice_index (drop i text) 0) ≡ true
end_at text i is = rw (get_or-drop, add-zero) (position-Some is_end_byte text i 0 is).1
