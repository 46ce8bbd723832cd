-- What is kept after the end of a line.
use Rattle.std.proofs.Common.{◌≡◌, ℕ, zero, suc, ◌+◌, Bool, true, false, cond, List, [], ◌∷◌, ◌++◌, length, take, drop, Some, None, refl, sym, ap, ◌∙◌, append_assoc, append-nil, length-append}
use Rattle.std.specs.Prelude.{◌&&◌, nat_lt, option_map}
use Rattle.std.proofs.lemmas.List.{take_at}
use Rattle.list_lines.specs.Kept.{Kept, with_line}
use Rattle.list_lines.specs.OutputView.{has_room, kept_by}

cut_at : (n : ℕ) (text : List ℕ) → take n text ++ drop n text ≡ text
cut_at zero text = refl
cut_at (suc n) [] = refl
cut_at (suc n) (byte ∷ text) = ap (λ (l : List ℕ). byte ∷ l) (cut_at n text)

same_size : (n : ℕ) (text : List ℕ) → length (take n text) + length (drop n text) ≡ length text
same_size n text = sym (length-append (take n text) (drop n text)) ∙ ap length (cut_at n text)

-- there is no room
pub no_room : (over : Bool) (text : List ℕ) (start lines : ℕ) → has_room over lines (length text) ≡ false → with_line (drop start text) (kept_by over (take start text) lines) ≡ None
unfolding with_line
no_room true text start lines full = refl
no_room false text start lines full =
    let size = same_size start text in
    ap (λ (n : ℕ). cond (nat_lt lines 65536 && nat_lt n 16777216) (Some (take start text ++ (drop start text ++ 0x0A ∷ []), lines + 1)) None) size
    ∙ ap (λ (b : Bool). cond b (Some (take start text ++ (drop start text ++ 0x0A ∷ []), lines + 1)) None) full

-- there is room
pub room : (over : Bool) (text : List ℕ) (start lines : ℕ) → has_room over lines (length text) ≡ true
    → with_line (drop start text) (kept_by over (take start text) lines) ≡ kept_by over (take (length text + 1) (text ++ 0x0A ∷ [])) (lines + 1)
unfolding with_line
room true text start lines fits = absurd cc
room false text start lines fits =
    let size = same_size start text in
    let whole : take (length text + 1) (text ++ 0x0A ∷ []) ≡ text ++ 0x0A ∷ [] =
    ap (take (length text + 1)) (sym (append-nil (text ++ 0x0A ∷ []))) ∙ take_at (text ++ 0x0A ∷ []) [] (length text + 1) (length-append text (0x0A ∷ [])) in
    let parts : take start text ++ (drop start text ++ 0x0A ∷ []) ≡ text ++ 0x0A ∷ [] =
    sym (append_assoc (take start text) (drop start text) (0x0A ∷ [])) ∙ ap (λ (l : List ℕ). l ++ 0x0A ∷ []) (cut_at start text) in
    ap (λ (n : ℕ). cond (nat_lt lines 65536 && nat_lt n 16777216) (some (take start text ++ (drop start text ++ 0x0A ∷ [])) (lines + 1)) None) size
    ∙ ap (λ (b : Bool). cond b (some (take start text ++ (drop start text ++ 0x0A ∷ [])) (lines + 1)) None) fits
    ∙ ap (λ (l : List ℕ). some l (lines + 1)) (parts ∙ sym whole)
  where
    some : List ℕ → ℕ → Kept
    some l n = Some (l, n)

-- after the last line
pub whole_text : (over : Bool) (text : List ℕ) (start lines : ℕ) → over ≡ false → drop start text ≡ [] → option_map (λ found. found.0) (kept_by over (take start text) lines) ≡ Some text
whole_text true text start lines is none = absurd cc
whole_text false text start lines is none =
    ap (λ (l : List ℕ). Some l) (sym (append-nil (take start text)) ∙ ap (λ (l : List ℕ). take start text ++ l) (sym none) ∙ cut_at start text)
