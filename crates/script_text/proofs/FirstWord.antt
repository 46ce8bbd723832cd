-- The first word of a line, found by its first space.
use Rattle.std.proofs.Common.{◌≡◌, ℕ, ◌+◌, ◌<◌, ◌≤◌, Bool, true, false, cond, ltb, List, [], ◌∷◌, ◌++◌, length, take, drop, get_or, Some, None, add-zero, refl, sym, ap, subst, ◌∙◌, arith}
use Rattle.std.specs.Prelude.{◌==◌, All, count_by}
use Rattle.std.specs.List.{position, position_or_len, slice_split}
use Rattle.std.proofs.lemmas.Bool.{ltb-false}
use Rattle.std.proofs.lemmas.List.{take-append-drop, get_or-drop, get_or-take, length-take, length-drop}
use Rattle.std.proofs.lemmas.List.Sums.{fails_before_first}
use Rattle.std.proofs.lemmas.List.Quantifiers.{position-Some}
use Rattle.std.proofs.lemmas.List.Splits.{slice_split_none, slice_split_at, length-slice_split}
use Rattle.loader_machine.specs.Script.{words_of}

abbrev pub is_space : ℕ → Bool
is_space byte = byte == 0x20

none_from : (b : Bool) (n : ℕ) → cond b (Some n) None ≡ None → b ≡ false
none_from true n e = absurd cc
none_from false n e = refl

-- a line without a space is one word
pub words_of_only : (line : List ℕ) → position is_space line ≡ None → words_of line ≡ line ∷ []
unfolding words_of
words_of_only line is =
    let n = position_or_len is_space line in
    let past : length line ≤ n = ltb-false _ _ (none_from (ltb n (length line)) n is) in
    slice_split_none is_space line (λ k d less. fails_before_first is_space line k d (omega arith))

-- the first word lies before the first space
pub words_of_first : (line : List ℕ) (i byte : ℕ) (rest : List ℕ) → position is_space line ≡ Some i → drop i line ≡ byte ∷ rest
    → words_of line ≡ take i line ∷ words_of rest
unfolding words_of
words_of_first line i byte rest is cut =
    let found = position-Some is_space line i 0 is in
    let here : is_space byte ≡ true = subst (λ (l : List ℕ). is_space (get_or l 0 0) ≡ true) cut (rw (get_or-drop, add-zero) found.1) in
    let free : All (λ b. is_space b ≡ false) (take i line) =
    λ k d less. let inside : k < i = omega (arith, length-take i line) in rw (get_or-take i line k d inside) (before line i d k is inside) in
    let whole : take i line ++ byte ∷ rest ≡ line = ap (λ (l : List ℕ). take i line ++ l) (sym cut) ∙ take-append-drop i line in
    subst (λ (l : List ℕ). slice_split is_space l ≡ take i line ∷ slice_split is_space rest) whole (slice_split_at is_space (take i line) byte rest free here)
  where
    before : (line : List ℕ) (i d k : ℕ) → position is_space line ≡ Some i → k < i → is_space (get_or line k d) ≡ false
    before line i d k is less = (position-Some is_space line i d is).2 k less

-- a line isn't empty from the first space on
pub words_of_past : (line : List ℕ) (i : ℕ) → position is_space line ≡ Some i → drop i line ≡ [] → words_of line ≡ take i line ∷ []
words_of_past line i is cut =
    let found = position-Some is_space line i 0 is in
    let none : length (drop i line) ≡ 0 = ap (λ (l : List ℕ). length l) cut in
    absurd (omega (arith, length-drop i line))

-- there is one word more than there are spaces
pub word_count : (line : List ℕ) → length (words_of line) ≡ count_by is_space line + 1
unfolding words_of
word_count line = length-slice_split is_space line
