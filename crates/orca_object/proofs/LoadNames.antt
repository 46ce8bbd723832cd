-- A name with spaces after it.
use Rattle.std.proofs.Common.{◌≡◌, ℕ, suc, ◌+◌, ◌-◌, ◌<◌, ◌≤◌, List, [], ◌∷◌, ◌++◌, length, get_or, take, drop, set, sym, ap, ◌∙◌, add-one, drop-cons, arith}
use Rattle.std.specs.Prelude.{replicate}
use Rattle.std.specs.Char.{to_ascii_uppercase}
use Rattle.std.proofs.lemmas.List.{take_more, take_more_set, drop-set-lt, length-set, map-append}
use Rattle.orca_meaning.specs.Characters.{folded}

tails : (x y : ℕ) (xs ys : List ℕ) → x ∷ xs ≡ y ∷ ys → xs ≡ ys
tails x y xs ys e = cc

-- one more byte
pub one_byte : (name text : List ℕ) (i v : ℕ) → length name ≡ 10 → length text ≤ 10 → i < length text → v ≡ to_ascii_uppercase (get_or text i 0) → take i name ≡ folded (take i text) → drop i name ≡ replicate (10 - i) 0x20
    → (length (set name i v) ≡ 10) × (take (i + 1) (set name i v) ≡ folded (take (i + 1) text)) × (drop (i + 1) (set name i v) ≡ replicate (10 - (i + 1)) 0x20)
one_byte name text i v ten short within is front following =
    let more : folded (take (i + 1) text) ≡ folded (take i text) ++ v ∷ [] =
    ap folded (take_more text i 0 within) ∙ map-append to_ascii_uppercase (take i text) (get_or text i 0 ∷ []) ∙ ap (λ (x : ℕ). folded (take i text) ++ x ∷ []) (sym is) in
    let rest : get_or name i 0 ∷ drop (suc i) name ≡ 0x20 ∷ replicate (9 - i) 0x20 =
    sym (drop-cons name i 0 (omega arith)) ∙ following ∙ ap (λ (k : ℕ). replicate k 0x20) (ten_is (omega arith)) in (
      length-set name i v ∙ ten,
      take_more_set name i v (omega arith) ∙ ap (λ (l : List ℕ). l ++ v ∷ []) front ∙ sym more,
      drop-set-lt (i + 1) name i v (omega arith) ∙ ap (λ (k : ℕ). drop k name) (add-one i) ∙ tails (get_or name i 0) 0x20 (drop (suc i) name) (replicate (9 - i) 0x20) rest
          ∙ ap (λ (k : ℕ). replicate k 0x20) (nine_is (omega arith)),
    )
  where
    ten_is : i < 10 → 10 - i ≡ suc (9 - i)
    ten_is h = omega arith

    nine_is : i < 10 → 9 - i ≡ 10 - (i + 1)
    nine_is h = omega arith
