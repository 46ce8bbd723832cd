-- Names.
use Rattle.std.proofs.Common.{◌≡◌, ℕ, suc, ◌+◌, Bool, true, false, cond, eqb, List, [], ◌∷◌, length, refl, ap, ◌∙◌, arith}
use Rattle.std.specs.Prelude.{◌&&◌}
use Rattle.std.specs.List.{list_all, prefix_len}
use Rattle.orca_meaning.specs.Characters.{is_name_byte}

more : (n m : ℕ) → eqb (1 + n) (suc m) ≡ eqb n m
more n m = grind arith

zero_not : (m : ℕ) → eqb 0 (suc m) ≡ false
zero_not m = grind arith

whole : (text : List ℕ) → eqb (prefix_len is_name_byte text) (length text) ≡ list_all is_name_byte text
whole [] = refl
whole (byte ∷ text) = by_byte (is_name_byte byte) (whole text)
  where
    by_byte : (b : Bool) → eqb (prefix_len is_name_byte text) (length text) ≡ list_all is_name_byte text → eqb (cond b (1 + prefix_len is_name_byte text) 0) (length (byte ∷ text)) ≡ (b && list_all is_name_byte text)
    by_byte true e = more (prefix_len is_name_byte text) (length text) ∙ e
    by_byte false e = zero_not (length text)

-- all of a text are name bytes where their longest prefix is the whole
pub all_name_bytes : (text : List ℕ) (n : ℕ) → n ≡ prefix_len is_name_byte text → eqb n (length text) ≡ list_all is_name_byte text
all_name_bytes text n is = ap (λ (k : ℕ). eqb k (length text)) is ∙ whole text
