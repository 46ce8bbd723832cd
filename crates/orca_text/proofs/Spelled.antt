-- A text compared with a spelling.
use Rattle.std.proofs.Common.{◌≡◌, ℕ, suc, Bool, true, false, eqb, List, [], ◌∷◌, length, refl, ap, arith}
use Rattle.std.specs.Prelude.{◌≢◌, ◌&&◌, bytes_eq, zip}
use Rattle.std.specs.Char.{to_ascii_uppercase}
use Rattle.std.specs.List.{list_all}
use Rattle.orca_meaning.specs.Characters.{folded}

-- whether a byte is spelled so
abbrev pub is_byte : ℕ × ℕ → Bool
is_byte pair = eqb (to_ascii_uppercase pair.0) pair.1

pub same_length : (text spelling : List ℕ) → length text ≡ length spelling → list_all is_byte (zip text spelling) ≡ bytes_eq (folded text) spelling
same_length [] [] same = refl
same_length [] (wanted ∷ spelling) same = absurd (omega (arith, same))
same_length (byte ∷ text) [] same = absurd (omega (arith, same))
same_length (byte ∷ text) (wanted ∷ spelling) same =
    ap (λ (b : Bool). eqb (to_ascii_uppercase byte) wanted && b) (same_length text spelling (omega (arith, same)))

pub other_length : (text spelling : List ℕ) → length text ≢ length spelling → bytes_eq (folded text) spelling ≡ false
other_length [] [] other = absurd (other refl)
other_length [] (wanted ∷ spelling) other = refl
other_length (byte ∷ text) [] other = refl
other_length (byte ∷ text) (wanted ∷ spelling) other =
    by_first (eqb (to_ascii_uppercase byte) wanted) (other_length text spelling (λ same. other (ap suc same)))
  where
    by_first : (b : Bool) → bytes_eq (folded text) spelling ≡ false → (b && bytes_eq (folded text) spelling) ≡ false
    by_first true rest = rest
    by_first false rest = refl
