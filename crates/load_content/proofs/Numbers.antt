-- Numbers as bytes.
use Rattle.std.proofs.Common.{◌≡◌, ℕ, zero, suc, ◌+◌, ◌*◌, List, [], ◌∷◌, drop, Some, refl, sym, ap, ◌∙◌, arith}
use Rattle.std.specs.Prelude.{slice_get, slice_index}
use Rattle.std.proofs.lemmas.Option.{get_or_from_slice_get}
use Rattle.omf_format.specs.Number.{number_at}

index-drop : (at j : ℕ) (bytes : List ℕ) → slice_index (drop at bytes) j ≡ slice_index bytes (at + j)
index-drop zero j bytes = let same : j ≡ 0 + j = omega arith in ap (slice_index bytes) same
index-drop (suc at) j [] = none j (suc at + j)
  where
    none : (i k : ℕ) → slice_index [] i ≡ slice_index [] k
    none zero zero = refl
    none zero (suc k) = refl
    none (suc i) zero = refl
    none (suc i) (suc k) = refl
index-drop (suc at) j (b ∷ bytes) = let same : suc at + j ≡ suc (at + j) = omega arith in index-drop at j bytes ∙ ap (slice_index (b ∷ bytes)) (sym same)

-- the byte at an index from a place on
abbrev byte : List ℕ → ℕ → ℕ → ℕ
byte bytes at j = slice_index bytes (at + j)

one_byte : (at : ℕ) (bytes : List ℕ) → number_at 1 at bytes ≡ byte bytes at 0
unfolding number_at
one_byte at bytes = omega (arith, index-drop at 0 bytes)

two_bytes : (at : ℕ) (bytes : List ℕ) → number_at 2 at bytes ≡ byte bytes at 0 + 256 * byte bytes at 1
unfolding number_at
two_bytes at bytes = omega (arith, index-drop at 0 bytes, index-drop at 1 bytes)

four_bytes : (at : ℕ) (bytes : List ℕ) → number_at 4 at bytes ≡ byte bytes at 0 + 256 * byte bytes at 1 + 65536 * byte bytes at 2 + 16777216 * byte bytes at 3
unfolding number_at
four_bytes at bytes = omega (arith, index-drop at 0 bytes, index-drop at 1 bytes, index-drop at 2 bytes, index-drop at 3 bytes)

-- a byte as a number
pub byte_there : (at b : ℕ) (bytes : List ℕ) → slice_get bytes at ≡ Some b → number_at 1 at bytes ≡ b
byte_there at b bytes is =
    let same : at + 0 ≡ at = omega arith in
    one_byte at bytes ∙ ap (slice_index bytes) same ∙ get_or_from_slice_get bytes at b 0 is

pub byte_of_slice : (at : ℕ) (bytes : List ℕ) → number_at 1 at bytes ≡ slice_index bytes at
byte_of_slice at bytes =
    let same : at + 0 ≡ at = omega arith in
    one_byte at bytes ∙ ap (slice_index bytes) same

-- a number of two bytes, from those bytes
pub two_there : (at : ℕ) (bytes : List ℕ) → number_at 2 at bytes ≡ number_at 1 at bytes + 256 * number_at 1 (at + 1) bytes
two_there at bytes =
    let next : at + 1 + 0 ≡ at + 1 = omega arith in
    omega (arith, two_bytes at bytes, one_byte at bytes, one_byte (at + 1) bytes, ap (slice_index bytes) next)

pub two_near : (at : ℕ) (bytes : List ℕ) → number_at 2 at bytes ≡ number_at 1 (at + 0) bytes + 256 * number_at 1 (at + 1) bytes
two_near at bytes =
    let here : at + 0 ≡ at = omega arith in
    two_there at bytes ∙ ap (λ (i : ℕ). number_at 1 i bytes + 256 * number_at 1 (at + 1) bytes) (sym here)

-- and one of four
pub four_there : (at : ℕ) (bytes : List ℕ) → number_at 4 at bytes ≡ number_at 2 at bytes + 65536 * number_at 2 (at + 2) bytes
four_there at bytes =
    let next : at + 2 + 0 ≡ at + 2 = omega arith in
    let last : at + 2 + 1 ≡ at + 3 = omega arith in
    omega (arith, four_bytes at bytes, two_bytes at bytes, two_bytes (at + 2) bytes, ap (slice_index bytes) next, ap (slice_index bytes) last)
