-- The lines of the rest of a run give its bytes.
use Rattle.std.proofs.Common.{◌≡◌, ℕ, zero, suc, ◌+◌, ◌*◌, ◌<◌, List, [], ◌∷◌, ◌++◌, length, take, drop, Some, None, refl, sym, ap, ◌∙◌, arith}
use Rattle.std.specs.Prelude.{slice_get}
use Rattle.std.proofs.lemmas.Option.{slice_get-get_or}
use Rattle.byteorder.specs.Endian.{little_number}
use Rattle.orca_meaning.specs.Matrix.{matrix, Instruction}
use Rattle.asm_meaning.specs.Instruction.{opcode_in}
use Rattle.list_laws.specs.laws.ModeLaw.{opcode_back}
use Rattle.list_meaning.specs.Listing.{instruction_of_opcode}
use Rattle.list_meaning.specs.laws.Steps.{or_brk}

-- each byte is an opcode
matrix_length : length matrix ≡ 256
unfolding matrix
matrix_length = refl

pub decoded_is : (opcode : ℕ) → opcode < 256 → slice_get matrix opcode ≡ Some (instruction_of_opcode opcode)
decoded_is opcode fits =
    let here = slice_get-get_or matrix opcode (or_brk None) (omega (arith, matrix_length, fits)) in
    here ∙ ap (λ (i : Instruction). Some i) (sym (ap or_brk here))

pub opcode_is : (opcode : ℕ) → opcode < 256 → opcode_in (instruction_of_opcode opcode).0 (instruction_of_opcode opcode).1 ≡ opcode
opcode_is opcode fits = opcode_back opcode (instruction_of_opcode opcode).0 (instruction_of_opcode opcode).1 (decoded_is opcode fits)

pub two_bytes : (bytes : List ℕ) → length bytes ≡ 2 → little_number 1 bytes ∷ little_number 1 (drop 1 bytes) ∷ [] ≡ bytes
two_bytes [] is = absurd (omega (arith, is))
two_bytes (a ∷ []) is = absurd (omega (arith, is))
two_bytes (a ∷ b ∷ []) is = let first : a + 256 * 0 ≡ a = omega arith in let second : b + 256 * 0 ≡ b = omega arith in ap (λ (x : ℕ). x ∷ (b + 256 * 0) ∷ []) first ∙ ap (λ (x : ℕ). a ∷ x ∷ []) second
two_bytes (a ∷ b ∷ c ∷ more) is = absurd (omega (arith, is))

pub no_bytes : (bytes : List ℕ) → length bytes ≡ 0 → [] ≡ bytes
no_bytes [] is = refl
no_bytes (a ∷ more) is = absurd (omega (arith, is))

pub rejoined : (k : ℕ) (text : List ℕ) → take k text ++ drop (length (take k text)) text ≡ text
rejoined zero text = refl
rejoined (suc k) [] = refl
rejoined (suc k) (byte ∷ text) = ap (λ (l : List ℕ). byte ∷ l) (rejoined k text)
