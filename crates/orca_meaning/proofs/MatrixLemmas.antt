-- The laws of the opcode matrix, from a test that computes over all of it.
use Rattle.std.proofs.Common.{◌≡◌, ℕ, zero, suc, ◌+◌, Bool, true, false, ◌&&◌, List, [], ◌∷◌, length, slice_get, get_or, ◌<◌, Contains, refl, ap, ◌∙◌, Some, None, Option, nat_eq, arith, zero-add, add-zero}
use denote.Enum.Bare.{same_true, sameb}
use Rattle.std.proofs.lemmas.Bool.{and_parts}
use Rattle.std.proofs.lemmas.List.Quantifiers.{position-Some}
use Rattle.std.proofs.lemmas.Option.{slice_get-get_or}
use Rattle.orca_meaning.specs.contracts.mnemonics.Mnemonic as mnemonic_type
use Rattle.orca_meaning.specs.contracts.modes.Mode as mode_type
use Rattle.orca_meaning.specs.declared.mnemonics.Mnemonic.{Mnemonic}
use Rattle.orca_meaning.specs.declared.modes.Mode.{Mode}
use Rattle.orca_meaning.specs.MatrixLaws.{NoneTwice}
use Rattle.orca_meaning.specs.Matrix.{Instruction, matrix, opcode_of}
use Rattle.orca_meaning.specs.laws.Steps.{is_instruction}

-- each byte is an opcode
pub length-matrix : length matrix ≡ 256
unfolding matrix
length-matrix = refl

-- whether this place was answered
is_at : ℕ → Option ℕ → Bool
is_at k None = false
is_at k (Some j) = nat_eq j k

-- whether each instruction of a list, whose first has the opcode k, is found at its opcode
are_found : ℕ → List Instruction → Bool
are_found k [] = true
are_found k (x ∷ xs) = is_at k (opcode_of x.0 x.1) && are_found (suc k) xs

-- the test over the whole matrix
all_are_found : are_found 0 matrix ≡ true
unfolding matrix opcode_of are_found is_at
all_are_found = refl

-- what that test shows
is_at-true : (k : ℕ) (o : Option ℕ) → is_at k o ≡ true → o ≡ Some k
unfolding is_at
is_at-true k None h = cc
is_at-true k (Some j) h = grind arith

-- an instruction of such a list is found at its place
found_at : (k : ℕ) (xs : List Instruction) → are_found k xs ≡ true → (i : ℕ) (x : Instruction) → slice_get xs i ≡ Some x → opcode_of x.0 x.1 ≡ Some (k + i)
unfolding are_found
found_at k [] h i x e = cc
found_at k (y ∷ ys) h zero x e =
    let here : opcode_of y.0 y.1 ≡ Some k = is_at-true k _ (and_parts _ _ h).0 in
    let same : y ≡ x = cc in
    rw (add-zero, ← same) here
found_at k (y ∷ ys) h (suc i) x e =
    let place : suc k + i ≡ k + suc i = omega arith in
    rw (← place) (found_at (suc k) ys (and_parts _ _ h).1 i x e)

-- the instruction of an opcode has that opcode
pub opcode_at : (opcode : ℕ) (x : Instruction) → slice_get matrix opcode ≡ Some x → opcode_of x.0 x.1 ≡ Some opcode
opcode_at opcode x e =
    let found = found_at 0 matrix all_are_found opcode x e in
    rw zero-add at found

-- what passes the test is the instruction
is_instruction-true : (m : Mnemonic) (n : Mode) (x : Instruction) → is_instruction m n x ≡ true → x ≡ (m, n)
is_instruction-true m n (a, b) h =
    let both = and_parts (sameb mnemonic_type.the_type a m) (sameb mode_type.the_type b n) h in
    let one : a ≡ m = same_true mnemonic_type.the_type tt a m both.0 in
    let other : b ≡ n = same_true mode_type.the_type tt b n both.1 in
    cc

-- what has an opcode is its instruction
pub instruction_at : (m : Mnemonic) (n : Mode) (opcode : ℕ) → opcode_of m n ≡ Some opcode → slice_get matrix opcode ≡ Some (m, n)
unfolding opcode_of
instruction_at m n opcode e =
    let found = position-Some (is_instruction m n) matrix opcode (m, n) e in
    let same = is_instruction-true m n _ found.1 in
    slice_get-get_or matrix opcode (m, n) found.0 ∙ ap Some same

-- no instruction is in the matrix twice
pub none_twice : NoneTwice
none_twice i j d below within same =
    let first = opcode_at i _ (slice_get-get_or matrix i d (omega arith)) in
    let second = opcode_at j _ (slice_get-get_or matrix j d within) in
    let one : i ≡ j = cc in
    absurd (omega arith)

-- a byte has the instruction at its place in the matrix
pub entry_at : (byte : ℕ) (d : Instruction) → byte < 256 → slice_get matrix byte ≡ Some (get_or matrix byte d)
entry_at byte d small = slice_get-get_or matrix byte d (omega (arith, length-matrix))

-- what has no opcode is nowhere in the matrix
pub no_opcode : (m : Mnemonic) (n : Mode) → opcode_of m n ≡ None → ¬ Contains matrix (m, n)
no_opcode m n none (place, within, same) =
    let found = opcode_at place (m, n) (slice_get-get_or matrix place (m, n) within ∙ ap Some same) in
    cc
