-- The opcodes of a mnemonic, by a test that computes over the whole matrix.
use Rattle.std.proofs.Common.{◌≡◌, ℕ, zero, suc, ◌+◌, true, false, not, List, [], ◌∷◌, slice_get, get_or, ◌<◌, refl, ap, sym, ◌∙◌, Some, None, Option, arith, zero-add, inl, inr, subst}
use Rattle.std.specs.Prelude.{◌||◌, ◌==◌}
use denote.Enum.Bare.{same_true, true_same, sameb}
use Rattle.std.proofs.lemmas.Bool.{and_parts, cases_Bool, eqb-true}
use Rattle.std.proofs.lemmas.Option.{slice_get-get_or, slice_get_within}
use Rattle.orca_meaning.specs.contracts.mnemonics.Mnemonic as mnemonic_type
use Rattle.orca_meaning.specs.contracts.modes.Mode as mode_type
use Rattle.orca_meaning.specs.declared.mnemonics.Mnemonic.{Mnemonic}
use Rattle.orca_meaning.specs.declared.modes.Mode.{Mode}
use Rattle.orca_meaning.specs.Matrix.{Instruction, matrix, opcode_of}
use Rattle.orca_meaning.specs.laws.Steps.{is_instruction}
use Rattle.orca_meaning.proofs.MatrixLemmas.{instruction_at, opcode_at, length-matrix}
use Rattle.w65_encode.specs.Row.{are_in, in_row, is_answer}

-- what that test shows of an instruction further on
in_at : (mnemonic : Mnemonic) (row : List ℕ) (k : ℕ) (xs : List Instruction) → are_in mnemonic row k xs ≡ true → (i : ℕ) (mode : Mode) → slice_get xs i ≡ Some (mnemonic, mode) → (in_row row mode == k + i) ≡ true
unfolding are_in
in_at mnemonic row k [] h i mode e = cc
in_at mnemonic row k (y ∷ ys) h zero mode e =
    let is : y ≡ (mnemonic, mode) = cc in
    let first = (and_parts (not (sameb mnemonic_type.the_type y.0 mnemonic) || in_row row y.1 == k) (are_in mnemonic row (suc k) ys) h).0 in
    let own : sameb mnemonic_type.the_type y.0 mnemonic ≡ true = ap (λ (x : Instruction). sameb mnemonic_type.the_type x.0 mnemonic) is ∙ true_same mnemonic_type.the_type mnemonic mnemonic refl in
    let mode_is : y.1 ≡ mode = ap (λ (x : Instruction). x.1) is in
    let k0 : k ≡ k + 0 = omega arith in
    rw (← k0) (rw (own, mode_is) at first)
in_at mnemonic row k (y ∷ ys) h (suc i) mode e =
    let place : suc k + i ≡ k + suc i = omega arith in
    rw (← place) (in_at mnemonic row (suc k) ys (and_parts (not (sameb mnemonic_type.the_type y.0 mnemonic) || in_row row y.1 == k) (are_in mnemonic row (suc k) ys) h).1 i mode e)

-- a row that passes has each opcode of the mnemonic
has_all : (mnemonic : Mnemonic) (row : List ℕ) (mode : Mode) (k : ℕ) → are_in mnemonic row 0 matrix ≡ true → opcode_of mnemonic mode ≡ Some k → in_row row mode ≡ k
has_all mnemonic row mode k h e =
    let found = in_at mnemonic row 0 matrix h k mode (instruction_at mnemonic mode k e) in
    eqb-true (in_row row mode) k (rw zero-add at found)

-- a number is itself
is_own : (k : ℕ) → (k == k) ≡ true
is_own k = grind arith

-- an instruction passes its own test
own_instruction : (m : Mnemonic) (n : Mode) → is_instruction m n (m, n) ≡ true
own_instruction m n =
    let one = true_same mnemonic_type.the_type m m refl in
    let other = true_same mode_type.the_type n n refl in
    rw (one, other) refl

slice_get_at : {X : Type 0} (xs : List X) (i : ℕ) (d x : X) → slice_get xs i ≡ Some x → get_or xs i d ≡ x
slice_get_at xs i d x e =
    let within = slice_get_within xs i x e in
    let is = sym (slice_get-get_or xs i d within) ∙ e in
    cc

-- what passes the test is the instruction
is_instruction-true : (m : Mnemonic) (n : Mode) (x : Instruction) → is_instruction m n x ≡ true → x ≡ (m, n)
is_instruction-true m n (a, b) h =
    let both = and_parts (sameb mnemonic_type.the_type a m) (sameb mode_type.the_type b n) h in
    let one : a ≡ m = same_true mnemonic_type.the_type tt a m both.0 in
    let other : b ≡ n = same_true mode_type.the_type tt b n both.1 in
    cc

-- the instruction of an opcode passes the test exactly where the opcode is its answer
pub answers : (m : Mnemonic) (n : Mode) (k : ℕ) (d : Instruction) → k < 256 → is_instruction m n (get_or matrix k d) ≡ is_answer (opcode_of m n) k
unfolding is_answer
answers m n k d small = elim (cases_Bool (is_instruction m n (get_or matrix k d))) [
  | inl same ↦
      let own = opcode_at k (m, n) (slice_get-get_or matrix k d (omega (arith, small, length-matrix)) ∙ ap some_instruction (is_instruction-true m n (get_or matrix k d) same)) in
      same ∙ rw own (sym (is_own k))
  | inr other ↦ other ∙ sym (by_answer (opcode_of m n) refl other)
]
  where
    some_instruction : Instruction → Option Instruction
    some_instruction x = Some x

    by_answer : (o : Option ℕ) → opcode_of m n ≡ o → is_instruction m n (get_or matrix k d) ≡ false → is_answer o k ≡ false
    by_answer None e other = refl
    by_answer (Some j) e other = elim (cases_Bool (j == k)) [
      | inl here ↦
          let same : j ≡ k = eqb-true j k here in
          let there : get_or matrix k d ≡ (m, n) = slice_get_at matrix k d (m, n) (subst (λ (q : ℕ). slice_get matrix q ≡ Some (m, n)) same (instruction_at m n j e)) in
          let found : is_instruction m n (get_or matrix k d) ≡ true = rw there (own_instruction m n) in
          let clash : true ≡ false = sym found ∙ other in
          cc
      | inr no_answer ↦ no_answer
    ]

-- what passes as an answer is the answer
pub found : (m : Mnemonic) (n : Mode) (k : ℕ) → is_answer (opcode_of m n) k ≡ true → Some k ≡ opcode_of m n
unfolding is_answer
found m n k = by_answer (opcode_of m n)
  where
    by_answer : (o : Option ℕ) → is_answer o k ≡ true → Some k ≡ o
    by_answer None h = cc
    by_answer (Some j) h = let same : j ≡ k = eqb-true j k h in cc

-- where what the row has isn't the answer there is none
pub not_found : (m : Mnemonic) (n : Mode) (row : List ℕ) → are_in m row 0 matrix ≡ true → is_answer (opcode_of m n) (in_row row n) ≡ false → None ≡ opcode_of m n
unfolding is_answer
not_found m n row all = by_answer (opcode_of m n) refl
  where
    by_answer : (o : Option ℕ) → opcode_of m n ≡ o → is_answer o (in_row row n) ≡ false → None ≡ o
    by_answer None is fails = refl
    by_answer (Some k) is fails =
        let there : in_row row n ≡ k = has_all m row n k all is in
        let own : (k == k) ≡ true = is_own k in
        let clash : (k == k) ≡ false = rw there at fails in
        cc
