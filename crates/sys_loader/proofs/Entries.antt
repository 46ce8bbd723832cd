-- The entries of a jump table by their codes.
use Rattle.std.proofs.Common.{◌≡◌, ◌≢◌, ℕ, zero, suc, true, false, ◌==◌, ◌+◌, ◌<◌, List, [], ◌∷◌, length, Some, None, refl, ◌∙◌, arith}
use Rattle.std.specs.Prelude.{slice_get}
use Rattle.load_meaning.specs.declared.table.Target.{Target}
use Rattle.load_meaning.specs.Table.{entry_place}
use Rattle.loader_machine.specs.Steps.{target_at_code}

code_here : (k offset : ℕ) (t : Target) (targets : List Target) → entry_place k ≡ offset → target_at_code (t ∷ targets) k offset ≡ Some t
code_here k offset t targets is = let yes : (entry_place k == offset) ≡ true = grind (arith, is) in rw yes refl

code_after : (k offset : ℕ) (t : Target) (targets : List Target) → entry_place k ≢ offset → target_at_code (t ∷ targets) k offset ≡ target_at_code targets (k + 1) offset
code_after k offset t targets other = let no : (entry_place k == offset) ≡ false = grind (arith, other) in rw no refl

-- the entry with this code is the one at its place
pub found_code : (targets : List Target) (first n offset : ℕ) (t : Target) → slice_get targets n ≡ Some t → entry_place (first + n) ≡ offset → target_at_code targets first offset ≡ Some t
found_code [] first n offset t is code = absurd cc
found_code (x ∷ targets) first zero offset t is code = code_here first offset x targets (omega (arith, code)) ∙ is
found_code (x ∷ targets) first (suc n) offset t is code =
    code_after first offset x targets (λ e. omega (arith, code, e)) ∙ found_code targets (first + 1) n offset t is (omega (arith, code))

-- or none
pub no_code : (targets : List Target) (first offset : ℕ) → ((n : ℕ) → n < length targets → entry_place (first + n) ≢ offset) → target_at_code targets first offset ≡ None
no_code [] first offset none = refl
no_code (t ∷ targets) first offset none =
    code_after first offset t targets (λ e. none zero (omega arith) (omega (arith, e)))
    ∙ no_code targets (first + 1) offset (λ n inside e. none (suc n) (omega (arith, inside)) (omega (arith, e)))
