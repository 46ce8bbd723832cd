-- Evaluating term by term with the values that are pending, the last first. It is how the code goes; the value of an expression
-- is that of its tree.
use Rattle.std.specs.Prelude.{ℕ, ◌+◌, List, [], ◌∷◌, length, Result, Ok, Err, ◌==◌, if◌then◌else◌}
use Rattle.omf_format.specs.declared.value.Value.{Value}
use Rattle.omf_format.specs.declared.value.ValueFault.{ValueFault}
use Rattle.omf_format.specs.declared.value.ValueFault.TheVariants.{NotRelocatable}
use Rattle.omf_format.specs.Field.{◌>>=◌}
use Rattle.omf_format.specs.Expression.{Term, Operator, Location, Constant, Named, Offset, operand_count, term_text}
use Rattle.omf_format.specs.Value.{Environment, operand_value, apply_one, apply_two}

-- an operator of one operand on what is pending
abbrev pub step_one : ℕ → List Value → Result (List Value) ValueFault
step_one code [] = Err NotRelocatable
step_one code (a ∷ pending) = apply_one code a >>= λ value. Ok (value ∷ pending)

-- an operator of two operands, the right one on top
abbrev pub step_two : ℕ → List Value → Result (List Value) ValueFault
step_two code [] = Err NotRelocatable
step_two code (b ∷ []) = Err NotRelocatable
step_two code (b ∷ a ∷ pending) = apply_two code a b >>= λ value. Ok (value ∷ pending)

abbrev pub step_operand : Environment → ℕ → Term → List Value → Result (List Value) ValueFault
step_operand env at term pending = operand_value env at term >>= λ value. Ok (value ∷ pending)

-- one term
abbrev pub step : Environment → ℕ → Term → List Value → Result (List Value) ValueFault
step env at (Operator code) pending = if operand_count code == 1 then step_one code pending else step_two code pending
step env at Location pending = step_operand env at Location pending
step env at (Constant n) pending = step_operand env at (Constant n) pending
step env at (Named code name) pending = step_operand env at (Named code name) pending
step env at (Offset n) pending = step_operand env at (Offset n) pending

-- terms one after another, of which the first is at this place
abbrev pub run_terms : Environment → ℕ → ℕ → List Term → List Value → Result (List Value) ValueFault
run_terms env lab_len at [] pending = Ok pending
run_terms env lab_len at (term ∷ terms) pending = step env at term pending >>= λ after. run_terms env lab_len (at + length (term_text lab_len term)) terms after
