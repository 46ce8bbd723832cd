-- What directives leave, by the formula of their operand.
use Rattle.std.specs.Prelude.{◌≡◌, ℕ, Bool, List, [], ◌∷◌, Option, Result, Ok}
use Rattle.omf_format.specs.declared.codes.TheConstants.{DIRECTIVE_LABEL}
use Rattle.omf_format.specs.Field.{◌>>=◌}
use Rattle.omf_format.specs.Expression.{Tree}
use Rattle.omf_format.specs.Record.{End}
use Rattle.asm_meaning.specs.declared.faults.AsmCause.{AsmCause}
use Rattle.asm_meaning.specs.Answer.{Answer}
use Rattle.asm_meaning.specs.Formulas.{IsFormula}
use Rattle.asm_meaning.specs.State.{State, state_after_end}
use Rattle.asm_meaning.specs.Statement.{IsMove, constants_of, marking, equating, equating_outside}
use Rattle.orca_object.specs.declared.state.AsmState.{AsmState}
use Rattle.orca_operands.specs.NumberView.{number_found}
use Rattle.orca_object.specs.StateView.{Leaves}

-- the number of ORG
pub record HasDistance (state : State) (text : List ℕ) (number : Answer ℕ) : Type 0 where
  pub found : Option Tree
  pub move : IsMove state.segment text found
  pub number' : number ≡ number_found (constants_of state) found

-- END
abbrev pub ending : State → Answer (List ℕ) → Answer State
ending state label = marking state DIRECTIVE_LABEL label (Ok (End ∷ [])) >>= λ left. Ok (state_after_end left)

-- EQU, and GEQU in a segment
pub record IsEquated {U : Type 0} (state : State) (global : Bool) (label : Answer (List ℕ)) (text : List ℕ) (done : Result U AsmCause) (k : AsmState) : Type 0 where
  pub found : Option Tree
  pub formula : IsFormula text found
  pub leaves : Leaves done k (equating state global label found)

-- GEQU outside
pub record IsConstant {U : Type 0} (state : State) (label : Answer (List ℕ)) (text : List ℕ) (done : Result U AsmCause) (k : AsmState) : Type 0 where
  pub found : Option Tree
  pub formula : IsFormula text found
  pub leaves : Leaves done k (equating_outside state label found)
