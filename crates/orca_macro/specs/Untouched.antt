-- Lines that no statement of conditional assembly concerns.
use Rattle.std.specs.Prelude.{◌≡◌, ◌≤◌, ℕ, List, length, slice_get, Some, None, false, codes}
use Rattle.orca_meaning.specs.Characters.{folded}
use Rattle.orca_meaning.specs.Line.{Line, part, is_comment}
use Rattle.macro_meaning.specs.Definition.{MacroDefinition, operation_is, first_named}
use Rattle.orca_macro.specs.Plan.{IsGiven}

-- the line begins no definition, and unless it is a comment it is given unchanged, where no macro has the name of its operation
pub record IsUntouched (line : Line) : Type 0 where
  pub begins_none : operation_is (codes "MACRO") line ≡ false
  pub given : is_comment line.text ≡ false → (definitions : List MacroDefinition) → first_named (folded (part line.text line.fields.operation)) definitions ≡ None → IsGiven definitions line

-- all lines are untouched, and they can all be visited
pub record AreUntouched (lines : List Line) : Type 0 where
  pub few : length lines ≤ 1000000
  pub each : (at : ℕ) (line : Line) → slice_get lines at ≡ Some line → IsUntouched line
