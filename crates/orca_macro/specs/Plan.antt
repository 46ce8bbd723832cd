-- What is known of a line before it is visited.
use Rattle.std.specs.Prelude.{◌≡◌, ℕ, List, Option, Some, None, true, false, length, slice_get}
use Rattle.macro_meaning.specs.Effect as meaning
use Rattle.macro_meaning.specs.Definition.{MacroDefinition}
use Rattle.macro_meaning.specs.Effect.{SymbolSetting, IsEffect, IsDone, IsStatement}
use Rattle.macro_meaning.specs.Symbol.{Values}
use Rattle.macro_meaning.specs.declared.statements.Statement.{Statement}
use Rattle.orca_meaning.specs.Line.{Line, three_fields, is_comment}
use Rattle.orca_macro.specs.Head.{BeginsSo}
use Rattle.orca_symbols.specs.Plain.{plain_len}
use Rattle.orca_symbols.specs.Template.{HasParts}
use Rattle.orca_macro.specs.declared.plan.KnownHead.{KnownHead}
use Rattle.orca_macro.specs.declared.plan.KnownHead.TheVariants.{Open, Rests, Goes, Leaves}
use Rattle.orca_macro.specs.declared.plan.LinePlan.{LinePlan}
use Rattle.orca_macro.specs.declared.plan.LinePlan.TheVariants.{Comment, Plain, Parts}

-- what is known that a line does
abbrev pub known_effect : KnownHead → Option meaning.Effect
known_effect Open = None
known_effect Rests = Some meaning.NoEffect
known_effect (Goes name) = Some (meaning.BranchTo name)
known_effect Leaves = Some meaning.Exit

-- a statement does this wherever it is
pub record IsAlwaysDone (statement : Statement) (text label operand : List ℕ) (effect_done : meaning.Effect) : Type 0 where
  pub is : (values : Values) → IsDone values statement text label operand effect_done

-- what is known of a statement's effect is so whatever the symbols are
abbrev pub FitsDone : Statement → List ℕ → List ℕ → List ℕ → Option meaning.Effect → Type 0
FitsDone statement text label operand None = Unit {0}
FitsDone statement text label operand (Some effect_done) = IsAlwaysDone statement text label operand effect_done

-- the text after a line's sequence symbol does this wherever it is
pub record IsAlwaysStatement (text : List ℕ) (effect_done : meaning.Effect) : Type 0 where
  pub is : (s : SymbolSetting) → IsStatement s text (three_fields text) effect_done

-- what is known of the effect of a line without symbols is so wherever the line is
abbrev pub FitsStatement : List ℕ → Option meaning.Effect → Type 0
FitsStatement text None = Unit {0}
FitsStatement text (Some effect_done) = IsAlwaysStatement text effect_done

-- a line does this wherever it is
pub record IsAlways (line : Line) (effect_done : meaning.Effect) : Type 0 where
  pub is : (s : SymbolSetting) → IsEffect s line effect_done

-- where these are the macros, a line is given unchanged, whatever the symbols are
pub record IsGiven (definitions : List MacroDefinition) (line : Line) : Type 0 where
  pub is : (s : SymbolSetting) → s.definitions ≡ definitions → IsEffect s line (meaning.Emit line.text)

-- what is known of a line's effect is so wherever the line is
abbrev pub FitsLine : Line → Option meaning.Effect → Type 0
FitsLine line None = Unit {0}
FitsLine line (Some effect_done) = IsAlways line effect_done

-- the line is no comment and has no `&`
abbrev pub IsPlain : Line → Type 0
IsPlain line = (is_comment line.text ≡ false) × (plain_len line.text ≡ length line.text)

-- the plan is right of a line
abbrev pub Fits : Line → LinePlan → Type 0
Fits line Comment = is_comment line.text ≡ true
Fits line (Plain effect_done) = IsPlain line × FitsLine line (known_effect effect_done)
Fits line (Parts parts head) = (is_comment line.text ≡ false) × HasParts line parts.items × BeginsSo parts.items head

-- the plan fits the line at a place
pub record FitsAt (lines : List Line) (at : ℕ) (plan : LinePlan) : Type 0 where
  pub is : (line : Line) → slice_get lines at ≡ Some line → Fits line plan

-- each of the plans fits the line at its place
pub record HavePlans (lines : List Line) (plans : List LinePlan) : Type 0 where
  pub at : (at : ℕ) (plan : LinePlan) → slice_get plans at ≡ Some plan → FitsAt lines at plan
