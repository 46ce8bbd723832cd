-- What is done with a record: its lines are written, and what it leaves is kept.
use Rattle.std.specs.Prelude.{◌≡◌, ℕ, Bool, List, Option, Some, None, if◌then◌else◌}
use Rattle.omf_format.specs.Expression.{IsExpression}
use Rattle.omf_format.specs.Record.{Record, Equate, Formula}
use Rattle.list_meaning.specs.Listed.{Wanted}
use Rattle.list_meaning.specs.Listing as listing
use Rattle.list_meaning.specs.Listing.{Given}
use Rattle.list_meaning.specs.laws.Steps.{is_held}
use Rattle.list_lines.specs.declared.output.ListingText.{ListingText}
use Rattle.w65_list.specs.declared.records.PendingRun.{PendingRun}
use Rattle.w65_list.specs.declared.records.ListedFormula as declared
use Rattle.w65_list.specs.BeforeView.{IsBefore}
use Rattle.list_lines.specs.LineView.{WroteAll}

-- these lines were written, and this is left
pub record Gave (all : Given) (old new : ListingText) (after : PendingRun) : Type 0 where
  pub wrote : WroteAll all.0 old new
  pub left : IsBefore after all.1

-- it can be listed: its lines were written, and what it leaves is left
pub record IsGiven (given : Option Given) (old new : ListingText) (after : PendingRun) : Type 0 where
  pub all : Given
  pub is : given ≡ Some all
  pub gave : Gave all old new after

-- the code, the count and the n of a record
abbrev pub formula_seen : declared.ListedFormula → ℕ × ℕ × ℕ
formula_seen formula = (formula.code, formula.count, formula.n)

-- the last byte of a run, where it is an opcode that has this record
abbrev pub held_by : listing.PendingRun → ℕ → ℕ → ℕ → Option (List ℕ × ℕ) → Option ℕ
held_by b code count n None = None
held_by b code count n (Some found) = if is_held b code count n found then Some found.1 else None

-- an opcode that is held back, and its operand
abbrev pub held_with : Option ℕ → Option Wanted → Option (ℕ × Wanted)
held_with None wanted = None
held_with (Some opcode) None = None
held_with (Some opcode) (Some wanted) = Some (opcode, wanted)

-- what an equate gives, where it is allowed
abbrev pub equate_by : Bool → Option Given → Option Given
equate_by holds given = if holds then given else None

-- the expression of a record is spelled with names of this LABLEN
abbrev pub HasExpression : ℕ → Record → Type 0
HasExpression lab_len (Equate global name size form private expr) = IsExpression lab_len expr
HasExpression lab_len (Formula code count n expr) = IsExpression lab_len expr
HasExpression lab_len _ = Unit {0}
