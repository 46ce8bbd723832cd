-- What is put into a load segment.
use Rattle.std.specs.Prelude.{◌≡◌, ℕ, ◌++◌, List, Ok, Err}
use Rattle.omf_format.specs.Header.{HeaderFields}
use Rattle.load_meaning.specs.Cells.{Cell}
use Rattle.load_meaning.specs.declared.table.Target.{Target}
use Rattle.load_meaning.specs.Table.{entry_place, with_target}
use Rattle.link_meaning.specs.declared.fault.LinkCause.{LinkCause}
use Rattle.link_meaning.specs.Fitting as meaning
use Rattle.link_meaning.specs.Fitting.{fit_value, fit_cells, targets_after}
use Rattle.link_meaning.specs.laws.Steps.{entry_of}
use Rattle.link_content.specs.Holding.{Holding}
use Rattle.link_content.specs.declared.fit.FormulaRecord.{FormulaRecord}
use Rattle.link_content.specs.Contents.{HoldsCells}
use Rattle.link_content.specs.Fits.{with_room}

-- the target had room, and has its entry there
pub record EntersTarget (old new : List Target) (target : Target) (at : ℕ) : Type 0 where
  pub targets' : new ≡ with_target old target
  pub place : at ≡ entry_place (entry_of new target)
  pub room : with_room old (meaning.Entry target) ≡ Ok (meaning.Entry target)

-- this is why the target has no room
abbrev pub LacksRoom : List Target → Target → LinkCause → Type 0
LacksRoom targets target cause = with_room targets (meaning.Entry target) ≡ Err cause

-- a fit's bytes were put, where the table is the load segment with this number
pub record PutsFit (number count : ℕ) (old new : List Target) (fit : meaning.Fit) (before after : Holding) : Type 0 where
  pub room : with_room old fit ≡ Ok fit
  pub targets' : new ≡ targets_after old fit
  pub cells' : (cells : List Cell) → HoldsCells cells before → HoldsCells (cells ++ fit_cells number count new fit) after

-- the bytes of what the value became in the record were put
pub record PutsValue (headers : List HeaderFields) (frame : meaning.PatchPlace) (following : List Cell) (formula : FormulaRecord) (number : ℕ) (old new : List Target) (before after : Holding) : Type 0 where
  pub fit : meaning.Fit
  pub fits : fit_value headers frame old following formula.code formula.count formula.n formula.value ≡ Ok fit
  pub targets' : new ≡ targets_after old fit
  pub cells' : (cells : List Cell) → HoldsCells cells before → HoldsCells (cells ++ fit_cells number formula.count new fit) after
