-- The places that linked cells name are in the file itself; one in a run-time library file is called.
use Rattle.std.specs.Prelude.{◌≡◌, ◌≢◌, ℕ, ℤ, true, List, Ok}
use Rattle.std.specs.List.{AllByRecursion}
use Rattle.omf_format.specs.declared.codes.TheConstants.{LEXPR}
use Rattle.omf_format.specs.declared.value.Value.TheVariants.{At}
use Rattle.omf_format.specs.Header.{HeaderFields}
use Rattle.omf_format.specs.Value.{is_unshifted}
use Rattle.load_meaning.specs.Cells.{Cell, Byte, Part}
use Rattle.load_meaning.specs.declared.table.Target.{Target}
use Rattle.link_meaning.specs.Member.{Member}
use Rattle.link_meaning.specs.LinkValues.{EquateAnswer}
use Rattle.link_meaning.specs.Fitting.{PatchPlace, Fit, Entry, ends_in_jsl, fit_value}
use Rattle.link_meaning.specs.LinkWritten.{linked_cells}

-- the cell is a byte, or part of a place in the file itself, which has the number 1
abbrev pub IsOfTheFile : Cell → Type 0
IsOfTheFile (Byte b) = Unit {0}
IsOfTheFile (Part file segment offset shift index) = file ≡ 1

-- the three bytes of a call: LEXPR after a byte $22
pub record IsCall (code count : ℕ) (before : List Cell) : Type 0 where
  pub record' : code ≡ LEXPR
  pub wide : count ≡ 3
  pub after : ends_in_jsl before ≡ true

-- ---- laws

-- All linked cells are of the file.
abbrev pub PartsAreOfTheFile : Type 0
PartsAreOfTheFile = (list : List Member) (table : List EquateAnswer) → AllByRecursion (AllByRecursion IsOfTheFile) (linked_cells list table)

-- A place in another file fits as a call alone, without a shift, and becomes an entry for it.
abbrev pub OutsideIsCalled : Type 0
OutsideIsCalled = (headers : List HeaderFields) (f : PatchPlace) (targets : List Target) (before : List Cell) (code count n : ℕ) (t : Target) (shift : ℤ) (fit : Fit)
    → t.file ≢ 1 → fit_value headers f targets before code count n (At t.file t.segment t.offset shift) ≡ Ok fit
    → (fit ≡ Entry t) × IsCall code count before × (is_unshifted shift ≡ true)
