-- How definitions are seen, and how far the lines of a file were gone over.
use Rattle.std.specs.Prelude.{◌≡◌, ℕ, ◌+◌, ◌-◌, ◌≤◌, ◌<◌, Bool, List, [], ◌∷◌, ◌++◌, length, take, drop, map, slice_get, Option, Some, None, Result, Ok, Err}
use Rattle.orca_meaning.specs.Line.{Line, fields_of}
use Rattle.macro_meaning.specs.declared.faults.MacroFault.{MacroFault}
use Rattle.macro_meaning.specs.Definition as meaning
use Rattle.macro_meaning.specs.Definition.{DefinitionPart, Closed, Begun, parts_of, source_line, definitions_in, first_part_fault, definition_from, part_fault}
use Rattle.macro_meaning.specs.Expansion.{line_fault_of}
use Rattle.orca_macro.specs.declared.definitions.MacroDefinition.{MacroDefinition}
use Rattle.orca_symbols.specs.ModelView.{model}

-- a macro
abbrev pub definition : MacroDefinition → meaning.MacroDefinition
definition d = record { model = model d.model; visible_after = d.visible_after; body = d.body }

-- each line has the fields of its bytes
abbrev pub HaveOwn : List Line → Type 0
HaveOwn lines = (k : ℕ) (l : Line) → slice_get lines k ≡ Some l → l.fields ≡ fields_of l.text

-- the definition from a MACRO line to a MEND line, or what is wrong with it
abbrev pub Judged : ℕ → Line → List Line → Line → Result MacroDefinition MacroFault → Type 0
Judged following begins inner ends (Ok d) = (definition_from following inner ends ≡ Some (definition d)) × (part_fault (Closed begins inner ends) ≡ None)
Judged following begins inner ends (Err fault) = line_fault_of (part_fault (Closed begins inner ends)) ≡ Some fault

-- the definition that is open at a place, where it begins at that of its MACRO line
abbrev pub IsBegun : List Line → ℕ → Option ℕ → Begun → Type 0
IsBegun lines at None None = Unit {0}
IsBegun lines at None (Some begun) = ⊥
IsBegun lines at (Some place) None = ⊥
IsBegun lines at (Some place) (Some (begins, inner)) =
    (slice_get lines place ≡ Some begins) × (place < at) × (inner ≡ take (at - place - 1) (drop (place + 1) lines))

-- the lines that are visited of the open definition
abbrev pub open_lines : Begun → List Line
open_lines None = []
open_lines (Some (begins, inner)) = begins ∷ []

-- these parts were found so far, without a fault
pub record IsScanned (in_source : Bool) (lines : List Line) (at : ℕ) (plain : List Line) (old new : List meaning.MacroDefinition) (open_at : Option ℕ) : Type 0 where
  pub parts : List DefinitionPart
  pub begun : Begun
  pub is_begun : IsBegun lines at open_at begun
  pub within : at ≤ length lines
  pub goes_on : parts_of None lines ≡ parts ++ parts_of begun (drop at lines)
  pub good : first_part_fault parts ≡ None
  pub plain_is : plain ≡ map source_line parts ++ open_lines begun
  pub definitions_are : new ≡ old ++ definitions_in in_source parts

-- the whole file was gone over: the lines that are visited, or the first fault
abbrev pub Scanned : Bool → List Line → List meaning.MacroDefinition → List meaning.MacroDefinition → Result (List Line) MacroFault → Type 0
Scanned in_source lines old new (Ok plain) =
    (first_part_fault (parts_of None lines) ≡ None) × (plain ≡ map source_line (parts_of None lines)) × (new ≡ old ++ definitions_in in_source (parts_of None lines))
Scanned in_source lines old new (Err fault) = line_fault_of (first_part_fault (parts_of None lines)) ≡ Some fault
