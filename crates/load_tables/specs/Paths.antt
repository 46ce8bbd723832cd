-- Reading the pathname segment of a load file. No public clause cites this module.
use Rattle.std.specs.Prelude.{◌≡◌, ℕ, ◌-◌, Bool, true, false, not, ◌||◌, if◌then◌else◌, List, [], ◌∷◌, take, Option, Some, None, option_map, Ok}
use Rattle.load_meaning.specs.laws.Steps.{in_segment}
use Rattle.std.specs.List.{list_any}
use Rattle.std.specs.Option.{option_or}
use Rattle.omf_format.specs.Header.{first_of, is_dynamic, is_skipped}
use Rattle.omf_format.specs.Record.{Record}
use Rattle.omf_format.specs.Reading.{Reader, next_answer, after_next}
use Rattle.omf_format.specs.File.{Segment}
use Rattle.load_meaning.specs.declared.load.LoadCause.TheVariants.{BadTable}
use Rattle.load_meaning.specs.declared.load.LoadFault.{LoadFault}
use Rattle.load_meaning.specs.Cells.{segment_bytes}
use Rattle.load_meaning.specs.Pathnames.{has_pathnames, most_paths, paths_in, rows_flaw, long_bytes, is_one_long}
use Rattle.load_tables.specs.declared.pathnames.RowsFault.{RowsFault}
use Rattle.load_tables.specs.declared.pathnames.RowsFault.TheVariants.{Flaw, Memory}

-- the bytes of a body that is one LCONST and END
abbrev pub lone_bytes : List (ℕ × Record) → Option (List ℕ)
lone_bytes (a ∷ end ∷ []) = long_bytes a.1
lone_bytes _ = None

-- one more record follows, and none after it
abbrev pub TakesLast : Reader → Bool → Type 0
TakesLast old true = (found : ℕ × Record) × (next_answer old ≡ Ok (Some found)) × (next_answer (after_next old) ≡ Ok None)
TakesLast old false = (found : ℕ × Record) → next_answer old ≡ Ok (Some found) → next_answer (after_next old) ≡ Ok None → ⊥

-- where rows, `most` of them at most, go wrong
unfoldable pub flaw_in : ℕ → List ℕ → Option ℕ
flaw_in most bytes = rows_flaw most 0 0 bytes

-- their paths
unfoldable pub rows_in : ℕ → List ℕ → List (List ℕ)
rows_in most bytes = paths_in most bytes

-- the fault reports this flaw, unless out of memory
abbrev pub IsFlaw : RowsFault → Option ℕ → Type 0
IsFlaw (Flaw at) flaw = flaw ≡ Some at
IsFlaw Memory flaw = Unit {0}

-- what is wrong with a pathname segment, where it is known whether another is before it
unfoldable pub flaw_after : Bool → Segment → Option ℕ
flaw_after second s = option_or
    (first_of (
    (second, 0)
    ∷ (is_dynamic s.fields.kind || is_skipped s.fields.kind, 0)
    ∷ (not (is_one_long s.fields.length s.records), 0)
    ∷ []))
    (flaw_in most_paths (segment_bytes s))

-- what is wrong with the segment that has this number, if it is a pathname segment
unfoldable pub fault_after : Bool → ℕ → Segment → Option LoadFault
fault_after second number s = if has_pathnames s then option_map (λ at. in_segment number (BadTable, at)) (flaw_after second s) else None

-- the paths of a segment, if it is a pathname segment, and else those that are there
unfoldable pub paths_then : Segment → List (List ℕ) → List (List ℕ)
paths_then s others = if has_pathnames s then rows_in most_paths (segment_bytes s) else others

-- whether one of the segments before the one with this number is a pathname segment
abbrev pub is_second : List Segment → ℕ → Bool
is_second segments number = list_any has_pathnames (take (number - 1) segments)
