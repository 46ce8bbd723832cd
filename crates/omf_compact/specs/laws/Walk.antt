-- Going over the parts of cells one by one, from the start.
use Rattle.std.specs.Prelude.{◌≡◌, ◌<◌, ◌≤◌, ℕ, zero, suc, ◌+◌, ◌==◌, ◌&&◌, Bool, false, List, [], ◌∷◌, ◌++◌, map, Option, Some, None, option_map, Result, Ok, Err, if◌then◌else◌}
use Rattle.std.specs.Ordering.{int_eq}
use Rattle.std.specs.List.{AllByRecursion}
use Rattle.omf_format.specs.File.{Segment}
use Rattle.load_content.specs.declared.spots.PatchSpot.{PatchSpot}
use Rattle.load_meaning.specs.Cells.{Cell, Byte, Part, cell_at}
use Rattle.load_meaning.specs.Cells as format
use Rattle.omf_compact.specs.Stretches.{first_broken, stretches}
use Rattle.load_writer.specs.WrittenParts.{seen}
use Rattle.omf_compact.specs.declared.parting.Single.{Single}
use Rattle.omf_compact.specs.declared.parting.Parted.{Parted}
use Rattle.omf_compact.specs.declared.parting.Parted.TheVariants.{Patches, Broken}

-- ---- what is seen

abbrev pub Found : Type 0
Found = ℕ × Cell

abbrev pub placed : Single → Found
placed s = (s.at, Part 1 s.segment s.offset s.shift s.index)

-- no part is there
abbrev pub IsNoPart : Option Cell → Type 0
IsNoPart None = Unit {0}
IsNoPart (Some (Byte b)) = Unit {0}
IsNoPart (Some (Part file segment offset shift index)) = ⊥

-- none is there from an offset on, up to another
abbrev pub AreNoParts : List Segment → ℕ → ℕ → ℕ → Type 0
AreNoParts segments number low high = (k : ℕ) → low ≤ k → k < high → IsNoPart (cell_at segments number k)

-- none of the spots begins after the one offset and before the other
abbrev pub NoneBegins : ℕ → ℕ → List PatchSpot → Type 0
NoneBegins low high spots = AllByRecursion (λ s. low < s.at → high ≤ s.at) spots

-- this part is there, one of at most four bytes
abbrev pub IsPartAt : Single → ℕ → Option Cell → Type 0
IsPartAt s at found = (s.at ≡ at) × (found ≡ Some (placed s).1) × (s.index < 4)

-- the parts among cells, of which the first has this place, with their places
abbrev pub parts_at : ℕ → List Cell → List Found
parts_at at [] = []
parts_at at (Byte b ∷ of) = parts_at (at + 1) of
parts_at at (Part file segment offset shift index ∷ of) = (at, Part file segment offset shift index) ∷ parts_at (at + 1) of

-- ---- one part more

-- the cell at a place is the next byte of the patch's number
abbrev pub goes_on : format.Patch → ℕ → Cell → Bool
goes_on p at (Byte b) = false
goes_on p at (Part file segment offset shift index) =
    p.file == file && (p.location + p.count == at && (p.count == index && (p.segment == segment && (p.offset == offset && int_eq p.shift shift))))

abbrev pub longer : format.Patch → format.Patch
longer p = record p { count = p.count + 1 }

-- the patches with the last one longer, if the part continues it
abbrev pub extended : List format.Patch → ℕ → Cell → Option (List format.Patch)
extended [] at c = None
extended (p ∷ []) at c = if goes_on p at c then Some (longer p ∷ []) else None
extended (p ∷ q ∷ patches) at c = option_map (λ l. p ∷ l) (extended (q ∷ patches) at c)

-- the patches with one part more: byte 0 begins a patch, and each other one continues the last
abbrev pub with_part : List format.Patch → ℕ → Cell → Option (List format.Patch)
with_part patches at (Byte b) = None
with_part patches at (Part file segment offset shift zero) =
    Some (patches ++ record { location = at; count = 1; file = file; segment = segment; offset = offset; shift = shift } ∷ [])
with_part patches at (Part file segment offset shift (suc index)) = extended patches at (Part file segment offset shift (suc index))

abbrev pub or_broken : Option (List format.Patch) → ℕ → (List format.Patch → Result (List format.Patch) ℕ) → Result (List format.Patch) ℕ
or_broken None at go = Err at
or_broken (Some patches) at go = go patches

-- the patches of all parts, or the place of the first that doesn't go on
abbrev pub walk : List format.Patch → List Found → Result (List format.Patch) ℕ
walk patches [] = Ok patches
walk patches (found ∷ founds) = or_broken (with_part patches found.0 found.1) found.0 (λ more. walk more founds)

-- ---- the answer

-- the stretches of cells, or the place of their first broken part
abbrev pub IsParted : List Cell → Parted → Type 0
IsParted of (Patches patches) = (first_broken of ≡ None) × (map seen patches.items ≡ stretches of)
IsParted of (Broken at) = first_broken of ≡ Some at
