-- Parts of a written body, as the functions that write it see them.
use Rattle.std.specs.Prelude.{◌≡◌, ◌⊎◌, ℕ, zero, suc, ◌+◌, ◌-◌, ◌/◌, ◌≤◌, ◌<◌, List, [], ◌∷◌, ◌++◌, length, map, Some, slice_get, ◌==◌, if◌then◌else◌}
use Rattle.load_meaning.specs.Cells as format
use Rattle.load_meaning.specs.WrittenBody.{of_form}
use Rattle.load_meaning.specs.WrittenPages.{pages_text}
use Rattle.omf_format.specs.Record.{Record, Super}
use Rattle.load_writer.specs.declared.written.Patch.{Patch}

-- a patch of file 1, as the format defines it
abbrev pub seen : Patch → format.Patch
seen p = record { location = p.at; count = p.count; file = 1; segment = p.segment; offset = p.offset; shift = p.shift }

-- how many locations at the start lie in a page
abbrev pub run : ℕ → List ℕ → ℕ
run page [] = 0
run page (at ∷ more) = if at / 256 == page then suc (run page more) else 0

-- where the last patch ends
abbrev pub end_after : ℕ → List format.Patch → ℕ
end_after low [] = low
end_after low (p ∷ patches) = end_after (p.location + p.count) patches

-- the first `size` bytes go up to `end`, or up to the last byte after it that isn't 0
pub record IsKept (content : List ℕ) (end size : ℕ) : Type 0 where
  pub reaches : end ≤ size
  pub within : size ≤ length content
  pub zeros : (k : ℕ) → size ≤ k → k < length content → slice_get content k ≡ Some 0
  pub last : (size ≡ end) ⊎ ((slice_get content (size - 1) ≡ Some 0 → ⊥) × (1 ≤ size))

-- the locations of patches
abbrev pub places : List format.Patch → List ℕ
places patches = map (λ p. p.location) patches

-- the locations of each of n types from one on
abbrev pub places_from : ℕ → List format.Patch → ℕ → ℕ → List (List ℕ)
places_from own patches form zero = []
places_from own patches form (suc n) = places (of_form own patches form) ∷ places_from own patches (form + 1) n

-- those of all types
unfoldable pub locations_by_form : ℕ → List format.Patch → List (List ℕ)
locations_by_form own patches = places_from own patches 0 38

-- the lists, with one more location after those of one of them
abbrev pub put_in : List (List ℕ) → ℕ → ℕ → List (List ℕ)
put_in [] k at = []
put_in (l ∷ lists) zero at = (l ++ at ∷ []) ∷ lists
put_in (l ∷ lists) (suc k) at = l ∷ put_in lists k at

-- the list is a prefix of another
abbrev pub IsFront : List ℕ → List ℕ → Type 0
IsFront front whole = (rest : List ℕ) × (whole ≡ front ++ rest)

-- one SUPER of these locations, where there are any
abbrev pub super_of : ℕ → List ℕ → List Record
super_of form [] = []
super_of form (at ∷ more) = Super form (pages_text (at ∷ more)) ∷ []
