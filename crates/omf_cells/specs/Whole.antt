-- What a load file returns for one of its segments as a whole.
use Rattle.std.specs.Prelude.{◌≡◌, ℕ, ◌+◌, ◌-◌, ◌≤◌, List, [], ◌∷◌, ◌++◌, length, map, replicate, IsSomeAnd}
use Rattle.std.specs.Option.{option_map_or}
use Rattle.omf_format.specs.File.{Segment, segment_at}
use Rattle.load_meaning.specs.Cells.{Byte, Patch, patched_cells, segment_bytes, cells}
use Rattle.load_meaning.specs.WrittenBody.{zeros_after}

-- how many cells a segment has up to the last one that isn't a byte 0
abbrev pub front_of : Segment → ℕ
front_of s = length (cells s) - zeros_after (cells s)

-- those of the segment with this number; 0 where there is no such segment
abbrev pub front_at : List Segment → ℕ → ℕ
front_at segments number = option_map_or front_of (segment_at segments number) 0

-- the data of the segment with this number; none where there is no such segment
abbrev pub data_at : List Segment → ℕ → List ℕ
data_at segments number = option_map_or segment_bytes (segment_at segments number) []

-- the data of the segment with this number begin with these bytes, and zeros follow them
abbrev pub HasData : List Segment → ℕ → List ℕ → Type 0
HasData segments number bytes = IsSomeAnd (segment_at segments number) (λ s. segment_bytes s ≡ bytes ++ replicate (s.fields.length - length bytes) 0)

-- patches of some bytes each, each after the one before and inside `size` bytes, the first one not before a place
abbrev pub AreSpaced : ℕ → ℕ → List Patch → Type 0
AreSpaced size low [] = Unit {0}
AreSpaced size low (p ∷ patches) = (low ≤ p.location) × (1 ≤ p.count) × (p.location + p.count ≤ size) × AreSpaced size (p.location + p.count) patches

-- the patches lie apart inside a segment, in order, and over its data they give its cells
pub record AreWhole (s : Segment) (patches : List Patch) : Type 0 where
  pub spaced : AreSpaced s.fields.length 0 patches
  pub cells' : cells s ≡ patched_cells (map Byte (segment_bytes s)) patches

-- they do so in the segment with this number
abbrev pub HasWhole : List Segment → ℕ → List Patch → Type 0
HasWhole segments number patches = IsSomeAnd (segment_at segments number) (λ s. AreWhole s patches)
