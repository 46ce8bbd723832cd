-- Where the segments of a load file lie in memory.
use Rattle.std.specs.Prelude.{◌≡◌, ℕ, zero, suc, List, Option, None, slice_get, unwrap_or, option_and_then, IsSomeAnd}
use Rattle.omf_format.specs.File.{Segment, segment_at}
use Rattle.load_meaning.specs.Cells.{stands}

-- the address of the segment with a number, from 1, if it has one
abbrev pub place_in : List (Option ℕ) → ℕ → Option ℕ
place_in places zero = None
place_in places (suc k) = option_and_then (λ address. address) (slice_get places k)

-- and 0 where it has none
abbrev pub address_in : List (Option ℕ) → ℕ → ℕ
address_in places number = unwrap_or (place_in places number) 0

-- the bytes are those in memory of the segment with a number, where the segments lie at these addresses
abbrev pub Stands : List Segment → ℕ → List (Option ℕ) → List ℕ → Type 0
Stands segments number places bytes = IsSomeAnd (segment_at segments number) (λ s. bytes ≡ stands (address_in places) s)
