-- Steps of definitions, as words of laws and of contracts between functions.
use Rattle.std.specs.Prelude.{◌≡◌, ℕ, List, length}
use Rattle.omf_format.specs.File.{IsFile, Segment}
use Rattle.std.specs.List.{zip}

-- the file has `count` segments
abbrev pub HasSegments : List ℕ → ℕ → Type 0
HasSegments file count = (segments : List Segment) × IsFile segments file × (count ≡ length segments)

-- the files, each with its path
abbrev pub under_paths : List (List ℕ) → List (List ℕ) → List (List ℕ × List ℕ)
under_paths paths files = zip paths files
