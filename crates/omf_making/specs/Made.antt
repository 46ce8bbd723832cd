-- What is made of the inputs of a command.
use Rattle.std.specs.Prelude.{ℕ, ◌≤◌, List, [], ◌∷◌, length, map, Vec}
use Rattle.std.specs.declared.alloc.Global.{Global}
use Rattle.omf_io.specs.Files.{max_file}
use Rattle.omf_making.specs.declared.making.Making.{Making}
use Rattle.omf_making.specs.declared.making.Making.TheVariants as making

-- bytes, or a line that says why there are none
pub data Made : Type 0 where
  Bytes : List ℕ → Made
  Refusal : List ℕ → Made

abbrev pub made_of : Making → Made
made_of (making.Bytes bytes) = Bytes bytes.items
made_of (making.Refusal text) = Refusal text

-- the files as their bytes
abbrev pub all_bytes : List (Vec ℕ Global) → List (List ℕ)
all_bytes files = map (λ file. file.items) files

-- the file of a command that reads one
abbrev pub first_of : List (List ℕ) → List ℕ
first_of [] = []
first_of (file ∷ files) = file

-- each has at most 16,777,216 bytes
abbrev pub AreShort : List (List ℕ) → Type 0
AreShort [] = Unit {0}
AreShort (file ∷ files) = (length file ≤ max_file) × AreShort files
