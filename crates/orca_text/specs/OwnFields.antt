-- Lines with the fields of their own bytes.
use Rattle.std.specs.Prelude.{◌≡◌, ◌≤◌, length, List}
use Rattle.std.specs.List.{AllByRecursion}
use Rattle.orca_meaning.specs.Line.{Line, fields_of}

-- a line's fields are those of its own text, of at most 255 bytes
abbrev pub HasOwnFields : Line → Type 0
HasOwnFields line = (line.fields ≡ fields_of line.text) × (length line.text ≤ 255)

-- each line has the fields of its own text
abbrev pub HaveOwnFields : List Line → Type 0
HaveOwnFields lines = AllByRecursion HasOwnFields lines
