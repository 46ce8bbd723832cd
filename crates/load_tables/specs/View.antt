-- How exported names and paths are seen.
use Rattle.std.specs.Prelude.{ℕ, List, map}
use Rattle.std.specs.Borrow.{Bor}
use Rattle.load_meaning.specs.Exports as exports
use Rattle.load_tables.specs.declared.exports.Export.{Export}

-- an exported name without where its bytes lie
abbrev pub seen_export : Export → exports.Export
seen_export e = record { name = e.name.now; segment = e.segment; offset = e.offset; holder = e.holder }

-- paths without where they lie
abbrev pub seen_paths : List (Bor (List ℕ)) → List (List ℕ)
seen_paths paths = map (λ path. path.now) paths
