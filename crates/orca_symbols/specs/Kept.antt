-- Where the bytes of texts are stored.
use Rattle.std.specs.Prelude.{ℕ, List}
use Rattle.orca_symbols.specs.declared.text.TextBytes.{TextBytes}
use Rattle.orca_symbols.specs.declared.text.TextBytes.TheVariants.{Few, Many}

-- the bytes of a text, few or many
abbrev pub kept_bytes : TextBytes → List ℕ
kept_bytes (Few few) = few.items
kept_bytes (Many many) = many
