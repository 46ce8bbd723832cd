-- How few constant bytes are seen.
use Rattle.std.specs.Prelude.{ℕ, List, [], ◌∷◌, take}
use Rattle.orca_operands.specs.declared.short_bytes.ShortBytes.{ShortBytes}

-- the first `count` of the bytes that are kept
abbrev pub few_bytes : ShortBytes → List ℕ
few_bytes few = take few.count (few.first ∷ few.second ∷ few.third ∷ few.fourth ∷ [])
