-- Numbers in files. All are unsigned and are stored with their lowest byte first (GS/OS Reference, appendix F, NUMSEX 0).
use Rattle.std.specs.Prelude.{ℕ, ◌-◌, ◌<◌, List, get_or, drop}
use Rattle.std.specs.Int.{next_multiple_of}
use Rattle.byteorder.specs.Endian.{little_number}

-- the number of this many bytes at a displacement in the bytes
unfoldable pub number_at : ℕ → ℕ → List ℕ → ℕ
number_at width at bytes = little_number width (drop at bytes)

-- how far it is to the least multiple of a step, which isn't 0, at or after a place
unfoldable pub padding : ℕ → ℕ → ℕ
padding step at = next_multiple_of at step - at

-- each item is a byte
abbrev pub IsBytes : List ℕ → Type 0
IsBytes bytes = (i : ℕ) → get_or bytes i 0 < 256
