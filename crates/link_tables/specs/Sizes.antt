-- The number of a body's cells, where it has 32 bits.
use Rattle.std.specs.Prelude.{ℕ, ◌^◌, Option, Some, None, nat_lt, if◌then◌else◌}

abbrev pub in_32_bits : ℕ → Option ℕ
in_32_bits n = if nat_lt n (2 ^ 32) then Some n else None
