-- Draws: numbers that look random, the same for the same seed.
use Rattle.std.specs.Prelude.{ℕ, zero, suc, ◌+◌, ◌*◌, ◌/◌, ◌%◌, ◌^◌, List, [], ◌∷◌}

-- the number that follows a given one
abbrev pub next : ℕ → ℕ
next x = (x * 1664525 + 1013904223) % 2 ^ 32

-- a given number of draws after a number: each is the upper half of the next number
abbrev pub draws : ℕ → ℕ → List ℕ
draws zero x = []
draws (suc count) x = next x / 65536 ∷ draws count (next x)

-- the number that a given number of draws after a number leaves
abbrev pub following : ℕ → ℕ → ℕ
following zero x = x
following (suc count) x = following count (next x)
