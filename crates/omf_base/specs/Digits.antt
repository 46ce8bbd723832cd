-- Numbers as printed text.
use Rattle.std.specs.Prelude.{ℕ, true, false, ◌-◌, List, ◌++◌, length, replicate}
use Rattle.std.specs.Fmt.{digits}

-- the number in decimal digits, without leading zeros
abbrev pub decimal : ℕ → List ℕ
decimal n = digits 10 false n

-- the number in hexadecimal digits with A to F in upper case, and with zeros before them to at least this many places
unfoldable pub hexadecimal : ℕ → ℕ → List ℕ
hexadecimal places n = let shown = digits 16 true n in replicate (places - length shown) 48 ++ shown
