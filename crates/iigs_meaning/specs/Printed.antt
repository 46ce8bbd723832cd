-- How a handle is printed.
use Rattle.std.specs.Prelude.{ℕ, true, ◌/◌, ◌%◌, List, [], ◌∷◌}
use Rattle.std.specs.Fmt.{digit_glyph}

-- the upper-case hexadecimal digit of a number below 16
abbrev pub hex_digit : ℕ → ℕ
hex_digit n = digit_glyph true n

-- four digits of the slot and two of the generation
abbrev pub six_digits : ℕ → ℕ → List ℕ
six_digits slot generation = hex_digit (slot / 4096) ∷ hex_digit (slot / 256 % 16) ∷ hex_digit (slot / 16 % 16)
    ∷ hex_digit (slot % 16) ∷ hex_digit (generation / 16) ∷ hex_digit (generation % 16) ∷ []
