-- How digits are seen.
use Rattle.std.specs.Prelude.{ℕ, ◌+◌, ◌-◌, ◌/◌, Bool, List, length}
use Rattle.std.specs.Char.{is_digit}
use Rattle.std.specs.List.{list_all}

-- all bytes are digits of the base
abbrev pub are_digits : ℕ → List ℕ → Bool
are_digits base digits = list_all (λ byte. is_digit byte base) digits

-- how many bytes they make, a given number of digits to a byte
abbrev pub groups : ℕ → List ℕ → ℕ
groups each digits = (length digits + (each - 1)) / each
