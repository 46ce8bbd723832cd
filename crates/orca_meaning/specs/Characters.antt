-- The characters of assembly source (ORCA/M reference manual, "The assembly language statement").
use Rattle.std.specs.Prelude.{ℕ, Bool, false, ◌&&◌, ◌||◌, ◌==◌, nat_le, List, [], ◌∷◌, map}
use Rattle.std.specs.Char.{to_ascii_uppercase}
use Rattle.std.specs.List.{list_all}
use Rattle.omf_format.specs.Ascii as ascii

-- fields are separated by spaces and tabs
abbrev pub is_blank : ℕ → Bool
is_blank byte = byte == ascii.space || byte == ascii.tab

-- the letters are those of ASCII, in upper and lower case
abbrev pub is_letter : ℕ → Bool
is_letter byte = (nat_le ascii.capital_a byte && nat_le byte ascii.capital_z) || (nat_le ascii.small_a byte && nat_le byte ascii.small_z)

-- the digits are 0 to 9
abbrev pub is_decimal_digit : ℕ → Bool
is_decimal_digit byte = nat_le ascii.digit_0 byte && nat_le byte ascii.digit_9

-- a name begins with a letter, `_` or `~`
abbrev pub is_name_start : ℕ → Bool
is_name_start byte = is_letter byte || byte == ascii.underscore || byte == ascii.tilde

-- and continues with these and digits
abbrev pub is_name_byte : ℕ → Bool
is_name_byte byte = is_name_start byte || is_decimal_digit byte

-- a text that is a name whole
unfoldable pub is_name : List ℕ → Bool
is_name [] = false
is_name (byte ∷ following) = is_name_start byte && list_all is_name_byte following

-- letters are folded to upper case in names and operations
abbrev pub folded : List ℕ → List ℕ
folded text = map to_ascii_uppercase text
