-- Which bytes of memory may be used for blocks. The ranges are this project's own.
use Rattle.std.specs.Prelude.{ℕ, Bool, ◌==◌, ◌||◌, ◌/◌, ◌%◌, ◌<◌, ◌≤◌, List, Contains, if◌then◌else◌}

-- a bank has $10000 bytes
abbrev pub bank_of : ℕ → ℕ
bank_of address = address / 0x10000

abbrev pub low_of : ℕ → ℕ
low_of address = address % 0x10000

-- special memory is banks $00, $01, $E0 and $E1
unfoldable pub is_special : ℕ → Bool
is_special bank = bank == 0x00 || bank == 0x01 || bank == 0xE0 || bank == 0xE1

-- banks $00 and $01 are free from $0800 on, banks $E0 and $E1 from $2000 on, and every other bank from its start on
unfoldable pub first_free : ℕ → ℕ
first_free bank = if bank == 0x00 || bank == 0x01 then 0x0800
    else (if bank == 0xE0 || bank == 0xE1 then 0x2000 else 0)

-- special memory is free up to $BFFF, and every other bank up to its end
unfoldable pub free_end : ℕ → ℕ
free_end bank = if is_special bank then 0xC000 else 0x10000

-- the byte at an address is free memory of a configured bank
pub record IsFree (banks : List ℕ) (address : ℕ) : Type 0 where
  pub configured : Contains banks (bank_of address)
  pub above : first_free (bank_of address) ≤ low_of address
  pub below : low_of address < free_end (bank_of address)
