-- Which bytes of memory are room for blocks, and how many. These are this project's own rules.
use Rattle.std.specs.Prelude.{ℕ, zero, suc, List}
use Rattle.iigs_meaning.specs.Slots.{slot_at}
use Rattle.iigs_meaning.specs.Free.{IsFree}
use Rattle.iigs_meaning.specs.Fits.{Slots, HoldsByte}

-- how many of the numbers below a limit have a property: below 0 none; where the limit itself has it, one more of those below the next
-- limit, and else no more
pub data CountsBelow (P : ℕ → Type 0) : ℕ → ℕ → Type 0 where
  none : CountsBelow P zero zero
  one_more : (limit count : ℕ) → CountsBelow P limit count → P limit → CountsBelow P (suc limit) (suc count)
  no_more : (limit count : ℕ) → CountsBelow P limit count → ¬ P limit → CountsBelow P (suc limit) count

-- the byte at an address is free memory of a configured bank, and lies in no block
pub record IsRoom (banks : List ℕ) (slots : Slots) (address : ℕ) : Type 0 where
  pub free : IsFree banks address
  pub no_block : (place : ℕ) → ¬ HoldsByte address (slot_at slots place)
