-- Where blocks begin, and how many bytes they have.
use Rattle.std.specs.Prelude.{ℕ, ◌+◌, ◌<◌, ◌≤◌, Option}
use Rattle.std.specs.Option.{option_map, option_and_then}
use Rattle.iigs_meaning.specs.declared.slots.Slot.{Slot}
use Rattle.iigs_meaning.specs.declared.wants.Block.{Block}
use Rattle.iigs_meaning.specs.Fits.{block_in}

abbrev pub extent_of_size : ℕ → Option ℕ → Option (ℕ × ℕ)
extent_of_size size o = option_map (λ at. (at, size)) o

-- where a block begins and how many bytes it has, if it is there
abbrev pub extent_of : Block → Option (ℕ × ℕ)
extent_of block = extent_of_size block.want.size block.at

abbrev pub extent : Slot Block → Option (ℕ × ℕ)
extent slot = option_and_then extent_of (block_in slot)

-- the address is that of one of the bytes
abbrev pub Spans : ℕ → ℕ × ℕ → Type 0
Spans i e = (e.0 ≤ i) × (i < e.0 + e.1)
