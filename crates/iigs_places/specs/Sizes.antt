-- How many bytes are free memory, and how many blocks have.
use Rattle.std.specs.Prelude.{ℕ, zero, suc, ◌+◌, ◌-◌, false, List, if◌then◌else◌}
use Rattle.std.specs.Option.{option_map_or}
use Rattle.iigs_meaning.specs.declared.slots.Slot.{Slot}
use Rattle.iigs_meaning.specs.declared.wants.Block.{Block}
use Rattle.iigs_meaning.specs.Free.{first_free, free_end}
use Rattle.iigs_meaning.specs.Fits.{block_in}
use Rattle.iigs_meaning.specs.Placement.{can_purge}
use Rattle.iigs_places.specs.Offsets.{is_named}

-- how many bytes of free memory the configured banks below this one have
unfoldable pub free_below : List ℕ → ℕ → ℕ
free_below banks zero = 0
free_below banks (suc bank) = free_below banks bank + (if is_named banks bank then free_end bank - first_free bank else 0)

-- how many bytes the block in a slot has, if it is there
abbrev pub size_in : Slot Block → ℕ
size_in slot = option_map_or (λ block. option_map_or (λ at. block.want.size) block.at 0) (block_in slot) 0

-- how many bytes the block in a slot has, if it is there and isn't purgeable
abbrev pub lasting_in : Slot Block → ℕ
lasting_in slot = if option_map_or can_purge (block_in slot) false then 0 else size_in slot
