-- The blocks that aren't purgeable have no more bytes than all blocks.
use Rattle.std.proofs.Common.{◌≤◌, Bool, true, false, cond, List, [], ◌∷◌, sum_by, arith}
use Rattle.std.specs.Option.{option_map_or}
use Rattle.std.proofs.lemmas.List.Sums.{sum_by-cons}
use Rattle.iigs_meaning.specs.declared.slots.Slot.{Slot}
use Rattle.iigs_meaning.specs.declared.wants.Block.{Block}
use Rattle.iigs_meaning.specs.Fits.{block_in}
use Rattle.iigs_meaning.specs.Placement.{can_purge}
use Rattle.iigs_places.specs.Sizes.{size_in, lasting_in}

lasting_below : (slot : Slot Block) → lasting_in slot ≤ size_in slot
lasting_below slot = go (option_map_or can_purge (block_in slot) false)
  where
    go : (b : Bool) → cond b 0 (size_in slot) ≤ size_in slot
    go true = omega arith
    go false = omega arith

pub all_lasting : (slots : List (Slot Block)) → sum_by lasting_in slots ≤ sum_by size_in slots
all_lasting [] = omega arith
all_lasting (slot ∷ slots) = omega (arith, sum_by-cons lasting_in slot slots, sum_by-cons size_in slot slots, lasting_below slot, all_lasting slots)
