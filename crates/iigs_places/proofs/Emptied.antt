-- Where nothing is emptied.
use Rattle.std.proofs.Common.{◌≡◌, Bool, false, cond, List, [], ◌∷◌, map, Option, Some, None, refl, ap, ◌∙◌}
use Rattle.std.specs.Option.{option_map_or}
use Rattle.iigs_meaning.specs.declared.slots.Slot.{Slot}
use Rattle.iigs_meaning.specs.declared.slots.SlotContent.TheVariants.{Used}
use Rattle.iigs_meaning.specs.declared.wants.Block.{Block}
use Rattle.iigs_meaning.specs.Fits.{block_in}
use Rattle.iigs_meaning.specs.Placement.{emptied_where}

module _ (test : Block → Bool) (none : (block : Block) → test block ≡ false) where
  same_slot : (slot : Slot Block) → slot ≡ emptied_where test slot
  same_slot slot = go (block_in slot)
    where
      go : (o : Option Block) → slot ≡ option_map_or (λ block. cond (test block) (record { generation = slot.generation; content = Used (record block { at = None }) }) slot) o slot
      go None = refl
      go (Some block) = rw (none block) refl

  same_slots : (slots : List (Slot Block)) → slots ≡ map (emptied_where test) slots
  same_slots [] = refl
  same_slots (slot ∷ slots) = ap (λ (s : Slot Block). s ∷ slots) (same_slot slot) ∙ ap (λ (l : List (Slot Block)). emptied_where test slot ∷ l) (same_slots slots)

-- where no block passes the test the slots stay
pub emptied_none : (test : Block → Bool) (slots : List (Slot Block)) → ((block : Block) → test block ≡ false) → slots ≡ map (emptied_where test) slots
emptied_none test slots none = same_slots test none slots
