-- Blocks arranged among banks, without their bytes.
use Rattle.std.specs.Prelude.{◌≡◌, ℕ, ◌<◌, List, All, length}
use Rattle.iigs_meaning.specs.Fits.{Slots}
use Rattle.iigs_meaning.specs.Blocks.{AreApart}
use Rattle.iigs_places.specs.Spots.{IsBoundedSlot}

-- the configured banks, and the slots with their blocks
pub record Arrangement : Type 0 where
  pub banks : List ℕ
  pub slots : Slots

-- banks have numbers of a byte, and the blocks of 4,096 slots lie apart in their free memory
pub record IsArranged (banks : List ℕ) (slots : Slots) : Type 0 where
  pub small : All (λ bank. bank < 256) banks
  pub count : length slots ≡ 4096
  pub bounded : All IsBoundedSlot slots
  pub sound : AreApart banks slots
