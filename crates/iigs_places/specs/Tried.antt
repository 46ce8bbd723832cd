-- A slide that is only tried.
use Rattle.std.specs.Prelude.{◌≡◌, ℕ, ◌<◌, List, Some}
use Rattle.iigs_meaning.specs.declared.wants.Want.{Want}
use Rattle.iigs_meaning.specs.Slots.{slot_at}
use Rattle.iigs_meaning.specs.Fits.{Slots, Fits, HoldsByte}
use Rattle.iigs_meaning.specs.Slide.{Slides}
use Rattle.iigs_places.specs.declared.spots.BlockSpot.{BlockSpot}
use Rattle.iigs_places.specs.Extent.{extent}
use Rattle.iigs_places.specs.Runs.{AreRuns, InRuns}

-- once the movable blocks are slid down the want fits nowhere
abbrev pub FitsNowhereSlid : List ℕ → Slots → Want → Type 0
FitsNowhereSlid banks slots want = (room : Slots) → Slides banks slots room → (address : ℕ) → ¬ Fits banks room want address

-- in a slide the block in a slot goes to an address, and has so many bytes
abbrev pub LiesSlid : List ℕ → Slots → ℕ → ℕ → ℕ → Type 0
LiesSlid banks slots place address size = (room : Slots) → Slides banks slots room → extent (slot_at room place) ≡ Some (address, size)

-- a block that begins before the address has the byte after a slide
pub record HasSlid (slots room : Slots) (limit i : ℕ) : Type 0 where
  pub place : ℕ
  pub at : ℕ × ℕ
  pub is : extent (slot_at slots place) ≡ Some at
  pub before : at.0 < limit
  pub holds : HoldsByte i (slot_at room place)

-- the bytes of the runs are those that the blocks which begin before the address have after a slide
pub record AreSlid (banks : List ℕ) (slots : Slots) (limit : ℕ) (runs : List BlockSpot) : Type 0 where
  pub are : AreRuns runs
  pub to : (room : Slots) → Slides banks slots room → (i : ℕ) → HasSlid slots room limit i → InRuns runs i
  pub from : (room : Slots) → Slides banks slots room → (i : ℕ) → InRuns runs i → HasSlid slots room limit i
