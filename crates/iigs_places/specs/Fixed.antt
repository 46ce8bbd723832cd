-- Blocks that no slide moves, whatever other blocks are there too.
use Rattle.std.specs.Prelude.{◌≡◌, ℕ, List}
use Rattle.iigs_meaning.specs.declared.wants.Want.{Want}
use Rattle.iigs_meaning.specs.Slots.{slot_at}
use Rattle.iigs_meaning.specs.Fits.{Slots, Fits, HoldsByte}
use Rattle.iigs_meaning.specs.Blocks.{AreApart}
use Rattle.iigs_meaning.specs.Slide.{Slides, AreSettled}
use Rattle.iigs_places.specs.declared.spots.BlockSpot.{BlockSpot}
use Rattle.iigs_places.specs.Runs.{AreRuns, InRuns}
use Rattle.iigs_places.specs.Sliding.{HasPassed}

-- each block that is there among the slots is there, as it is, among others, which have more blocks perhaps
abbrev pub HaveAll : Slots → Slots → Type 0
HaveAll more slots = (place address : ℕ) → HoldsByte address (slot_at slots place) → slot_at more place ≡ slot_at slots place

-- what is so of the outcome of each slide among the blocks of these slots, and others perhaps
abbrev pub AfterEachSlide : List ℕ → Slots → (Slots → Type 0) → Type 0
AfterEachSlide banks slots Is = (more room : Slots) → AreApart banks more → AreSettled banks more → HaveAll more slots → Slides banks more room → Is room

-- no slide makes room for the want, whatever other blocks are there too
abbrev pub NeverFits : List ℕ → Slots → Want → Type 0
NeverFits banks slots want = AfterEachSlide banks slots (λ room. (address : ℕ) → ¬ Fits banks room want address)

-- no slide moves the block at a place
abbrev pub IsFixed : List ℕ → Slots → ℕ → Type 0
IsFixed banks slots place = AfterEachSlide banks slots (λ room. slot_at room place ≡ slot_at slots place)

-- the bytes of the runs are those of blocks that begin before an address and that no slide moves
pub record AreFixed (banks : List ℕ) (slots : Slots) (limit : ℕ) (runs : List BlockSpot) : Type 0 where
  pub are : AreRuns runs
  pub from : (i : ℕ) → InRuns runs i → (has : HasPassed slots limit i) × IsFixed banks slots has.place
