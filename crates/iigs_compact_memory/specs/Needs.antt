-- How many blocks are purged before a slide makes room. No public clause cites this module.
use Rattle.std.specs.Prelude.{ℕ, ◌<◌, List}
use Rattle.iigs_meaning.specs.declared.wants.Want.{Want}
use Rattle.iigs_meaning.specs.Fits.{Slots, Fits}
use Rattle.iigs_meaning.specs.Placement.{slots_after_purges}
use Rattle.iigs_meaning.specs.Slide.{Slides}

-- with `count` blocks purged the want fits nowhere after a slide
abbrev pub NoneAfter : List ℕ → Slots → Want → ℕ → Type 0
NoneAfter banks slots want count = (room : Slots) → Slides banks (slots_after_purges slots count) room → (address : ℕ) → ¬ Fits banks room want address

-- with `count` blocks purged the want fits somewhere after a slide, which leaves these slots
abbrev pub FitsSlid : List ℕ → Slots → Want → ℕ → Slots → Type 0
FitsSlid banks slots want count room = Slides banks (slots_after_purges slots count) room × ((address : ℕ) × Fits banks room want address)

-- with `count` blocks purged the want fits somewhere after a slide, and with fewer it fits nowhere
pub record NeedsPurges (banks : List ℕ) (slots : Slots) (want : Want) (count : ℕ) (room : Slots) : Type 0 where
  pub slides : Slides banks (slots_after_purges slots count) room
  pub address : ℕ
  pub fits : Fits banks room want address
  pub fewest : (fewer : ℕ) → fewer < count → NoneAfter banks slots want fewer
