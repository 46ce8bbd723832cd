-- The laws of slides.
use Rattle.std.specs.Prelude.{◌≡◌, ◌↔◌, ℕ, List}
use Rattle.iigs_meaning.specs.declared.wants.Want.{Want}
use Rattle.iigs_meaning.specs.Fits.{Slots}
use Rattle.iigs_meaning.specs.Blocks.{AreApart}
use Rattle.iigs_meaning.specs.Placement.{slots_after_purges}
use Rattle.iigs_meaning.specs.Puts.{LacksRoom}
use Rattle.iigs_meaning.specs.Slide.{Slides, AreSettled, NoAddressRises, PurgesOrSlides, HasNoRoomBySlides}

-- no address rises
abbrev pub NoneRises : Type 0
NoneRises = (banks : List ℕ) (old new : Slots) → AreApart banks old → AreSettled banks old → Slides banks old new → NoAddressRises banks old new

-- a slide has one outcome
abbrev pub SlidesOnce : Type 0
SlidesOnce = (banks : List ℕ) (old one two : Slots) → Slides banks old one → Slides banks old two → one ≡ two

-- after a slide blocks lie apart, and where their wants fit
abbrev pub StaySound : Type 0
StaySound = (banks : List ℕ) (old new : Slots) → AreApart banks old → AreSettled banks old → Slides banks old new → AreApart banks new × AreSettled banks new

-- and they do so once the first `count` purgeable ones are emptied
abbrev pub StaySoundPurged : Type 0
StaySoundPurged = (banks : List ℕ) (slots : Slots) (count : ℕ) → AreApart banks slots → AreSettled banks slots → AreApart banks (slots_after_purges slots count) × AreSettled banks (slots_after_purges slots count)

-- there is no room exactly where the want fits nowhere, whatever is purged and slid down
abbrev pub LacksWhereNoneFits : Type 0
LacksWhereNoneFits = (banks : List ℕ) (slots : Slots) (want : Want) → LacksRoom PurgesOrSlides banks slots want ↔ HasNoRoomBySlides banks slots want
