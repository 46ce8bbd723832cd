-- Several blocks that are placed in order. No public clause cites this module.
use Rattle.std.specs.Prelude.{◌≡◌, ℕ, true, List, [], ◌∷◌, replicate, Some}
use Rattle.iigs_meaning.specs.declared.handles.Handle.{Handle}
use Rattle.iigs_meaning.specs.declared.wants.Want.{Want}
use Rattle.iigs_meaning.specs.declared.wants.Block.{Block}
use Rattle.iigs_meaning.specs.Slots.{slot_at}
use Rattle.iigs_meaning.specs.Fits.{Slots, block_in}
use Rattle.iigs_meaning.specs.Puts.{PutsAll}
use Rattle.iigs_meaning.specs.Memory.{Memory, IsThere, bytes_at}
use Rattle.iigs_meaning.specs.Slide.{PurgesOrSlides}

-- a locked block is there in the slot
abbrev pub IsLockedThere : Memory → ℕ → Type 0
IsLockedThere memory place = (block : Block) × (block_in (slot_at memory.slots place) ≡ Some block) × (block.locked ≡ true) × IsThere memory place

-- the block of each want is there under its handle, locked and all zeros
abbrev pub AreZeros : Memory → List Want → List Handle → Type 0
AreZeros memory [] [] = Unit {0}
AreZeros memory [] (h ∷ hs) = ⊥
AreZeros memory (want ∷ wants) [] = ⊥
AreZeros memory (want ∷ wants) (h ∷ hs) = (bytes_at memory h.slot ≡ replicate want.size 0) × IsLockedThere memory h.slot × AreZeros memory wants hs

-- these wants can be placed in order
abbrev pub CanPutAll : List ℕ → ℕ → Slots → List Want → Type 0
CanPutAll banks user slots wants = (hs : List Handle) × (last : Slots) × PutsAll PurgesOrSlides banks user slots wants hs last
