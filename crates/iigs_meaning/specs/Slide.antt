-- Where movable blocks go when they are slid down, and how a slide makes room. These are this project's own rules.
use Rattle.std.specs.Prelude.{◌≡◌, ◌⊎◌, ℕ, Bool, ◌&&◌, ◌==◌, not, ◌<◌, ◌≤◌, List, [], length, count_by, Option, Some, None, is_some, unwrap_or, if◌then◌else◌}
use Rattle.std.specs.Option.{option_and_then}
use Rattle.std.specs.List.{zip}
use Rattle.iigs_meaning.specs.declared.slots.Slot.{Slot}
use Rattle.iigs_meaning.specs.declared.slots.SlotContent.TheVariants.{Used}
use Rattle.iigs_meaning.specs.declared.wants.Want.{Want}
use Rattle.iigs_meaning.specs.declared.wants.Block.{Block}
use Rattle.iigs_meaning.specs.Slots.{slot_at}
use Rattle.iigs_meaning.specs.Fits.{Slots, IsWant, Fits, IsApart, block_in}
use Rattle.iigs_meaning.specs.Placement.{slots_after_purges, HasNoRoom}
use Rattle.iigs_meaning.specs.Puts.{MakesRoom, Purges}
use Rattle.iigs_meaning.specs.Blocks.{address_in}

-- ---- which blocks move

-- a block that is there moves where it was made movable and isn't locked
unfoldable pub can_move : Block → Bool
can_move block = is_some block.at && block.movable && not block.locked

-- the want asks for no address, bank or low part; only a block of such a want is made movable
abbrev pub AsksNoPlace : Want → Type 0
AsksNoPlace want = (want.at ≡ None) × (want.bank ≡ None) × (want.low ≡ None)

-- the slot's block, if it moves
abbrev pub movable_block : Slot Block → Option Block
movable_block slot = option_and_then (λ block. if can_move block then Some block else None) (block_in slot)

-- where a block lies that is there
abbrev pub place_of : Block → ℕ
place_of block = unwrap_or block.at 0

-- the slot with another block in it
abbrev pub holding : Slot Block → Block → Slot Block
holding slot block = record { generation = slot.generation; content = Used block }

-- the block at another address
abbrev pub moved_to : ℕ → Block → Block
moved_to address block = record block { at = Some address }

-- ---- where they go

-- In a slide from the old slots to the new a want fits at an address beside the blocks that stay, and beside those that move
-- and lay below this one, which are at their new places.
pub record FitsBeside (banks : List ℕ) (old new : Slots) (block : Block) (address : ℕ) : Type 0 where
  pub open_ : Fits banks [] block.want address
  pub stay : (place : ℕ) → movable_block (slot_at old place) ≡ None → IsApart address block.want.size (slot_at old place)
  pub moved : (place : ℕ) (other : Block) → movable_block (slot_at old place) ≡ Some other → place_of other < place_of block
      → IsApart address block.want.size (slot_at new place)

-- the least such address
pub record GoesBeside (banks : List ℕ) (old new : Slots) (block : Block) (address : ℕ) : Type 0 where
  pub fits : FitsBeside banks old new block address
  pub least : (other : ℕ) → FitsBeside banks old new block other → address ≤ other

-- The movable blocks are slid down: taken in order of address, each goes to the least address at which the want with which it
-- was last placed fits beside the blocks that aren't movable and those that were moved before it. All else stays.
pub record Slides (banks : List ℕ) (old new : Slots) : Type 0 where
  pub len : length new ≡ length old
  pub stay : (place : ℕ) → movable_block (slot_at old place) ≡ None → slot_at new place ≡ slot_at old place
  pub goes : (place : ℕ) (block : Block) → movable_block (slot_at old place) ≡ Some block
      → (address : ℕ) × GoesBeside banks old new block address × (slot_at new place ≡ holding (slot_at old place) (moved_to address block))

-- the block in a slot changed its address
abbrev pub is_moved : Slot Block → Slot Block → Bool
is_moved was now = not (unwrap_or (address_in was) 0 == unwrap_or (address_in now) 0)

-- how many blocks of the old slots did
abbrev pub count_moved : Slots → Slots → ℕ
count_moved old new = count_by (λ pair. is_moved pair.0 pair.1) (zip old new)

-- ---- room

-- room is made by a slide: once the first `count` purgeable blocks are emptied and the movable ones are slid down, the want goes to the
-- least address that fits, for the least `count` with which any address fits
pub record MakesBySlide (banks : List ℕ) (slots : Slots) (want : Want) (address : ℕ) (room : Slots) : Type 0 where
  pub count : ℕ
  pub slides : Slides banks (slots_after_purges slots count) room
  pub fits : Fits banks room want address
  pub least : (other : ℕ) → Fits banks room want other → address ≤ other
  pub fewest : (fewer : ℕ) → fewer < count → (other : Slots) → Slides banks (slots_after_purges slots fewer) other → (place : ℕ) → ¬ Fits banks other want place

-- room is made by purges, and where the want then fits nowhere, whatever is purged, by a slide
abbrev pub PurgesOrSlides : MakesRoom
PurgesOrSlides banks slots want address room = Purges banks slots want address room ⊎ (HasNoRoom banks slots want × MakesBySlide banks slots want address room)

-- the want fits nowhere, whatever is purged and slid down
abbrev pub HasNoRoomBySlides : List ℕ → Slots → Want → Type 0
HasNoRoomBySlides banks slots want = HasNoRoom banks slots want
    × ((count : ℕ) (room : Slots) → Slides banks (slots_after_purges slots count) room → (address : ℕ) → ¬ Fits banks room want address)

-- ---- memory in which blocks can be slid

-- each block that is there was placed by a want, which fits where it lies but for other blocks
pub record AreSettled (banks : List ℕ) (slots : Slots) : Type 0 where
  pub wants : (place : ℕ) (block : Block) → block_in (slot_at slots place) ≡ Some block → IsWant block.want
  pub fits : (place : ℕ) (block : Block) (at : ℕ) → block_in (slot_at slots place) ≡ Some block → block.at ≡ Some at → Fits banks [] block.want at

-- When a movable block's turn in a slide occurs, its present address fits, so it doesn't rise: each lies afterwards at the least address
-- that fits then, which isn't above where it lay.
pub record NoAddressRises (banks : List ℕ) (old new : Slots) : Type 0 where
  pub present : (place : ℕ) (block : Block) → movable_block (slot_at old place) ≡ Some block → FitsBeside banks old new block (place_of block)
  pub low : (place : ℕ) (block : Block) → movable_block (slot_at old place) ≡ Some block
      → (address : ℕ) × (address ≤ place_of block) × (slot_at new place ≡ holding (slot_at old place) (moved_to address block))
