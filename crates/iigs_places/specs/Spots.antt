-- Blocks as the search for a place sees them. No public clause cites this module.
use Rattle.std.specs.Prelude.{◌≡◌, ◌⊎◌, ℕ, ◌==◌, ◌+◌, ◌-◌, ◌*◌, ◌^◌, ◌<◌, ◌≤◌, nat_lt, List, All, map, filter_map, length, Option, Some, None, IfSome, unwrap_or, slice_index, if◌then◌else◌}
use Rattle.std.specs.Option.{option_map, option_and_then}
use Rattle.std.specs.List.Sorted.{IsPermutation, IsNonDecreasingBy}
use Rattle.iigs_meaning.specs.declared.slots.Slot.{Slot}
use Rattle.iigs_meaning.specs.declared.wants.Want.{Want}
use Rattle.iigs_meaning.specs.declared.wants.Block.{Block}
use Rattle.iigs_meaning.specs.Fits.{IsWant, block_in}
use Rattle.iigs_meaning.specs.Placement.{can_purge, emptied_where, slots_after_purges, GoesTo}
use Rattle.iigs_places.specs.declared.spots.BlockSpot.{BlockSpot}
use Rattle.iigs_places.specs.declared.search.FoundAddress.{FoundAddress}
use Rattle.iigs_places.specs.Open.{IsOpen}

-- the turn of a block that isn't purged
abbrev pub turn_of_unpurgeable : ℕ
turn_of_unpurgeable = 2 ^ 32 - 1

-- a purgeable block's turn: the higher level first, then the lower address
unfoldable pub turn_of : Block → ℕ
turn_of block = if can_purge block then (255 - block.level) * 2 ^ 24 + unwrap_or block.at 0 else turn_of_unpurgeable

abbrev pub spot_of : Block → Option BlockSpot
spot_of block = option_map (λ at. record { at = at; end = at + block.want.size; turn = turn_of block }) block.at

abbrev pub spot_in : Slot Block → Option BlockSpot
spot_in slot = option_and_then spot_of (block_in slot)

-- the blocks that are there
unfoldable pub spots_of : List (Slot Block) → List BlockSpot
spots_of slots = filter_map spot_in slots

abbrev pub turn_in : BlockSpot → Option ℕ
turn_in spot = if nat_lt spot.turn turn_of_unpurgeable then Some spot.turn else None

-- the turns of those that may be purged
unfoldable pub turns_of : List BlockSpot → List ℕ
turns_of spots = filter_map turn_in spots

-- blocks with a turn below this one are purged when the first `count` are
unfoldable pub limit_of : List ℕ → ℕ → ℕ
limit_of turns count = if count == 0 then 0 else slice_index turns (count - 1) + 1

-- the `size` bytes from an address on lie beside the block
abbrev pub IsBeside : ℕ → ℕ → BlockSpot → Type 0
IsBeside address size spot = (address + size ≤ spot.at) ⊎ (spot.end ≤ address)

-- the want fits at the address beside all blocks whose turn isn't below the limit
pub record FitsAmong (banks : List ℕ) (want : Want) (spots : List BlockSpot) (limit address : ℕ) : Type 0 where
  pub open_ : IsOpen banks want address
  pub beside : All (λ spot. limit ≤ spot.turn → IsBeside address want.size spot) spots

-- the least address at which the want fits beside them
pub record IsLeastAmong (banks : List ℕ) (want : Want) (spots : List BlockSpot) (limit address : ℕ) : Type 0 where
  pub fits : FitsAmong banks want spots limit address
  pub least : (other : ℕ) → FitsAmong banks want spots limit other → address ≤ other

-- the `size` bytes at the address don't lie beside all blocks whose turn isn't below the limit
abbrev pub HasNoPlace : List BlockSpot → ℕ → ℕ → ℕ → Type 0
HasNoPlace spots limit size address = ¬ All (λ spot. limit ≤ spot.turn → IsBeside address size spot) spots

-- the block is purged, or ends at the address or before it
abbrev pub IsPast : ℕ → ℕ → BlockSpot → Type 0
IsPast limit address spot = (spot.turn < limit) ⊎ (spot.end ≤ address)

-- a place for the want and the fewest blocks that are purged for it, by their turns in order
pub record IsFewestAmong (banks : List ℕ) (want : Want) (spots : List BlockSpot) (turns : List ℕ) (found : FoundAddress) : Type 0 where
  pub count : ℕ
  pub within : count ≤ length turns
  pub limit : found.limit ≡ limit_of turns count
  pub least : IsLeastAmong banks want spots (limit_of turns count) found.at
  pub fewest : (fewer : ℕ) → fewer < count → (address : ℕ) → ¬ FitsAmong banks want spots (limit_of turns fewer) address

-- the want fits nowhere, however many of them are purged
abbrev pub FitsWithNone : List ℕ → Want → List BlockSpot → List ℕ → Type 0
FitsWithNone banks want spots turns = (count : ℕ) → count ≤ length turns → (address : ℕ)
    → ¬ FitsAmong banks want spots (limit_of turns count) address

-- a block was placed by a want, ends within the addresses of banks, and its level is a byte
pub record IsBounded (block : Block) : Type 0 where
  pub want : IsWant block.want
  pub some : 0 < block.want.size
  pub level : block.level < 256
  pub ends : IfSome block.at (λ at. at + block.want.size ≤ 2 ^ 24)

abbrev pub IsBoundedSlot : Slot Block → Type 0
IsBoundedSlot slot = IfSome (block_in slot) IsBounded

-- the blocks that are there, in order of address, and the turns of those that may be purged, in order
pub record IsSurvey (slots : List (Slot Block)) (spots : List BlockSpot) (turns : List ℕ) : Type 0 where
  pub blocks : IsPermutation (spots_of slots) spots
  pub order : IsNonDecreasingBy (λ spot. spot.at) spots
  pub counted : IsPermutation (turns_of spots) turns
  pub rises : IsNonDecreasingBy (λ turn. turn) turns

-- the want goes there once the blocks with a turn below the limit are emptied, which are the first `count`
pub record IsFound (banks : List ℕ) (slots : List (Slot Block)) (want : Want) (found : FoundAddress) : Type 0 where
  pub count : ℕ
  pub goes : GoesTo banks slots want count found.at
  pub empties : map (emptied_where (λ block. nat_lt (turn_of block) found.limit)) slots ≡ slots_after_purges slots count
