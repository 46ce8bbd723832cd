-- Marks of blocks in order of address. No public clause cites this module.
use Rattle.std.specs.Prelude.{◌≡◌, ◌≢◌, ◌⊎◌, ℕ, ◌+◌, ◌==◌, ◌<◌, ◌≤◌, ◌^◌, List, Contains, length, count_by, Option, Some, slice_index_or}
use Rattle.std.specs.Option.{option_map}
use Rattle.std.specs.List.Sorted.{IsNonDecreasingBy}
use Rattle.iigs_meaning.specs.declared.slots.Slot.{Slot}
use Rattle.iigs_meaning.specs.declared.wants.Block.{Block}
use Rattle.iigs_meaning.specs.Slots.{slot_at}
use Rattle.iigs_places.specs.declared.marks.BlockMark.{BlockMark}
use Rattle.iigs_places.specs.Extent.{extent, Spans}

abbrev pub mark : ℕ → ℕ × ℕ → BlockMark
mark place e = record { at = e.0; end = e.0 + e.1; slot = place }

-- the mark of the block in the slot at a place, if one is there
abbrev pub mark_in : ℕ → Slot Block → Option BlockMark
mark_in place slot = option_map (mark place) (extent slot)

-- no block is marked twice
abbrev pub AreOnce : List BlockMark → Type 0
AreOnce marks = (slot : ℕ) → count_by (λ m. m.slot == slot) marks ≤ 1

-- the blocks in the first `count` slots that are there have their marks, each one, and each mark is one of a block that is there
pub record AreGathered (slots : List (Slot Block)) (count : ℕ) (marks : List BlockMark) : Type 0 where
  pub each : (place : ℕ) (e : ℕ × ℕ) → place < count → extent (slot_at slots place) ≡ Some e → Contains marks (mark place e)
  pub are : (m : BlockMark) → Contains marks m → (m.slot < count) × (e : ℕ × ℕ) × (extent (slot_at slots m.slot) ≡ Some e) × (m ≡ mark m.slot e)
  pub once : AreOnce marks

-- the blocks that are there have their marks, each one, and each mark is one of a block that is there
pub record HaveMarks (slots : List (Slot Block)) (marks : List BlockMark) : Type 0 where
  pub each : (place : ℕ) (e : ℕ × ℕ) → extent (slot_at slots place) ≡ Some e → Contains marks (mark place e)
  pub are : (m : BlockMark) → Contains marks m → (e : ℕ × ℕ) × (extent (slot_at slots m.slot) ≡ Some e) × (m ≡ mark m.slot e)
  pub once : AreOnce marks

-- a block with a mark has the byte
abbrev pub InMarks : List BlockMark → ℕ → Type 0
InMarks marks i = (m : BlockMark) × Contains marks m × (m.at ≤ i) × (i < m.end)

-- the mark's block has a byte at least, and ends within the addresses of banks
abbrev pub IsSized : BlockMark → Type 0
IsSized m = (m.at < m.end) × (m.end ≤ 2 ^ 24)

-- marks by which the block that has a byte is found: each block that is there has its mark, and no other slot's mark is at one of its bytes
pub record IsMarked (slots : List (Slot Block)) (marks : List BlockMark) : Type 0 where
  pub order : IsNonDecreasingBy (λ m. m.at) marks
  pub small : (m : BlockMark) → Contains marks m → m.slot < 4096
  pub each : (place : ℕ) (e : ℕ × ℕ) → extent (slot_at slots place) ≡ Some e → Contains marks (mark place e)
  pub apart : (place : ℕ) (e : ℕ × ℕ) (m : BlockMark) → extent (slot_at slots place) ≡ Some e → Contains marks m → m.slot ≢ place → ¬ Spans m.at e

-- the first `count` marks are at the address or before it, and the others after it
pub record CountsUpTo (marks : List BlockMark) (address count : ℕ) : Type 0 where
  pub before : (i : ℕ) (d : BlockMark) → i < count → (slice_index_or marks i d).at ≤ address
  pub following : (i : ℕ) (d : BlockMark) → count ≤ i → i < length marks → address < (slice_index_or marks i d).at

-- the first `count` marks are before the address, and the others at it or after it
pub record CountsBefore (marks : List BlockMark) (address count : ℕ) : Type 0 where
  pub within : count ≤ length marks
  pub before : (i : ℕ) (d : BlockMark) → i < count → (slice_index_or marks i d).at < address
  pub following : (i : ℕ) (d : BlockMark) → count ≤ i → i < length marks → address ≤ (slice_index_or marks i d).at

-- the first mark that is at the address or after it
pub record IsFirstFrom (marks : List BlockMark) (address : ℕ) (first : BlockMark) : Type 0 where
  pub is : Contains marks first
  pub from : address ≤ first.at
  pub least : (m : BlockMark) → Contains marks m → address ≤ m.at → first.at ≤ m.at

-- of the marks of other slots the last one that is before the address
pub record IsLastOther (marks : List BlockMark) (address slot : ℕ) (last : BlockMark) : Type 0 where
  pub is : Contains marks last
  pub other : last.slot ≢ slot
  pub before : last.at < address
  pub most : (m : BlockMark) → Contains marks m → m.slot ≢ slot → m.at < address → m.at ≤ last.at

-- blocks of two slots share no byte
abbrev pub AreMarksApart : List BlockMark → Type 0
AreMarksApart marks = (m o : BlockMark) → Contains marks m → Contains marks o → m.slot ≢ o.slot → (o.at < m.at) ⊎ (m.end ≤ o.at)

-- none of the `size` bytes from an address on lies in a block of another slot
abbrev pub LiesBeside : List BlockMark → ℕ → ℕ → ℕ → Type 0
LiesBeside marks slot address size = (m : BlockMark) → Contains marks m → m.slot ≢ slot → (address + size ≤ m.at) ⊎ (m.end ≤ address)

-- one of them lies in such a block
pub record SharesByte (marks : List BlockMark) (slot address size : ℕ) : Type 0 where
  pub mark : BlockMark
  pub is : Contains marks mark
  pub other : mark.slot ≢ slot
  pub before : mark.at < address + size
  pub following : address < mark.end

-- the last mark that is at the address or before it
pub record IsLast (marks : List BlockMark) (address : ℕ) (last : BlockMark) : Type 0 where
  pub is : Contains marks last
  pub before : last.at ≤ address
  pub most : (m : BlockMark) → Contains marks m → m.at ≤ address → m.at ≤ last.at
