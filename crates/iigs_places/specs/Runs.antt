-- Runs of bytes of blocks, and what is held of where the blocks of a table lie. No public clause cites this module.
use Rattle.std.specs.Prelude.{◌⊎◌, ℕ, ◌<◌, ◌≤◌, ◌^◌, List, All, Contains, IsTrue, length, slice_index_or, vec_capacity}
use Rattle.std.specs.List.Sorted.{IsNonDecreasingBy}
use Rattle.iigs_meaning.specs.declared.slots.Slot.{Slot}
use Rattle.iigs_meaning.specs.declared.wants.Block.{Block}
use Rattle.iigs_places.specs.declared.spots.BlockSpot.{BlockSpot}
use Rattle.iigs_places.specs.declared.marks.BlockMark.{BlockMark}
use Rattle.iigs_places.specs.declared.runs.Stretch.{Stretch}
use Rattle.iigs_places.specs.declared.layout.BlockLayout.{BlockLayout}
use Rattle.iigs_places.specs.Marks.{HaveMarks, InMarks}

-- a run has the byte
abbrev pub InRuns : List BlockSpot → ℕ → Type 0
InRuns runs i = (r : BlockSpot) × Contains runs r × (r.at ≤ i) × (i < r.end)

-- runs in order of address, each with a byte at least
pub record AreRuns (runs : List BlockSpot) : Type 0 where
  pub order : IsNonDecreasingBy (λ run. run.at) runs
  pub some : All (λ run. run.at < run.end) runs
  pub ends : All (λ run. run.end ≤ 2 ^ 24) runs

-- the first `count` runs begin at the address or before it, and the others there or after it
pub record StandsAt (runs : List BlockSpot) (count address : ℕ) : Type 0 where
  pub within : count ≤ length runs
  pub before : (k : ℕ) (d : BlockSpot) → k < count → (slice_index_or runs k d).at ≤ address
  pub following : (k : ℕ) (d : BlockSpot) → count ≤ k → k < length runs → address ≤ (slice_index_or runs k d).at

-- runs with the bytes from one address up to another added
pub record RunsAdd (old : List BlockSpot) (at end : ℕ) (new : List BlockSpot) : Type 0 where
  pub kept : (i : ℕ) → InRuns old i → InRuns new i
  pub added : (i : ℕ) → at ≤ i → i < end → InRuns new i
  pub only : (i : ℕ) → InRuns new i → InRuns old i ⊎ ((at ≤ i) × (i < end))

-- the marks from a place up to another are those of blocks with no byte between them, which end at an address
pub record IsStretch (marks : List BlockMark) (first : ℕ) (s : Stretch) : Type 0 where
  pub after : first < s.next
  pub within : s.next ≤ length marks
  pub some : (d : BlockMark) → (slice_index_or marks first d).at < s.end
  pub ends : s.end ≤ 2 ^ 24
  pub inside : (k : ℕ) (d : BlockMark) → first ≤ k → k < s.next → ((slice_index_or marks first d).at ≤ (slice_index_or marks k d).at) × ((slice_index_or marks k d).end ≤ s.end)
  pub bytes : (i : ℕ) (d : BlockMark) → (slice_index_or marks first d).at ≤ i → i < s.end
      → (k : ℕ) × (first ≤ k) × (k < s.next) × ((slice_index_or marks k d).at ≤ i) × (i < (slice_index_or marks k d).end)

-- the bytes of the runs are those of the blocks with marks
pub record Cover (marks : List BlockMark) (runs : List BlockSpot) : Type 0 where
  pub are : AreRuns runs
  pub to : (i : ℕ) → InMarks marks i → InRuns runs i
  pub from : (i : ℕ) → InRuns runs i → InMarks marks i

-- there is room for the marks and runs of all blocks
abbrev pub HasRoom : BlockLayout → Type 0
HasRoom layout = (4096 ≤ vec_capacity layout.marks) × (4096 ≤ vec_capacity layout.runs)

-- marks in order of address, and the runs of their blocks, where these were joined
pub record IsLaid (layout : BlockLayout) : Type 0 where
  pub order : IsNonDecreasingBy (λ m. m.at) layout.marks.items
  pub few : length layout.marks.items ≤ 4096
  pub cover : IsTrue layout.joined → Cover layout.marks.items layout.runs.items
  pub room : HasRoom layout

-- they are those of the table's blocks
pub record IsLayout (slots : List (Slot Block)) (layout : BlockLayout) : Type 0 where
  pub laid : IsLaid layout
  pub have : HaveMarks slots layout.marks.items
