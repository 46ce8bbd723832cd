-- Blocks whose bytes are made zeros. No public clause cites this module.
use Rattle.std.specs.Prelude.{ℕ, ◌+◌, ◌<◌, ◌≤◌, ◌^◌, slice_index_or, List, [], ◌∷◌, ◌++◌, take, drop, replicate, length}
use Rattle.iigs_meaning.specs.declared.wants.Want.{Want}
use Rattle.iigs_places.specs.Offsets.{offset_of}
use Rattle.iigs_places.specs.declared.table.PlacedBlock.{PlacedBlock}

-- the buffer with the bytes of all these blocks zeros
abbrev pub with_zeroed_blocks : List ℕ → List Want → List PlacedBlock → List ℕ → List ℕ
with_zeroed_blocks banks [] puts buffer = buffer
with_zeroed_blocks banks (want ∷ wants) [] buffer = buffer
with_zeroed_blocks banks (want ∷ wants) (put ∷ puts) buffer = with_zeroed_blocks banks wants puts
    (take (offset_of banks put.at) buffer ++ (replicate want.size 0 ++ drop (offset_of banks put.at + want.size) buffer))

-- the block's bytes are in a buffer of this length
abbrev pub FitsIn : List ℕ → ℕ → Want → PlacedBlock → Type 0
FitsIn banks size want put = (put.at < 2 ^ 24) × (offset_of banks put.at + want.size ≤ size)

-- each block's bytes do
abbrev pub FitIn : List ℕ → ℕ → List Want → List PlacedBlock → Type 0
FitIn banks size wants puts = (k : ℕ) (w : Want) (p : PlacedBlock) → k < length wants → k < length puts
    → FitsIn banks size (slice_index_or wants k w) (slice_index_or puts k p)
