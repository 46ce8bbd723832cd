-- Blocks whose bytes are made zeros.
use Rattle.std.proofs.Common.{◌≡◌, ◌≢◌, inl, inr, ℕ, true, false, zero, suc, ◌+◌, ◌<◌, ◌≤◌, ◌^◌, List, [], ◌∷◌, map, take, replicate, All, Contains, length, get_or, slice_get, Some, IfSome, length-append, length-drop, ◌++◌, drop, arith, add-one, refl, sym, ap, ◌∙◌}
use Rattle.std.specs.Option.{option_and_then}
use Rattle.std.proofs.Math.ListN.{set}
use Rattle.std.proofs.lemmas.List.{length-take, length-replicate}
use Rattle.std.proofs.lemmas.Bool.{cases_eq}
use Rattle.iigs_meaning.specs.declared.handles.Handle.{Handle}
use Rattle.iigs_meaning.specs.declared.slots.Slot.{Slot}
use Rattle.iigs_meaning.specs.declared.wants.Want.{Want}
use Rattle.iigs_meaning.specs.declared.wants.Block.{Block}
use Rattle.iigs_meaning.specs.Slots.{slot_at}
use Rattle.iigs_meaning.specs.Fits.{block_in}
use Rattle.iigs_meaning.specs.Puts.{placed_block}
use Rattle.iigs_meaning.specs.Blocks.{AreApart}
use Rattle.iigs_places.specs.Offsets.{offset_of, bytes_below}
use Rattle.iigs_places.specs.Spots.{IsBoundedSlot}
use Rattle.iigs_places.specs.Extent.{extent, extent_of}
use Rattle.iigs_memory.specs.Store.{bytes_in}
use Rattle.iigs_places.specs.declared.table.PlacedBlock.{PlacedBlock}
use Rattle.iigs_places.specs.Alls.{handle_of, BlocksAre, NotAmong}
use Rattle.iigs_memory.specs.Cleared.{with_zeroed_blocks, FitIn}
use Rattle.iigs_places.proofs.Extents.{bounded_extent, each_slot}
use Rattle.iigs_memory.proofs.Buffer.{in_buffer, over_here, over_other}
use Rattle.iigs_memory.proofs.Puts.{clear_overlay}

-- the buffer with one block's bytes zeros
abbrev pub clear_one : ℕ → ℕ → List ℕ → List ℕ
clear_one start size buffer = take start buffer ++ (replicate size 0 ++ drop (start + size) buffer)

-- one more is cleared
cleared_suc : (banks : List ℕ) (wants : List Want) (puts : List PlacedBlock) (buffer : List ℕ) (k : ℕ) (w : Want) (p : PlacedBlock) → k < length wants → k < length puts
    → with_zeroed_blocks banks (take (suc k) wants) (take (suc k) puts) buffer ≡ clear_one (offset_of banks (get_or puts k p).at) (get_or wants k w).size (with_zeroed_blocks banks (take k wants) (take k puts) buffer)
cleared_suc banks [] puts buffer k w p inside inside' = absurd (omega arith)
cleared_suc banks (want ∷ wants) [] buffer k w p inside inside' = absurd (omega arith)
cleared_suc banks (want ∷ wants) (put ∷ puts) buffer zero w p inside inside' = refl
cleared_suc banks (want ∷ wants) (put ∷ puts) buffer (suc k) w p inside inside' =
    cleared_suc banks wants puts (clear_one (offset_of banks put.at) want.size buffer) k w p (omega arith) (omega arith)

pub cleared_more : (banks : List ℕ) (wants : List Want) (puts : List PlacedBlock) (buffer : List ℕ) (k : ℕ) (w : Want) (p : PlacedBlock) → k < length wants → k < length puts
    → with_zeroed_blocks banks (take (k + 1) wants) (take (k + 1) puts) buffer ≡ clear_one (offset_of banks (get_or puts k p).at) (get_or wants k w).size (with_zeroed_blocks banks (take k wants) (take k puts) buffer)
cleared_more banks wants puts buffer k w p inside inside' = rw add-one (cleared_suc banks wants puts buffer k w p inside inside')

pub length-clear_one : (start size : ℕ) (buffer : List ℕ) → start + size ≤ length buffer → length (clear_one start size buffer) ≡ length buffer
length-clear_one start size buffer le =
    let n : length {A = ℕ} (replicate size 0) ≡ size = length-replicate size 0 in
    omega (arith, length-append (take start buffer) (replicate size 0 ++ drop (start + size) buffer), length-append (replicate size 0) (drop (start + size) buffer), length-take start buffer, length-drop (start + size) buffer)

-- where a block was put is its extent
here_is : (slot : Slot Block) (block : Block) → block_in slot ≡ Some block → extent slot ≡ extent_of block
here_is slot block there = ap (option_and_then extent_of) there

module _ (banks : List ℕ) (user : ℕ) (slots : List (Slot Block)) (bounded : All IsBoundedSlot slots) (sound : AreApart banks slots) where
  put_at : (want : Want) (put : PlacedBlock) → block_in (slot_at slots put.handle.slot) ≡ Some (placed_block want put.at user true 0 false)
      → extent (slot_at slots put.handle.slot) ≡ Some (put.at, want.size)
  put_at want put there = here_is (slot_at slots put.handle.slot) (placed_block want put.at user true 0 false) there

  module _ (buffer : List ℕ) (room : bytes_below banks 256 ≤ length buffer) (want : Want) (put : PlacedBlock)
      (there : block_in (slot_at slots put.handle.slot) ≡ Some (placed_block want put.at user true 0 false)) where
    one_inside : offset_of banks put.at + want.size ≤ length buffer
    one_inside = in_buffer banks buffer slots bounded sound room put.handle.slot (put.at, want.size) (put_at want put there)

    one_length : length (clear_one (offset_of banks put.at) want.size buffer) ≡ length buffer
    one_length = length-clear_one (offset_of banks put.at) want.size buffer one_inside

    one_room : bytes_below banks 256 ≤ length (clear_one (offset_of banks put.at) want.size buffer)
    one_room = rw one_length room

    one_here : bytes_in banks (clear_one (offset_of banks put.at) want.size buffer) (slot_at slots put.handle.slot) ≡ replicate want.size 0
    one_here = ap (λ bytes. bytes_in banks bytes (slot_at slots put.handle.slot)) (clear_overlay (offset_of banks put.at) want.size buffer)
        ∙ over_here banks buffer slots bounded sound room put.handle.slot (put.at, want.size) (put_at want put there) (replicate want.size 0) (length-replicate want.size 0)

    one_other : (place : ℕ) → place ≢ put.handle.slot
        → bytes_in banks (clear_one (offset_of banks put.at) want.size buffer) (slot_at slots place) ≡ bytes_in banks buffer (slot_at slots place)
    one_other place ne = ap (λ bytes. bytes_in banks bytes (slot_at slots place)) (clear_overlay (offset_of banks put.at) want.size buffer)
        ∙ over_other banks buffer slots bounded sound room put.handle.slot (put.at, want.size) (put_at want put there) (replicate want.size 0) (length-replicate want.size 0) place ne

    -- zeros stay zeros
    one_zeros : (place : ℕ) (e : ℕ × ℕ) → extent (slot_at slots place) ≡ Some e → bytes_in banks buffer (slot_at slots place) ≡ replicate e.1 0
        → bytes_in banks (clear_one (offset_of banks put.at) want.size buffer) (slot_at slots place) ≡ replicate e.1 0
    one_zeros place e is zeros = elim (cases_eq place put.handle.slot) [
      | inl eq ↦
          let same : Some e ≡ Some (put.at, want.size) = sym is ∙ ap (λ p. extent (slot_at slots p)) eq ∙ put_at want put there in
          let size : e.1 ≡ want.size = cc in
          rw (eq, size) one_here
      | inr ne ↦ one_other place ne ∙ zeros
    ]

  pub length-cleared : (wants : List Want) (puts : List PlacedBlock) (buffer : List ℕ) → bytes_below banks 256 ≤ length buffer → BlocksAre user slots wants puts
      → length (with_zeroed_blocks banks wants puts buffer) ≡ length buffer
  length-cleared [] puts buffer room blocks = refl
  length-cleared (want ∷ wants) [] buffer room blocks = refl
  length-cleared (want ∷ wants) (put ∷ puts) buffer room blocks =
      length-cleared wants puts (clear_one (offset_of banks put.at) want.size buffer) (one_room buffer room want put blocks.0) blocks.1
      ∙ one_length buffer room want put blocks.0

  -- blocks that aren't among them keep their bytes
  pub cleared_other : (wants : List Want) (puts : List PlacedBlock) (buffer : List ℕ) → bytes_below banks 256 ≤ length buffer → BlocksAre user slots wants puts
      → (place : ℕ) → NotAmong puts place → bytes_in banks (with_zeroed_blocks banks wants puts buffer) (slot_at slots place) ≡ bytes_in banks buffer (slot_at slots place)
  cleared_other [] puts buffer room blocks place not = refl
  cleared_other (want ∷ wants) [] buffer room blocks place not = refl
  cleared_other (want ∷ wants) (put ∷ puts) buffer room blocks place not =
      cleared_other wants puts (clear_one (offset_of banks put.at) want.size buffer) (one_room buffer room want put blocks.0) blocks.1 place not.1
      ∙ one_other buffer room want put blocks.0 place not.0

  zeros_stay : (wants : List Want) (puts : List PlacedBlock) (buffer : List ℕ) → bytes_below banks 256 ≤ length buffer → BlocksAre user slots wants puts
      → (place : ℕ) (e : ℕ × ℕ) → extent (slot_at slots place) ≡ Some e → bytes_in banks buffer (slot_at slots place) ≡ replicate e.1 0
      → bytes_in banks (with_zeroed_blocks banks wants puts buffer) (slot_at slots place) ≡ replicate e.1 0
  zeros_stay [] puts buffer room blocks place e is zeros = zeros
  zeros_stay (want ∷ wants) [] buffer room blocks place e is zeros = zeros
  zeros_stay (want ∷ wants) (put ∷ puts) buffer room blocks place e is zeros =
      zeros_stay wants puts (clear_one (offset_of banks put.at) want.size buffer) (one_room buffer room want put blocks.0) blocks.1 place e is
      (one_zeros buffer room want put blocks.0 place e is zeros)

  -- each of them is all zeros
  pub cleared_zeros : (wants : List Want) (puts : List PlacedBlock) (buffer : List ℕ) → bytes_below banks 256 ≤ length buffer → BlocksAre user slots wants puts
      → (i : ℕ) (want : Want) (h : Handle) → slice_get wants i ≡ Some want → slice_get (map handle_of puts) i ≡ Some h
      → bytes_in banks (with_zeroed_blocks banks wants puts buffer) (slot_at slots h.slot) ≡ replicate want.size 0
  cleared_zeros [] puts buffer room blocks i want h is at = absurd (cc)
  cleared_zeros (w ∷ wants) [] buffer room blocks i want h is at = absurd blocks
  cleared_zeros (w ∷ wants) (put ∷ puts) buffer room blocks zero want h is at =
      let same : w ≡ want = cc in
      let handle : put.handle ≡ h = cc in
      let slot : put.handle.slot ≡ h.slot = ap (λ (one : Handle). one.slot) handle in
      rw (← slot, ← same) (zeros_stay wants puts (clear_one (offset_of banks put.at) w.size buffer) (one_room buffer room w put blocks.0) blocks.1 put.handle.slot (put.at, w.size)
      (put_at w put blocks.0) (one_here buffer room w put blocks.0))
  cleared_zeros (w ∷ wants) (put ∷ puts) buffer room blocks (suc i) want h is at =
      cleared_zeros wants puts (clear_one (offset_of banks put.at) w.size buffer) (one_room buffer room w put blocks.0) blocks.1 i want h is at

  -- their bytes are in the buffer
  pub all_fit : (wants : List Want) (puts : List PlacedBlock) (buffer : List ℕ) → bytes_below banks 256 ≤ length buffer → BlocksAre user slots wants puts
      → FitIn banks (length buffer) wants puts
  all_fit [] puts buffer room blocks k w p inside inside' = absurd (omega arith)
  all_fit (want ∷ wants) [] buffer room blocks k w p inside inside' = absurd (omega arith)
  all_fit (want ∷ wants) (put ∷ puts) buffer room blocks zero w p inside inside' =
      let limit : IfSome (extent (slot_at slots put.handle.slot)) (λ e. (0 < e.1) × (e.0 + e.1 ≤ 2 ^ 24)) =
      bounded_extent (slot_at slots put.handle.slot) (each_slot IsBoundedSlot slots tt bounded put.handle.slot) in
      let ends : (0 < want.size) × (put.at + want.size ≤ 2 ^ 24) = rw (put_at want put blocks.0) at limit in
      (omega (arith, ends.0, ends.1), one_inside buffer room want put blocks.0)
  all_fit (want ∷ wants) (put ∷ puts) buffer room blocks (suc k) w p inside inside' =
      all_fit wants puts buffer room blocks.1 k w p (omega arith) (omega arith)

-- as many were put as wanted
pub as_many : (user : ℕ) (slots : List (Slot Block)) (wants : List Want) (puts : List PlacedBlock) → BlocksAre user slots wants puts → length wants ≡ length puts
as_many user slots [] [] blocks = refl
as_many user slots [] (put ∷ puts) blocks = absurd blocks
as_many user slots (want ∷ wants) [] blocks = absurd blocks
as_many user slots (want ∷ wants) (put ∷ puts) blocks = ap suc (as_many user slots wants puts blocks.1)

pub not_among : (puts : List PlacedBlock) (place : ℕ) → ¬ Contains (map (λ (h : Handle). h.slot) (map handle_of puts)) place → NotAmong puts place
not_among [] place out = tt
not_among (put ∷ puts) place out = (λ eq. out (0, omega arith, sym eq), not_among puts place (λ has. out (suc has.0, omega (arith, has.1), has.2)))

-- one more handle is given
give_suc : (hs : List Handle) (puts : List PlacedBlock) (k : ℕ) (d : PlacedBlock) → k < length hs → k < length puts → take k hs ≡ take k (map handle_of puts)
    → take (suc k) (set hs k (get_or puts k d).handle) ≡ take (suc k) (map handle_of puts)
give_suc [] puts k d inside inside' so = absurd (omega arith)
give_suc (h ∷ hs) [] k d inside inside' so = absurd (omega arith)
give_suc (h ∷ hs) (put ∷ puts) zero d inside inside' so = refl
give_suc (h ∷ hs) (put ∷ puts) (suc k) d inside inside' so =
    let first : h ≡ put.handle = cc in
    let rest : take k hs ≡ take k (map handle_of puts) = cc in
    rw first (ap (λ (more : List Handle). put.handle ∷ more) (give_suc hs puts k d (omega arith) (omega arith) rest))

pub give_next : (hs : List Handle) (puts : List PlacedBlock) (k : ℕ) (d : PlacedBlock) → k < length hs → k < length puts → take k hs ≡ take k (map handle_of puts)
    → take (k + 1) (set hs k (get_or puts k d).handle) ≡ take (k + 1) (map handle_of puts)
give_next hs puts k d inside inside' so = rw add-one (give_suc hs puts k d inside inside' so)
