-- A store with a block put in it.
use Rattle.std.proofs.Common.{◌≡◌, ◌≢◌, ℕ, ◌+◌, ◌≤◌, List, [], ◌∷◌, ◌++◌, take, drop, replicate, All, length, Some, arith, sym, ap}
use Rattle.std.proofs.lemmas.List.{length-replicate, drop-drop}
use Rattle.iigs_meaning.specs.declared.slots.Slot.{Slot}
use Rattle.iigs_meaning.specs.declared.wants.Block.{Block}
use Rattle.iigs_meaning.specs.Slots.{slot_at}
use Rattle.iigs_meaning.specs.Blocks.{AreApart}
use Rattle.iigs_meaning.specs.Memory.{KeepsBut, bytes_at}
use Rattle.iigs_places.specs.Offsets.{offset_of}
use Rattle.iigs_places.specs.Spots.{IsBoundedSlot}
use Rattle.iigs_places.specs.Extent.{extent}
use Rattle.iigs_memory.specs.Store.{memory_of, IsStore}
use Rattle.iigs_memory.proofs.Parts.{overlay, length-overlay}
use Rattle.iigs_memory.proofs.Buffer.{in_buffer}
use Rattle.iigs_places.proofs.Stays.{Stays}
use Rattle.iigs_memory.proofs.Stores.{bytes_placed, keeps_placed}

pub clear_overlay : (start size : ℕ) (xs : List ℕ) → take start xs ++ (replicate size 0 ++ drop (start + size) xs) ≡ overlay start (replicate size 0) xs
clear_overlay start size xs =
    let n : length {A = ℕ} (replicate size 0) ≡ size = length-replicate size 0 in
    rw n (ap (λ ys. take start xs ++ (replicate size 0 ++ ys)) (sym (drop-drop size start xs)))

-- a store with a block put in it, all zeros
module _ (banks buffer : List ℕ) (old new : List (Slot Block)) (made : ℕ) (store : IsStore banks buffer made)
    (at : ℕ) (e : ℕ × ℕ) (bounded : All IsBoundedSlot new) (sound : AreApart banks new)
    (others : (place : ℕ) → place ≢ at → Stays old new place) (is : extent (slot_at new at) ≡ Some e) where
  pub put_within : offset_of banks e.0 + e.1 ≤ length buffer
  put_within = in_buffer banks buffer new bounded sound store.room at e is

  pub put_store : IsStore banks (overlay (offset_of banks e.0) (replicate e.1 0) buffer) made
  put_store =
      let within = put_within in
      record {
        room = omega (arith, store.room, length-overlay (offset_of banks e.0) (replicate e.1 0) buffer (omega arith));
        made_room = store.made_room;
      }

  pub put_zeros : bytes_at (memory_of banks new (overlay (offset_of banks e.0) (replicate e.1 0) buffer)) at ≡ replicate e.1 0
  put_zeros = bytes_placed banks buffer old new bounded sound store.room at e is (replicate e.1 0) (length-replicate e.1 0)

  pub put_keeps : KeepsBut (memory_of banks old buffer) (memory_of banks new (overlay (offset_of banks e.0) (replicate e.1 0) buffer)) (at ∷ [])
  put_keeps = keeps_placed banks buffer old new bounded sound store.room at e is (replicate e.1 0) (length-replicate e.1 0) others
