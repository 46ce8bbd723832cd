-- The bytes of blocks that stay, and of one that is put.
use Rattle.std.proofs.Common.{◌≡◌, ◌≢◌, inl, inr, ℕ, true, false, ◌≤◌, List, [], ◌∷◌, All, length, Some, IsSome, is_some, arith, refl, sym, ap, ◌∙◌}
use Rattle.iigs_meaning.specs.declared.slots.Slot.{Slot}
use Rattle.iigs_meaning.specs.declared.wants.Block.{Block}
use Rattle.iigs_meaning.specs.Slots.{slot_at}
use Rattle.iigs_meaning.specs.Blocks.{AreApart, address_in}
use Rattle.iigs_meaning.specs.Memory.{KeepsBut, bytes_at}
use Rattle.iigs_places.specs.Offsets.{bytes_below, offset_of}
use Rattle.iigs_places.specs.Spots.{IsBoundedSlot}
use Rattle.iigs_places.specs.Extent.{extent}
use Rattle.iigs_memory.specs.Store.{bytes_in, memory_of}
use Rattle.iigs_memory.proofs.Parts.{overlay}
use Rattle.iigs_places.proofs.Extents.{there_extent}
use Rattle.iigs_memory.proofs.Buffer.{bytes_from, bytes_extent, over_here, over_other}
use Rattle.iigs_memory.proofs.Keeps.{bytes_at_is}
use Rattle.iigs_places.proofs.Stays.{StaysIn, Stays}

pub stays_bytes : (banks buffer : List ℕ) (old new : Slot Block) → StaysIn old new → IsSome (address_in new) → bytes_in banks buffer new ≡ bytes_in banks buffer old
stays_bytes banks buffer old new (inl none) there =
    let no : false ≡ true = sym (there_extent new ∙ ap is_some none) ∙ there in
    absurd (cc)
stays_bytes banks buffer old new (inr same) there = bytes_extent banks buffer new ∙ ap (bytes_from banks buffer) same ∙ sym (bytes_extent banks buffer old)

pub keeps_stays : (banks buffer : List ℕ) (old new : List (Slot Block)) → ((place : ℕ) → Stays old new place)
    → KeepsBut (memory_of banks old buffer) (memory_of banks new buffer) []
keeps_stays banks buffer old new stays = record {
  banks = refl;
  bytes = λ place out there. bytes_at_is banks buffer new place
      ∙ stays_bytes banks buffer (slot_at old place) (slot_at new place) (stays place) there
      ∙ sym (bytes_at_is banks buffer old place);
}

module _ (banks buffer : List ℕ) (old new : List (Slot Block)) (bounded : All IsBoundedSlot new) (sound : AreApart banks new) (room : bytes_below banks 256 ≤ length buffer)
    (place : ℕ) (e : ℕ × ℕ) (is : extent (slot_at new place) ≡ Some e) (ws : List ℕ) (len : length ws ≡ e.1) where
  -- its bytes are those that are written there
  pub bytes_placed : bytes_at (memory_of banks new (overlay (offset_of banks e.0) ws buffer)) place ≡ ws
  bytes_placed = bytes_at_is banks (overlay (offset_of banks e.0) ws buffer) new place ∙ over_here banks buffer new bounded sound room place e is ws len

  -- and the other blocks keep theirs
  pub keeps_placed : ((other : ℕ) → other ≢ place → Stays old new other)
      → KeepsBut (memory_of banks old buffer) (memory_of banks new (overlay (offset_of banks e.0) ws buffer)) (place ∷ [])
  keeps_placed stays = record {
    banks = refl;
    bytes = λ other out there.
        let ne : other ≢ place = λ eq. out (0, omega arith, sym eq) in
        bytes_at_is banks (overlay (offset_of banks e.0) ws buffer) new other
        ∙ over_other banks buffer new bounded sound room place e is ws len other ne
        ∙ stays_bytes banks buffer (slot_at old other) (slot_at new other) (stays other ne) there
        ∙ sym (bytes_at_is banks buffer old other);
  }
