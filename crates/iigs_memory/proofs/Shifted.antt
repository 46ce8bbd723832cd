-- A block that is moved with its bytes, and blocks that are emptied.
use Rattle.std.proofs.Common.{◌≡◌, ◌≢◌, ◌⊎◌, inl, inr, ℕ, zero, suc, ◌+◌, ◌<◌, ◌≤◌, List, [], ◌∷◌, ◌++◌, take, drop, Contains, length, get_or, Some, None, arith, refl, sym, ap, subst, ◌∙◌}
use Rattle.std.proofs.lemmas.Option.{same_Some}
use Rattle.std.proofs.lemmas.Bool.{cases_eq}
use Rattle.std.proofs.lemmas.List.{drop-drop}
use Rattle.iigs_meaning.specs.declared.handles.Handle.{Handle}
use Rattle.iigs_meaning.specs.declared.slots.Slot.{Slot}
use Rattle.iigs_meaning.specs.declared.wants.Block.{Block}
use Rattle.iigs_meaning.specs.Slots.{slot_at, get, with_value}
use Rattle.iigs_meaning.specs.Fits.{Fits}
use Rattle.iigs_meaning.specs.Moves.{Shifts}
use Rattle.iigs_meaning.specs.Memory.{KeepsBut, bytes_at, IsThere}
use Rattle.iigs_places.specs.Offsets.{offset_of}
use Rattle.iigs_places.specs.Extent.{extent}
use Rattle.iigs_places.specs.Arranged.{IsArranged}
use Rattle.iigs_places.proofs.Changed.{live_block}
use Rattle.iigs_places.proofs.Moved.{moved_others, moved_extent, arranged_moved}
use Rattle.iigs_memory.specs.Store.{memory_of, IsStore}
use Rattle.iigs_memory.proofs.Parts.{part, overlay, length-part, length-overlay}
use Rattle.iigs_memory.proofs.Buffer.{in_buffer}
use Rattle.iigs_memory.proofs.Keeps.{part_bytes}
use Rattle.iigs_memory.proofs.Stores.{bytes_placed, keeps_placed}

-- what is written of other bytes of the buffer
pub copied_overlay : (from size start : ℕ) (xs : List ℕ) → from + size ≤ length xs
    → take start xs ++ (take size (drop from xs) ++ drop (start + size) xs) ≡ overlay start (part from size xs) xs
copied_overlay from size start xs within =
    let n : length (part from size xs) ≡ size = length-part from size xs within in
    rw n (ap (λ (l : List ℕ). take start xs ++ (part from size xs ++ l)) (sym (drop-drop size start xs)))

-- what a shift makes of the slots, said of the block that is known
pub shift_facts : (banks : List ℕ) (old next : List (Slot Block)) (h : Handle) (to : ℕ) → Shifts banks old h to next → (block : Block) → get old h ≡ Some block
    → Fits banks (with_value old h (record block { at = None })) block.want to × (next ≡ with_value old h (record block { at = Some to }))
shift_facts banks old next h to s block was =
    let same : s.block ≡ block = same_Some s.block block (sym s.was ∙ was) in (
      subst (λ (b : Block). Fits banks (with_value old h (record b { at = None })) b.want to) same s.fits,
      s.next_is ∙ ap (λ (b : Block). with_value old h (record b { at = Some to })) same,
    )

-- it isn't moved up
pub shift_low : (banks : List ℕ) (old next : List (Slot Block)) (h : Handle) (to : ℕ) → Shifts banks old h to next → (block : Block) → get old h ≡ Some block → (at : ℕ) → block.at ≡ Some at → to ≤ at
shift_low banks old next h to s block was at lies =
    let same : s.block ≡ block = same_Some s.block block (sym s.was ∙ was) in
    rw (same, lies) at s.lower

module _ (banks buffer : List ℕ) (old : List (Slot Block)) (arranged : IsArranged banks old) (made : ℕ) (store : IsStore banks buffer made)
    (h : Handle) (block : Block) (was : get old h ≡ Some block) (at : ℕ) (lies : block.at ≡ Some at) (to : ℕ) (fits : Fits banks (with_value old h (record block { at = None })) block.want to) where
  abbrev new : List (Slot Block)
  new = with_value old h (record block { at = Some to })

  there : IsArranged banks new
  there = arranged_moved old h block was to banks arranged fits

  old_extent : extent (slot_at old h.slot) ≡ Some (at, block.want.size)
  old_extent = rw (live_block old h block was, lies) refl

  new_extent : extent (slot_at new h.slot) ≡ Some (to, block.want.size)
  new_extent = moved_extent old h block was to banks arranged fits

  pub from_within : offset_of banks at + block.want.size ≤ length buffer
  from_within = in_buffer banks buffer old arranged.bounded arranged.sound store.room h.slot (at, block.want.size) old_extent

  pub to_within : offset_of banks to + block.want.size ≤ length buffer
  to_within = in_buffer banks buffer new there.bounded there.sound store.room h.slot (to, block.want.size) new_extent

  abbrev its_bytes : List ℕ
  its_bytes = part (offset_of banks at) block.want.size buffer

  its_length : length its_bytes ≡ block.want.size
  its_length = length-part (offset_of banks at) block.want.size buffer from_within

  pub moved_store : IsStore banks (overlay (offset_of banks to) its_bytes buffer) made
  moved_store = record {
    room = omega (arith, store.room, to_within, length-overlay (offset_of banks to) its_bytes buffer (omega (arith, to_within)));
    made_room = store.made_room;
  }

  -- its bytes are those that it had
  its_kept : bytes_at (memory_of banks new (overlay (offset_of banks to) its_bytes buffer)) h.slot ≡ bytes_at (memory_of banks old buffer) h.slot
  its_kept = bytes_placed banks buffer old new there.bounded there.sound store.room h.slot (to, block.want.size) new_extent its_bytes its_length
      ∙ part_bytes banks buffer old arranged.bounded arranged.sound store.room h (at, block.want.size) old_extent

  -- and so are those of the other blocks
  pub moved_keeps : KeepsBut (memory_of banks old buffer) (memory_of banks new (overlay (offset_of banks to) its_bytes buffer)) []
  moved_keeps = record { banks = refl; bytes = λ place out there. go place there (cases_eq place h.slot) }
    where
      others : KeepsBut (memory_of banks old buffer) (memory_of banks new (overlay (offset_of banks to) its_bytes buffer)) (h.slot ∷ [])
      others = keeps_placed banks buffer old new there.bounded there.sound store.room h.slot (to, block.want.size) new_extent its_bytes its_length (moved_others old h block was to banks arranged fits)

      not_in : (place : ℕ) → place ≢ h.slot → ¬ Contains (h.slot ∷ []) place
      not_in place ne found = ne (sym (only found.0 found.1 found.2))
        where
          only : (k : ℕ) → k < 1 → get_or (h.slot ∷ []) k place ≡ place → h.slot ≡ place
          only zero lt e = e
          only (suc k) lt e = absurd (omega arith)

      go : (place : ℕ) → IsThere (memory_of banks new (overlay (offset_of banks to) its_bytes buffer)) place → (place ≡ h.slot) ⊎ (place ≢ h.slot)
          → bytes_at (memory_of banks new (overlay (offset_of banks to) its_bytes buffer)) place ≡ bytes_at (memory_of banks old buffer) place
      go place there (inl eq) = rw eq its_kept
      go place there (inr ne) = others.bytes place (not_in place ne) there
