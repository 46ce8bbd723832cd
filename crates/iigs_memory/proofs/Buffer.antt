-- How the bytes of blocks lie in the buffer.
use Rattle.std.proofs.Common.{◌≡◌, ◌≢◌, ◌⊎◌, inl, inr, ℕ, ◌+◌, ◌<◌, ◌≤◌, ◌^◌, List, [], take, drop, All, Contains, length, Option, Some, None, IfSome, unwrap_or, arith, refl, sym, ap, ◌∙◌, max}
use Rattle.std.specs.Option.{option_map_or, option_and_then}
use Rattle.std.proofs.lemmas.Bool.{cases_lt}
use Rattle.iigs_meaning.specs.declared.slots.Slot.{Slot}
use Rattle.iigs_meaning.specs.declared.wants.Block.{Block}
use Rattle.iigs_meaning.specs.Slots.{slot_at}
use Rattle.iigs_meaning.specs.Free.{bank_of}
use Rattle.iigs_meaning.specs.Fits.{HoldsByte, block_in}
use Rattle.iigs_meaning.specs.Blocks.{AreApart, address_in}
use Rattle.iigs_places.specs.Offsets.{bytes_below, offset_of}
use Rattle.iigs_places.specs.Spots.{IsBoundedSlot}
use Rattle.iigs_memory.specs.Overlay.{written_over}
use Rattle.iigs_places.specs.Extent.{extent_of_size, extent_of, extent, Spans}
use Rattle.iigs_memory.specs.Store.{bytes_of, bytes_in}
use Rattle.iigs_memory.proofs.Parts.{part, overlay, part-overlay, written_beside, written_whole, length-part}
use Rattle.iigs_memory.proofs.Ranges.{range_inside, range_before}
use Rattle.iigs_places.proofs.Extents.{holds_from, bounded_extent, each_slot, start_extent}

abbrev pub bytes_from : List ℕ → List ℕ → Option (ℕ × ℕ) → List ℕ
bytes_from banks buffer o = option_map_or (λ e. part (offset_of banks e.0) e.1 buffer) o []

bytes_block : (banks buffer : List ℕ) (o : Option ℕ) (size : ℕ) → option_map_or (λ at. take size (drop (offset_of banks at) buffer)) o [] ≡ bytes_from banks buffer (extent_of_size size o)
bytes_block banks buffer None size = refl
bytes_block banks buffer (Some at) size = refl

bytes_is : (banks buffer : List ℕ) (o : Option Block) → option_map_or (bytes_of banks buffer) o [] ≡ bytes_from banks buffer (option_and_then extent_of o)
bytes_is banks buffer None = refl
bytes_is banks buffer (Some block) = bytes_block banks buffer block.at block.want.size

-- a slot's bytes follow from its extent
pub bytes_extent : (banks buffer : List ℕ) (slot : Slot Block) → bytes_in banks buffer slot ≡ bytes_from banks buffer (extent slot)
bytes_extent banks buffer slot = bytes_is banks buffer (block_in slot)

module _ (banks buffer : List ℕ) (slots : List (Slot Block)) (bounded : All IsBoundedSlot slots) (sound : AreApart banks slots) (room : bytes_below banks 256 ≤ length buffer) where
  limits : (place : ℕ) (e : ℕ × ℕ) → extent (slot_at slots place) ≡ Some e → (0 < e.1) × (e.0 + e.1 ≤ 2 ^ 24)
  limits place e is =
      let h : IfSome (extent (slot_at slots place)) (λ e. (0 < e.1) × (e.0 + e.1 ≤ 2 ^ 24)) = bounded_extent (slot_at slots place) (each_slot IsBoundedSlot slots tt bounded place) in
      rw is at h

  spans_hold : (place i : ℕ) (e : ℕ × ℕ) → extent (slot_at slots place) ≡ Some e → Spans i e → HoldsByte i (slot_at slots place)
  spans_hold place i e is spans = holds_from i (slot_at slots place) (rw is spans)

  has_banks : (place : ℕ) (e : ℕ × ℕ) → extent (slot_at slots place) ≡ Some e → (i : ℕ) → e.0 ≤ i → i < e.0 + e.1 → Contains banks (bank_of i)
  has_banks place e is i from to = (sound.inside place i (spans_hold place i e is (from, to))).configured

  -- a block's bytes are in the buffer
  pub in_buffer : (place : ℕ) (e : ℕ × ℕ) → extent (slot_at slots place) ≡ Some e → offset_of banks e.0 + e.1 ≤ length buffer
  in_buffer place e is =
      let l = limits place e is in
      let inside : offset_of banks e.0 + e.1 ≤ bytes_below banks 256 = range_inside banks e.0 e.1 l.0 (has_banks place e is) l.1 in
      omega arith

  -- the bytes of two blocks lie apart there
  apart_in_buffer : (place other : ℕ) (e f : ℕ × ℕ) → place ≢ other → extent (slot_at slots place) ≡ Some e → extent (slot_at slots other) ≡ Some f
      → (offset_of banks f.0 + f.1 ≤ offset_of banks e.0) ⊎ (offset_of banks e.0 + e.1 ≤ offset_of banks f.0)
  apart_in_buffer place other e f ne is is' = elim (cases_lt f.0 (e.0 + e.1)) [
    | inr ge ↦ inr (range_before banks e.0 e.1 f.0 (limits place e is).0 (has_banks place e is) ge)
    | inl lt ↦ elim (cases_lt e.0 (f.0 + f.1)) [
      | inr ge ↦ inl (range_before banks f.0 f.1 e.0 (limits other f is').0 (has_banks other f is') ge)
      | inl lt' ↦
          let i : ℕ = max e.0 f.0 in
          let l = limits place e is in
          let m = limits other f is' in
          absurd (ne (sound.apart place other i (spans_hold place i e is (omega arith, omega arith)) (spans_hold other i f is' (omega arith, omega arith))))
    ]
  ]

  module _ (place : ℕ) (e : ℕ × ℕ) (is : extent (slot_at slots place) ≡ Some e) (ws : List ℕ) where
    over_from : (slot : Slot Block) (f : ℕ × ℕ) → extent slot ≡ Some f → offset_of banks f.0 + f.1 ≤ length buffer
        → bytes_from banks (overlay (offset_of banks e.0) ws buffer) (Some f)
        ≡ written_over (offset_of banks (unwrap_or (address_in slot) 0)) (bytes_from banks buffer (Some f)) (offset_of banks e.0) ws
    over_from slot f there inside =
        let here = in_buffer place e is in
        rw (start_extent slot f there) (part-overlay (offset_of banks f.0) f.1 (offset_of banks e.0) ws buffer inside (omega arith))

    -- any bytes written from the block's start on, in a slot
    pub over_slot : (other : ℕ) → bytes_in banks (overlay (offset_of banks e.0) ws buffer) (slot_at slots other)
        ≡ written_over (offset_of banks (unwrap_or (address_in (slot_at slots other)) 0)) (bytes_in banks buffer (slot_at slots other)) (offset_of banks e.0) ws
    over_slot other = bytes_extent banks (overlay (offset_of banks e.0) ws buffer) (slot_at slots other)
        ∙ go (extent (slot_at slots other)) refl
        ∙ ap (λ bytes. written_over (offset_of banks (unwrap_or (address_in (slot_at slots other)) 0)) bytes (offset_of banks e.0) ws) (sym (bytes_extent banks buffer (slot_at slots other)))
      where
        go : (o : Option (ℕ × ℕ)) → extent (slot_at slots other) ≡ o → bytes_from banks (overlay (offset_of banks e.0) ws buffer) o
            ≡ written_over (offset_of banks (unwrap_or (address_in (slot_at slots other)) 0)) (bytes_from banks buffer o) (offset_of banks e.0) ws
        go None none = refl
        go (Some f) there = over_from (slot_at slots other) f there (in_buffer other f there)

    -- as many as the block has, written there, are its bytes
    pub over_here : length ws ≡ e.1 → bytes_in banks (overlay (offset_of banks e.0) ws buffer) (slot_at slots place) ≡ ws
    over_here len =
        let here = in_buffer place e is in
        bytes_extent banks (overlay (offset_of banks e.0) ws buffer) (slot_at slots place)
        ∙ rw is (part-overlay (offset_of banks e.0) e.1 (offset_of banks e.0) ws buffer here (omega arith)
        ∙ written_whole (offset_of banks e.0) (part (offset_of banks e.0) e.1 buffer) ws (len ∙ sym (length-part (offset_of banks e.0) e.1 buffer here)))

    -- and the other blocks keep theirs
    pub over_other : length ws ≡ e.1 → (other : ℕ) → other ≢ place
        → bytes_in banks (overlay (offset_of banks e.0) ws buffer) (slot_at slots other) ≡ bytes_in banks buffer (slot_at slots other)
    over_other len other ne = bytes_extent banks (overlay (offset_of banks e.0) ws buffer) (slot_at slots other)
        ∙ go (extent (slot_at slots other)) refl
        ∙ sym (bytes_extent banks buffer (slot_at slots other))
      where
        go : (o : Option (ℕ × ℕ)) → extent (slot_at slots other) ≡ o → bytes_from banks (overlay (offset_of banks e.0) ws buffer) o ≡ bytes_from banks buffer o
        go None none = refl
        go (Some f) there =
            let here = in_buffer place e is in
            let size = length-part (offset_of banks f.0) f.1 buffer (in_buffer other f there) in
            part-overlay (offset_of banks f.0) f.1 (offset_of banks e.0) ws buffer (in_buffer other f there) (omega arith)
            ∙ written_beside (offset_of banks f.0) (part (offset_of banks f.0) f.1 buffer) (offset_of banks e.0) ws
            (elim (apart_in_buffer other place f e ne there is) [ inl before ↦ inr (rw len before) | inr after ↦ inl (rw size after) ])
