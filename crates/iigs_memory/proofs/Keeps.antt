-- The bytes of blocks that stay, and of one that is written.
use Rattle.std.proofs.Common.{◌≡◌, ◌≢◌, inl, inr, ℕ, ◌+◌, ◌-◌, ◌<◌, ◌≤◌, List, [], ◌∷◌, ◌++◌, length-append, map, take, drop, All, length, get_or, Option, Some, None, IsSomeAnd, arith, refl, sym, ap, ◌∙◌}
use Rattle.std.specs.List.{zip}
use Rattle.std.proofs.Math.ListN.{set, length-set, get_or-eq_default}
use Rattle.std.proofs.lemmas.List.{get_or-take, get_or_append_left, length-take, get_or-map, get_or-set_same, get_or-set_other, same_lists, length-map}
use Rattle.std.proofs.lemmas.Bool.{cases_lt, cases_eq}
use Rattle.iigs_meaning.specs.declared.handles.Handle.{Handle}
use Rattle.iigs_meaning.specs.declared.slots.Slot.{Slot}
use Rattle.iigs_meaning.specs.declared.wants.Block.{Block}
use Rattle.iigs_meaning.specs.Slots.{slot_at, new_slot}
use Rattle.iigs_meaning.specs.Blocks.{AreApart}
use Rattle.iigs_meaning.specs.Memory.{Memory, bytes_at}
use Rattle.iigs_places.specs.Offsets.{bytes_below, offset_of}
use Rattle.iigs_places.specs.Spots.{IsBoundedSlot}
use Rattle.iigs_memory.specs.Overlay.{written_over, with_bytes_written, start_of}
use Rattle.iigs_memory.specs.declared.part.BlockPart.{BlockPart}
use Rattle.iigs_places.specs.Extent.{extent}
use Rattle.iigs_places.specs.Arranged.{IsArranged}
use Rattle.iigs_memory.specs.Store.{bytes_in, memory_of, IsPart, IsStore}
use Rattle.iigs_memory.proofs.Parts.{part, overlay, length-part, length-overlay, get-part}
use Rattle.iigs_places.proofs.Extents.{start_extent}
use Rattle.iigs_memory.proofs.Buffer.{bytes_from, bytes_extent, in_buffer, over_slot, over_here, over_other}

module _ (banks buffer : List ℕ) (slots : List (Slot Block)) where
  -- the bytes at a place are those of its slot
  pub bytes_at_is : (place : ℕ) → bytes_at (memory_of banks slots buffer) place ≡ bytes_in banks buffer (slot_at slots place)
  bytes_at_is place = elim (cases_lt place (length slots)) [
    | inl lt ↦ get_or-map (bytes_in banks buffer) slots place new_slot [] lt
    | inr le ↦
        let past : slot_at slots place ≡ new_slot = get_or-eq_default slots new_slot le in
        let short : length (map (bytes_in banks buffer) slots) ≤ place = omega (arith, length-map slots (bytes_in banks buffer)) in
        rw past (get_or-eq_default (map (bytes_in banks buffer) slots) [] short)
  ]

zip-map : (f : Slot Block → List ℕ) (g : Slot Block × List ℕ → List ℕ) (xs : List (Slot Block)) → map g (zip xs (map f xs)) ≡ map (λ x. g (x, f x)) xs
zip-map f g [] = refl
zip-map f g (x ∷ xs) = ap (λ ys. g (x, f x) ∷ ys) (zip-map f g xs)

map-slots : (f g : Slot Block → List ℕ) (xs : List (Slot Block)) → ((place : ℕ) → f (slot_at xs place) ≡ g (slot_at xs place)) → map f xs ≡ map g xs
map-slots f g xs same = same_lists (map f xs) (map g xs) (omega (arith, length-map xs f, length-map xs g))
    (λ k d less. let inside : k < length xs = omega (arith, length-map xs f) in
    get_or-map f xs k new_slot d inside ∙ same k ∙ sym (get_or-map g xs k new_slot d inside))

map-set : (f g : Slot Block → List ℕ) (xs : List (Slot Block)) (place : ℕ) (y : List ℕ) → place < length xs → f (slot_at xs place) ≡ y
    → ((other : ℕ) → other ≢ place → f (slot_at xs other) ≡ g (slot_at xs other)) → map f xs ≡ set (map g xs) place y
map-set f g xs place y in_list here same = same_lists (map f xs) (set (map g xs) place y) (omega (arith, length-map xs f, length-map xs g, length-set (map g xs) place y))
    (λ k d less. let inside : k < length xs = omega (arith, length-map xs f) in
    get_or-map f xs k new_slot d inside ∙ at k d inside)
  where
    at : (k : ℕ) (d : List ℕ) → k < length xs → f (slot_at xs k) ≡ get_or (set (map g xs) place y) k d
    at k d inside = elim (cases_eq k place) [
      | inl eq ↦
          let long : place < length (map g xs) = omega (arith, length-map xs g) in
          rw (eq, get_or-set_same) here
      | inr ne ↦ rw get_or-set_other (same k ne ∙ sym (get_or-map g xs k new_slot d inside))
    ]

module _ (banks buffer : List ℕ) (slots : List (Slot Block)) (bounded : All IsBoundedSlot slots) (sound : AreApart banks slots) (room : bytes_below banks 256 ≤ length buffer)
    (h : Handle) (e : ℕ × ℕ) (is : extent (slot_at slots h.slot) ≡ Some e) where
  -- its bytes are in the buffer
  pub part_bytes : part (offset_of banks e.0) e.1 buffer ≡ bytes_at (memory_of banks slots buffer) h.slot
  part_bytes = sym (bytes_at_is banks buffer slots h.slot ∙ bytes_extent banks buffer (slot_at slots h.slot) ∙ rw is refl)

  in_list : h.slot < length slots
  in_list = elim (cases_lt h.slot (length slots)) [
    | inl lt ↦ lt
    | inr le ↦
        let past : slot_at slots h.slot ≡ new_slot = get_or-eq_default slots new_slot le in
        let none : None ≡ Some e = rw past at is in
        absurd (cc)
  ]

  -- the memory after bytes were written from the block's start on
  pub borrowed_memory : (ws : List ℕ) → memory_of banks slots (overlay (offset_of banks e.0) ws buffer) ≡ with_bytes_written (memory_of banks slots buffer) h ws
  borrowed_memory ws =
      let start : start_of banks (slot_at slots h.slot) ≡ offset_of banks e.0 = ap (offset_of banks) (start_extent (slot_at slots h.slot) e is) in
      ap (λ (bytes : List (List ℕ)). let m : Memory = record { banks = banks; slots = slots; bytes = bytes } in m)
      (map-slots (bytes_in banks (overlay (offset_of banks e.0) ws buffer)) (λ slot. written_over (start_of banks slot) (bytes_in banks buffer slot) (offset_of banks e.0) ws) slots
      (over_slot banks buffer slots bounded sound room h.slot e is ws)
      ∙ sym (rw start (zip-map (bytes_in banks buffer) (λ pair. written_over (start_of banks pair.0) pair.1 (offset_of banks e.0) ws) slots)))

  -- as many bytes as the block has change that block alone
  pub borrowed_alone : (ws : List ℕ) → length ws ≡ length (bytes_at (memory_of banks slots buffer) h.slot)
      → with_bytes_written (memory_of banks slots buffer) h ws ≡ record { banks = banks; slots = slots; bytes = set (map (bytes_in banks buffer) slots) h.slot ws }
  borrowed_alone ws len =
      let size : length ws ≡ e.1 = len ∙ ap length (sym part_bytes) ∙ length-part (offset_of banks e.0) e.1 buffer (in_buffer banks buffer slots bounded sound room h.slot e is) in
      sym (borrowed_memory ws) ∙ ap (λ (bytes : List (List ℕ)). let m : Memory = record { banks = banks; slots = slots; bytes = bytes } in m)
      (map-set (bytes_in banks (overlay (offset_of banks e.0) ws buffer)) (bytes_in banks buffer) slots h.slot ws in_list
      (over_here banks buffer slots bounded sound room h.slot e is ws size)
      (over_other banks buffer slots bounded sound room h.slot e is ws size))

-- a part gives the block's extent
pub part_extent : (memory : Memory) (h : Handle) (start end : ℕ) → IsPart memory h (record { start = start; end = end })
    → (e : ℕ × ℕ) × (extent (slot_at memory.slots h.slot) ≡ Some e) × (start ≡ offset_of memory.banks e.0) × (end ≡ start + e.1)
part_extent memory h start end is_part = go (extent (slot_at memory.slots h.slot)) refl is_part.extent_is
  where
    go : (o : Option (ℕ × ℕ)) → extent (slot_at memory.slots h.slot) ≡ o → IsSomeAnd o (λ e. (start ≡ offset_of memory.banks e.0) × (end ≡ start + e.1))
        → (e : ℕ × ℕ) × (extent (slot_at memory.slots h.slot) ≡ Some e) × (start ≡ offset_of memory.banks e.0) × (end ≡ start + e.1)
    go None is found = absurd found
    go (Some e) is found = (e, is, found.0, found.1)

module _ (banks buffer : List ℕ) (slots : List (Slot Block)) (bounded : All IsBoundedSlot slots) (sound : AreApart banks slots) (room : bytes_below banks 256 ≤ length buffer)
    (h : Handle) (start end : ℕ) (is_part : IsPart (memory_of banks slots buffer) h (record { start = start; end = end })) where
  pub within_buffer : end ≤ length buffer
  within_buffer =
      let e = part_extent (memory_of banks slots buffer) h start end is_part in
      let inside = in_buffer banks buffer slots bounded sound room h.slot e.0 e.1 in omega (arith, e.2, e.3)

  pub in_order : start ≤ end
  in_order = let e = part_extent (memory_of banks slots buffer) h start end is_part in omega (arith, e.3)

  pub bytes_there : part start (end - start) buffer ≡ bytes_at (memory_of banks slots buffer) h.slot
  bytes_there =
      let e = part_extent (memory_of banks slots buffer) h start end is_part in
      let size : end - start ≡ e.0.1 = omega (arith, e.3) in
      ap (λ n. part n (end - start) buffer) e.2 ∙ ap (λ n. part (offset_of banks e.0.0) n buffer) size ∙ part_bytes banks buffer slots bounded sound room h e.0 e.1

  pub memory_there : (ws : List ℕ) → memory_of banks slots (overlay start ws buffer) ≡ with_bytes_written (memory_of banks slots buffer) h ws
  memory_there ws =
      let e = part_extent (memory_of banks slots buffer) h start end is_part in
      ap (λ n. memory_of banks slots (overlay n ws buffer)) e.2 ∙ borrowed_memory banks buffer slots bounded sound room h e.0 e.1 ws

  pub alone_there : (ws : List ℕ) → length ws ≡ length (bytes_at (memory_of banks slots buffer) h.slot)
      → with_bytes_written (memory_of banks slots buffer) h ws ≡ record { banks = banks; slots = slots; bytes = set (map (bytes_in banks buffer) slots) h.slot ws }
  alone_there ws len =
      let e = part_extent (memory_of banks slots buffer) h start end is_part in
      borrowed_alone banks buffer slots bounded sound room h e.0 e.1 ws len

-- what lies past a part doesn't matter for it
part-refill : (start size n : ℕ) (xs ys : List ℕ) → start + size ≤ n → n ≤ length xs → part start size (take n (xs ++ ys)) ≡ part start size xs
part-refill start size n xs ys inside le = same_lists (part start size (take n (xs ++ ys))) (part start size xs)
    (first ∙ sym second)
    (λ k d less. let short : k < size = omega (arith, first) in
    get-part start size (take n (xs ++ ys)) k d short
    ∙ get_or-take n (xs ++ ys) (start + k) d (omega arith)
    ∙ get_or_append_left xs ys d (start + k) (omega arith)
    ∙ sym (get-part start size xs k d short))
  where
    first : length (part start size (take n (xs ++ ys))) ≡ size
    first = length-part start size (take n (xs ++ ys)) (omega (arith, length-take n (xs ++ ys), length-append xs ys))

    second : length (part start size xs) ≡ size
    second = length-part start size xs (omega arith)

module _ (banks buffer : List ℕ) (slots : List (Slot Block)) (bounded : All IsBoundedSlot slots) (sound : AreApart banks slots) (room : bytes_below banks 256 ≤ length buffer)
    (n : ℕ) (is : n ≡ length buffer) (xs ys : List ℕ) (long : length buffer ≤ length xs) where
  pub refilled : memory_of banks slots (take n (xs ++ ys)) ≡ memory_of banks slots xs
  refilled = ap (λ (bytes : List (List ℕ)). let m : Memory = record { banks = banks; slots = slots; bytes = bytes } in m)
      (map-slots (bytes_in banks (take n (xs ++ ys))) (bytes_in banks xs) slots
      (λ place. bytes_extent banks (take n (xs ++ ys)) (slot_at slots place) ∙ go place (extent (slot_at slots place)) refl ∙ sym (bytes_extent banks xs (slot_at slots place))))
    where
      go : (place : ℕ) (o : Option (ℕ × ℕ)) → extent (slot_at slots place) ≡ o → bytes_from banks (take n (xs ++ ys)) o ≡ bytes_from banks xs o
      go place None none = refl
      go place (Some f) there =
          let inside = in_buffer banks buffer slots bounded sound room place f there in
          part-refill (offset_of banks f.0) f.1 n xs ys (omega arith) (omega arith)

-- the parts of a store's memory
module _ (banks buffer : List ℕ) (slots : List (Slot Block)) (arranged : IsArranged banks slots) (made : ℕ) (store : IsStore banks buffer made)
    (memory : Memory) (view : memory_of banks slots buffer ≡ memory) (h : Handle) (at : BlockPart) (is_part : IsPart memory h at) where
  part_here : IsPart (memory_of banks slots buffer) h (record { start = at.start; end = at.end })
  part_here = rw view is_part

  pub store_within : at.end ≤ length buffer
  store_within = within_buffer banks buffer slots arranged.bounded arranged.sound store.room h at.start at.end part_here

  pub store_order : at.start ≤ at.end
  store_order = in_order banks buffer slots arranged.bounded arranged.sound store.room h at.start at.end part_here

  pub store_bytes : part at.start (at.end - at.start) buffer ≡ bytes_at memory h.slot
  store_bytes = bytes_there banks buffer slots arranged.bounded arranged.sound store.room h at.start at.end part_here ∙ ap (λ m. bytes_at m h.slot) view

  pub store_memory : (ws : List ℕ) → memory_of banks slots (overlay at.start ws buffer) ≡ with_bytes_written memory h ws
  store_memory ws = memory_there banks buffer slots arranged.bounded arranged.sound store.room h at.start at.end part_here ws ∙ ap (λ m. with_bytes_written m h ws) view

  pub store_refilled : (n : ℕ) → n ≡ length buffer → (ws : List ℕ)
      → memory_of banks slots (take n (overlay at.start ws buffer ++ drop (length (overlay at.start ws buffer)) buffer)) ≡ with_bytes_written memory h ws
  store_refilled n is ws =
      let order = store_order in
      let within = store_within in
      refilled banks buffer slots arranged.bounded arranged.sound store.room n is (overlay at.start ws buffer) (drop (length (overlay at.start ws buffer)) buffer)
      (length-overlay at.start ws buffer (omega arith)) ∙ store_memory ws

  pub store_alone : (ws : List ℕ) → length ws ≡ length (bytes_at memory h.slot) → with_bytes_written memory h ws ≡ record memory { bytes = set memory.bytes h.slot ws }
  store_alone ws = rw (← view) (alone_there banks buffer slots arranged.bounded arranged.sound store.room h at.start at.end part_here ws)
