-- A table of slots, and what each call on handles makes of it. These are this project's own rules; the memory
-- handles of the GS/OS Reference are the model for a name that outlives its block's place.
use Rattle.std.specs.Prelude.{◌≡◌, ℕ, Bool, true, false, ◌+◌, ◌==◌, ◌<◌, ◌⊎◌, List, Option, Some, None, IsSome, is_some, if◌then◌else◌, slice_index_or, slice_set, position}
use Rattle.std.specs.Option.{option_map, option_map_or}
use Rattle.iigs_meaning.specs.declared.handles.Handle.{Handle}
use Rattle.iigs_meaning.specs.declared.slots.Slot.{Slot}
use Rattle.iigs_meaning.specs.declared.slots.SlotContent.{SlotContent}
use Rattle.iigs_meaning.specs.declared.slots.SlotContent.TheVariants.{Free, Used, Retired}

-- the generation after which a slot isn't used again
abbrev pub last_generation : ℕ
last_generation = 255

module _ {T : Type 0} where
  -- a free slot that was never used
  abbrev pub new_slot : Slot T
  new_slot = record { generation = 0; content = Free }

  -- the slot at a place; past the end of the table one that was never used
  abbrev pub slot_at : List (Slot T) → ℕ → Slot T
  slot_at slots place = slice_index_or slots place new_slot

  -- the value of a used slot, and none for a free or retired one
  abbrev pub used_value : SlotContent T → Option T
  used_value Free = None
  used_value (Used value) = Some value
  used_value Retired = None

  abbrev pub is_free_content : SlotContent T → Bool
  is_free_content Free = true
  is_free_content (Used value) = false
  is_free_content Retired = false

  abbrev pub is_free : Slot T → Bool
  is_free slot = is_free_content slot.content

  -- a handle is live where its slot is used and has its generation
  abbrev pub IsLive : List (Slot T) → Handle → Type 0
  IsLive slots h = ((slot_at slots h.slot).generation ≡ h.generation)
      × IsSome (used_value (slot_at slots h.slot).content)

  -- a handle is dead where its generation is below its slot's, or its slot is retired
  abbrev pub IsDead : List (Slot T) → Handle → Type 0
  IsDead slots h = (h.generation < (slot_at slots h.slot).generation)
      ⊎ ((slot_at slots h.slot).content ≡ Retired)

  -- the value that a live handle reaches, and none for a stale one
  abbrev pub get : List (Slot T) → Handle → Option T
  get slots h = if (slot_at slots h.slot).generation == h.generation
      then used_value (slot_at slots h.slot).content else None

  -- the place of the lowest free slot
  abbrev pub lowest_free : List (Slot T) → Option ℕ
  lowest_free slots = position is_free slots

  -- a new handle names the lowest free slot under its generation; where no slot is free, there is none
  abbrev pub new_handle : List (Slot T) → Option Handle
  new_handle slots = option_map
      (λ place. record { slot = place; generation = (slot_at slots place).generation })
      (lowest_free slots)

  -- the slots once a new handle took this value
  abbrev pub after_take : List (Slot T) → T → List (Slot T)
  after_take slots value = option_map_or
      (λ place. slice_set slots place
      (record { generation = (slot_at slots place).generation; content = Used value }))
      (lowest_free slots) slots

  -- the slots with this one in the place of the handle's, where the handle is live
  abbrev pub with_slot : List (Slot T) → Handle → Slot T → List (Slot T)
  with_slot slots h slot = if is_some (get slots h) then slice_set slots h.slot slot else slots

  -- a slot that is released under this generation is free under the next one, or retired after the last
  abbrev pub released : ℕ → Slot T
  released generation = if generation == last_generation
      then (record { generation = generation; content = Retired })
      else (record { generation = generation + 1; content = Free })

  -- the slots once the handle was released; a stale one changes nothing
  abbrev pub after_release : List (Slot T) → Handle → List (Slot T)
  after_release slots h = with_slot slots h (released h.generation)

  -- the slots with this value in the place of the handle's; a stale one changes nothing
  abbrev pub with_value : List (Slot T) → Handle → T → List (Slot T)
  with_value slots h value = with_slot slots h (record { generation = h.generation; content = Used value })
