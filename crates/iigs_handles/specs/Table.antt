-- What the fields of a table of handles keep. No public clause cites this module.
use Rattle.std.specs.Prelude.{◌≡◌, ℕ, ◌≤◌, List, length, count_by}
use Rattle.std.specs.List.{position_or_len}
use Rattle.iigs_meaning.specs.declared.slots.Slot.{Slot}
use Rattle.iigs_meaning.specs.Slots.{is_free, slot_at, new_slot}

module _ {T : Type 0} where
  -- there are 4,096 slots, `first` is the place of the lowest free one, `free` counts those that are free, and from `end` on
  -- none was ever used
  pub record IsSound (slots : List (Slot T)) (first free end : ℕ) : Type 0 where
    pub size : length slots ≡ 4096
    pub lowest : first ≡ position_or_len is_free slots
    pub counted : free ≡ count_by is_free slots
    pub within : end ≤ 4096
    pub unused : (place : ℕ) → end ≤ place → slot_at slots place ≡ new_slot
