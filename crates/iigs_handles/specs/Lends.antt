-- What a table of handles ends as, where a value in it is borrowed to be written.
use Rattle.std.specs.Prelude.{List, Result}
use Rattle.std.specs.Borrow.{Lends, LendsIfOk, Fml, RattleType, MutBor}
use Rattle.iigs_meaning.specs.declared.handles.Handle.{Handle}
use Rattle.iigs_meaning.specs.declared.slots.Slot.{Slot}
use Rattle.iigs_meaning.specs.declared.slots.SlotContent.TheVariants.{Used}
use Rattle.iigs_meaning.specs.contracts.slots.Slot.{the_row as slot_row}
use Rattle.iigs_meaning.specs.Slots.{with_value}
use Rattle.iigs_handles.specs.contracts.table.Handles.{the_row}

module _ (T : RattleType) where
  -- the handle's slot ends with the last value written through r; at an error all slots stay
  abbrev pub lends_value : {E : Type 0} → MutBor (List (Slot T.Denot)) → Handle → Result (MutBor T.Denot) E → Fml
  lends_value table h r = LendsIfOk (the_row T) T table r (with_value table.now h) table.now

  -- a used slot ends with the last value written through r
  abbrev pub lends_content : MutBor (Slot T.Denot) → MutBor T.Denot → Fml
  lends_content slot r = Lends (slot_row T) T slot r (λ value. record { generation = slot.now.generation; content = Used value })
