use Rattle.std.proofs.Common.{◌-◌, take, length}
use Rattle.link_program.specs.Outside.{all_found}
use Rattle.link_values.specs.Equates.{AreFirstSlots}
use Rattle.link_values.proofs.equates.first_slots.Given as goal

-- the definitions so far have their slots
abbrev pub invariant-definitions : goal.invariant-definitions
invariant-definitions l = AreFirstSlots l.program (take (length l.slots.items) (all_found l.program)) l.slots.items

abbrev pub decreases-definitions : goal.decreases-definitions
decreases-definitions l = length (all_found l.program) - length l.slots.items
