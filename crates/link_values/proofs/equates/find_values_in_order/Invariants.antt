use Rattle.link_values.specs.Equates.{AreTrue}
use Rattle.link_values.proofs.equates.find_values_in_order.Given as goal

abbrev pub invariant-order : goal.invariant-order
invariant-order l = AreTrue l.program l.slots.items
