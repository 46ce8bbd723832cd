use Rattle.link_values.specs.Equates.{AreTrue, open_count}
use Rattle.link_values.proofs.equates.find_all_values.Given as goal

abbrev pub invariant-passes : goal.invariant-passes
invariant-passes l = AreTrue l.program l.slots.items

abbrev pub decreases-passes : goal.decreases-passes
decreases-passes l = open_count l.slots.items
