use Rattle.std.proofs.Common.{◌≡◌, ◌<◌, ◌-◌, true, false, ℕ, length}
use Rattle.cycles.specs.Graphs.{IsIn, row_at}
use Rattle.link_values.specs.Equates.{AreTrue, IsOpen, open_count}
use Rattle.link_values.proofs.equates.find_values_once.Given as goal

-- where no value was found, the definitions so far have none to be found
abbrev pub invariant-definitions : goal.invariant-definitions
invariant-definitions l = record {
  are : AreTrue l.program l.slots.items;
  fewer : l.found ≡ true → open_count l.slots.items < open_count l.initial.slots.items;
  same : l.found ≡ false → l.slots.items ≡ l.initial.slots.items;
  settled : l.found ≡ false → (k : ℕ) → k < l.number → IsOpen l.initial.slots.items k → (n : ℕ) × IsIn (row_at l.edges k) n × IsOpen l.initial.slots.items n;
}

abbrev pub decreases-definitions : goal.decreases-definitions
decreases-definitions l = length l.edges - l.number
