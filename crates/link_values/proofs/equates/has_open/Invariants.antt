use Rattle.std.proofs.Common.{◌<◌, ◌-◌, ℕ, length}
use Rattle.link_values.specs.Equates.{IsOpen}
use Rattle.link_values.proofs.equates.has_open.Given as goal

abbrev pub invariant-slots : goal.invariant-slots
invariant-slots l = (k : ℕ) → k < l.number → IsOpen l.slots k → ⊥

abbrev pub decreases-slots : goal.decreases-slots
decreases-slots l = length l.slots - l.number
