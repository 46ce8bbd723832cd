use Rattle.std.proofs.Common.{◌≡◌, ℕ, ◌<◌, ◌-◌}
use Rattle.iigs_compact_memory.specs.Needs.{NoneAfter}
use Rattle.iigs_compact_memory.proofs.purge_bound.bound_of_purges.Given as goal

-- with fewer purges no slide makes room
abbrev pub invariant-loop-least : goal.invariant-loop-least
invariant-loop-least l = record {
  none : (count : ℕ) → count < l.least → NoneAfter l.places.banks l.places.slots l.want count;
  banks : l.trial.banks ≡ l.places.banks;
}

abbrev pub decreases-loop-least : goal.decreases-loop-least
decreases-loop-least l = l.enough - l.least
