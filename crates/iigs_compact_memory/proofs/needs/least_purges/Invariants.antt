use Rattle.std.proofs.Common.{◌≡◌, ℕ, ◌<◌}
use Rattle.iigs_compact_memory.specs.Needs.{NoneAfter}
use Rattle.iigs_compact_memory.proofs.needs.least_purges.Given as goal

-- with fewer purges the want fits nowhere after a slide
abbrev pub invariant-loop-count : goal.invariant-loop-count
invariant-loop-count l = record {
  none : (k : ℕ) → k < l.count → NoneAfter l.places.banks l.places.slots l.want k;
  banks : l.trial.banks ≡ l.places.banks;
}
