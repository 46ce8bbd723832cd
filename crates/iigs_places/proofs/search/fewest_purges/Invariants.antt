use Rattle.std.proofs.Common.{ℕ, ◌<◌, ◌≤◌, ◌-◌, length}
use Rattle.iigs_places.specs.Spots.{FitsAmong, IsLeastAmong, limit_of}
use Rattle.iigs_places.proofs.search.fewest_purges.Given as goal

-- with `count` blocks purged the want goes to `at`, and with `none` purged it fits nowhere
abbrev pub invariant-loop-count : goal.invariant-loop-count
invariant-loop-count l = (l.count ≤ length l.turns) × (l.none < l.count)
    × IsLeastAmong l.map l.want l.spots (limit_of l.turns l.count) l.at
    × ((address : ℕ) → ¬ FitsAmong l.map l.want l.spots (limit_of l.turns l.none) address)

abbrev pub decreases-loop-count : goal.decreases-loop-count
decreases-loop-count l = l.count - l.none
