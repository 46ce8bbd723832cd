use Rattle.std.proofs.Common.{◌≡◌, ◌≤◌, ◌-◌, take, drop, length}
use Rattle.orca_macro.proofs.definitions.copy_range.Given as goal

abbrev pub invariant-lines : goal.invariant-lines
invariant-lines l = (l.found ≡ take (l.at - l.from) (drop l.from l.lines)) × (l.from ≤ l.at) × (l.at ≤ l.to) × (length l.found ≤ l.at)

abbrev pub decreases-lines : goal.decreases-lines
decreases-lines l = l.to - l.at
