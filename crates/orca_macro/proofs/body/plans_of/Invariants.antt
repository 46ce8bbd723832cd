use Rattle.std.proofs.Common.{◌≡◌, ◌-◌, length}
use Rattle.orca_macro.specs.Plan.{HavePlans}
use Rattle.orca_macro.proofs.body.plans_of.Given as goal

abbrev pub invariant-lines : goal.invariant-lines
invariant-lines l = record {
  have : HavePlans l.lines l.plans.items;
  size : length l.plans.items ≡ l.at;
}

abbrev pub decreases-lines : goal.decreases-lines
decreases-lines l = length l.lines - l.at
