use Rattle.std.proofs.Common.{[], ◌-◌, ◌≤◌, length}
use Rattle.std.specs.List.{AllByRecursion}
use Rattle.link_content.specs.Contents.{HoldsCells}
use Rattle.link_file.proofs.walk.no_contents.Given as goal

abbrev pub invariant-loads : goal.invariant-loads
invariant-loads l = record {
  none : AllByRecursion (HoldsCells []) l.contents.items;
  few : length l.contents.items ≤ l.count;
}

abbrev pub decreases-loads : goal.decreases-loads
decreases-loads l = l.count - length l.contents.items
