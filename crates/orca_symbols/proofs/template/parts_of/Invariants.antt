use Rattle.std.proofs.Common.{◌≤◌, ◌+◌, length}
use Rattle.macro_meaning.specs.Substitution.{naming_at}
use Rattle.orca_text.specs.View.{line}
use Rattle.orca_symbols.proofs.Templates.{AreSoFar}
use Rattle.orca_symbols.proofs.template.parts_of.Given as goal

abbrev pub invariant-runs : goal.invariant-runs
invariant-runs l = record {
  so : AreSoFar (naming_at l.of.text (line l.of).fields) l.of.text l.left l.parts.items l.run.items;
  within : length l.left + length l.run.items ≤ length l.text;
}

abbrev pub decreases-runs : goal.decreases-runs
decreases-runs l = length l.left
