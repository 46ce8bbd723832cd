use Rattle.std.proofs.Common.{◌≤◌, length}
use Rattle.macro_meaning.specs.Substitution.{naming_at}
use Rattle.macro_meaning.specs.Symbol.{text_of}
use Rattle.orca_symbols.specs.View.{values}
use Rattle.orca_text.specs.View.{line}
use Rattle.orca_symbols.proofs.Fronts.{IsSoFar}
use Rattle.orca_symbols.proofs.substitution.substitute.Given as goal

abbrev pub invariant-runs : goal.invariant-runs
invariant-runs l = record {
  so : IsSoFar (text_of (values l.of)) (naming_at l.source.text (line l.source).fields) l.source.text l.left l.out.items;
  within : length l.left ≤ length l.text;
}

abbrev pub decreases-runs : goal.decreases-runs
decreases-runs l = length l.left
