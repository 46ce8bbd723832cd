use Rattle.std.proofs.Common.{◌≡◌, length, map}
use Rattle.orca_meaning.specs.laws.Machine.{reduced}
use Rattle.orca_text.specs.View.{term}
use Rattle.orca_text.proofs.formula.reduce.Given as goal

abbrev pub invariant-tight : goal.invariant-tight
invariant-tight l = reduced l.tight (map term l.out.items) l.waiting ≡ reduced l.tight (map term l.fn.out.items) l.fn.waiting

abbrev pub decreases-tight : goal.decreases-tight
decreases-tight l = length l.waiting
