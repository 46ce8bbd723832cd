use Rattle.loader_users.specs.Filling.{AreFilled}
use Rattle.loader_users.proofs.Written.{handles_of}
use Rattle.loader_users.proofs.fill.fill_all.Given as goal

-- the first segments are in their blocks
abbrev pub invariant-places : goal.invariant-places
invariant-places l = AreFilled l.load (handles_of l.segments.items) l.user l.places l.fn.banks l.banks l.place
