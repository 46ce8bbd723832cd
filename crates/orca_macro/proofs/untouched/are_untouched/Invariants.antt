use Rattle.std.proofs.Common.{◌-◌}
use Rattle.orca_macro.proofs.Sources.{UntouchedTo}
use Rattle.orca_macro.proofs.untouched.are_untouched.Given as goal

abbrev pub invariant-lines : goal.invariant-lines
invariant-lines l = UntouchedTo l.lines l.at

abbrev pub decreases-lines : goal.decreases-lines
decreases-lines l = l.count - l.at
