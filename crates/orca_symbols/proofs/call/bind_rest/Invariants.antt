use Rattle.std.proofs.Common.{◌≡◌, ◌-◌, length, drop}
use Rattle.macro_meaning.specs.Call.{with_missing}
use Rattle.orca_symbols.specs.View.{symbols_of}
use Rattle.orca_symbols.proofs.call.bind_rest.Given as goal

abbrev pub invariant-parameters : goal.invariant-parameters
invariant-parameters l = with_missing (drop l.at l.parameters) (symbols_of l.symbols) ≡ with_missing (drop l.place l.parameters) (symbols_of l.fn.symbols)

abbrev pub decreases-parameters : goal.decreases-parameters
decreases-parameters l = length l.parameters - l.at
