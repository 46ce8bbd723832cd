-- What closing operators and a parenthesis leaves.
use Rattle.std.specs.Prelude.{◌≡◌, false, List, Some, None}
use Rattle.omf_format.specs.Expression.{Term}
use Rattle.orca_meaning.specs.laws.Machine.{Wait, state, closed, ended}
use Rattle.orca_text.specs.declared.formula.Closing.{Closing}
use Rattle.orca_text.specs.declared.formula.Closing.TheVariants.{Shut, Whole, Open}

-- of these terms and what waits, once all operators are closed
abbrev pub Closes : Closing → List Term × List Wait → List Term → List Wait → Type 0
Closes Shut x out waiting = (closed x ≡ Some (state out waiting false)) × (ended x ≡ None)
Closes Whole x out waiting = (closed x ≡ None) × (ended x ≡ Some out)
Closes Open x out waiting = (closed x ≡ None) × (ended x ≡ None)
