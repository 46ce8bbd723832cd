-- A constant of GEQU outside segments.
use Rattle.std.specs.Prelude.{ℕ, true, List, [], ◌∷◌, ◌++◌}
use Rattle.omf_format.specs.Expression.{Leaf, Constant}
use Rattle.orca_meaning.specs.Names.{with_name}
use Rattle.asm_meaning.specs.State.{State}
use Rattle.asm_meaning.specs.Statement.{equate}

-- the state with one more constant from outside segments, whose record waits for the next segment
abbrev pub with_constant : List ℕ → ℕ → State → State
with_constant name n state = record state { outside = with_name name n state.outside; front = state.front ++ equate true name (Leaf (Constant n)) ∷ [] }
