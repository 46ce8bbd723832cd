use Rattle.std.proofs.Common.{◌≡◌, ◌≤◌, ◌-◌, ℕ, List, map, take, length}
use Rattle.macro_meaning.specs.Definition.{first_named}
use Rattle.name_map.specs.Held.{value_of_name}
use Rattle.orca_macro.specs.Parts.{definition}
use Rattle.orca_macro.proofs.program.names_of.Given as goal

abbrev pub invariant-definitions : goal.invariant-definitions
invariant-definitions l = ((q : List ℕ) → value_of_name l.names q ≡ first_named q (take l.at (map definition l.definitions))) × (l.at ≤ length l.definitions)

abbrev pub decreases-definitions : goal.decreases-definitions
decreases-definitions l = length l.definitions - l.at
