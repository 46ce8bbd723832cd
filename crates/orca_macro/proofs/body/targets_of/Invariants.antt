use Rattle.std.proofs.Common.{◌≡◌, ◌≤◌, ◌-◌, ℕ, List, take}
use Rattle.macro_meaning.specs.Visit.{places_from}
use Rattle.name_map.specs.Held.{value_of_name}
use Rattle.orca_macro.specs.DefinitionView.{summary}
use Rattle.orca_macro.proofs.body.targets_of.Given as goal

abbrev pub invariant-lines : goal.invariant-lines
invariant-lines l = ((q : List ℕ) → value_of_name l.targets q ≡ summary (places_from 0 q (take l.at l.lines))) × (l.at ≤ l.reach)

abbrev pub decreases-lines : goal.decreases-lines
decreases-lines l = l.reach - l.at
