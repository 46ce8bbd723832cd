use Rattle.std.proofs.Common.{◌≡◌, drop}
use Rattle.std.specs.Prelude.{bytes_eq}
use Rattle.std.specs.Map.{lookup}
use Rattle.name_map.specs.Held.{value_of_name}
use Rattle.name_map.proofs.map.look_through.Given as goal

abbrev pub invariant-names : goal.invariant-names
invariant-names g l = lookup (λ k. bytes_eq l.name k.items) (drop l.at l.map.entries) ≡ value_of_name l.map l.name
