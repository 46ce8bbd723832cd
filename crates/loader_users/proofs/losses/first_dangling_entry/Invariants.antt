use Rattle.std.specs.Prelude.{◌≡◌, drop}
use Rattle.omf_cells.specs.Load.{table_targets}
use Rattle.loader_machine.specs.Steps.{lost_from}
use Rattle.loader_users.specs.Users.{new_heads}
use Rattle.loader_users.proofs.losses.first_dangling_entry.Given as goal

-- the first ones lead somewhere
abbrev pub invariant-entries : goal.invariant-entries
invariant-entries l = lost_from (new_heads l.joined.items) 0 (table_targets l.load) ≡ lost_from (new_heads l.joined.items) l.place (drop l.place (table_targets l.load))
