use Rattle.std.specs.Prelude.{◌≡◌, drop, map, option_map}
use Rattle.omf_cells.specs.Load.{table_targets}
use Rattle.loader_machine.specs.Steps.{lost_from}
use Rattle.loader_users.specs.View.{kept}
use Rattle.loader_users.specs.Users.{kept_heads}
use Rattle.loader_users.proofs.losses.first_dangling_entry_of.Given as goal

-- the first ones lead somewhere
abbrev pub invariant-entries : goal.invariant-entries
invariant-entries l = lost_from (kept_heads (map (option_map kept) l.users.items) l.attached.items) 0 (table_targets l.load) ≡ lost_from (kept_heads (map (option_map kept) l.users.items) l.attached.items) l.place (drop l.place (table_targets l.load))
