use Rattle.std.specs.Prelude.{◌≡◌, ◌≤◌}
use Rattle.loader_machine.specs.State.{ids_from}
use Rattle.sys_loader.proofs.load.ids_from.Given as goal

-- the first ones are there
abbrev pub invariant-ids : goal.invariant-ids
invariant-ids l = (l.place ≤ l.count) × (l.ids.items ≡ ids_from l.id l.place)
