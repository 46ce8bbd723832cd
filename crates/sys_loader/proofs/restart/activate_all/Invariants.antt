use Rattle.std.specs.Prelude.{map, take}
use Rattle.sys_loader.specs.Restarting.{static_handle, AreActivated}
use Rattle.sys_loader.proofs.restart.activate_all.Given as goal

-- the first ones are active
abbrev pub invariant-places : goal.invariant-places
invariant-places l = AreActivated (take l.k (map static_handle l.segments.items)) l.fn.banks l.banks
