use Rattle.std.specs.Prelude.{map}
use Rattle.loader_users.specs.Filling.{AreFilled}
use Rattle.sys_loader.specs.Restarting.{again_handle}
use Rattle.sys_loader.proofs.restart.fill_again.Given as goal

-- the first of them are in their blocks
abbrev pub invariant-places : goal.invariant-places
invariant-places l = AreFilled l.load (map again_handle l.segments.items) l.user l.places l.fn.banks l.banks l.k
