use Rattle.std.specs.Prelude.{take}
use Rattle.sys_loader.specs.Lives.{AreIdled}
use Rattle.loader_users.proofs.Written.{handles_of}
use Rattle.sys_loader.proofs.shutdown.idle_all.Given as goal

-- the first ones are idle
abbrev pub invariant-places : goal.invariant-places
invariant-places l = AreIdled (take l.k (handles_of l.segments.items)) l.fn.banks l.banks
