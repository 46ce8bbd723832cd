use Rattle.std.proofs.Common.{◌≡◌, Some, map, take}
use Rattle.std.specs.Prelude.{option_map}
use Rattle.loader_machine.specs.State.{user_of}
use Rattle.loader_machine.specs.laws.Words.{handles_of_all}
use Rattle.loader_agrees.specs.Agrees.{LoadedUser, kept_outlines}
use Rattle.loader_users.specs.View.{kept}
use Rattle.sys_loader.specs.Lives.{AreIdled}
use Rattle.sys_loader.proofs.shutdown.idle_family.Given as goal

-- the segments of the first ones are idle
abbrev pub invariant-places : goal.invariant-places
invariant-places l = (k : LoadedUser) → user_of (map (option_map kept) l.users.items) l.id ≡ Some k
    → AreIdled (handles_of_all (kept_outlines (map (option_map kept) l.users.items)) (take l.place k.attached)) l.fn.banks l.banks
