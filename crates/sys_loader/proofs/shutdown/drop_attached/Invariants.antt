use Rattle.std.proofs.Common.{◌≡◌, Some, map, take}
use Rattle.std.specs.Prelude.{option_map, vec_capacity}
use Rattle.loader_machine.specs.State.{user_of, without_all}
use Rattle.loader_agrees.specs.Agrees.{LoadedUser}
use Rattle.loader_users.specs.View.{kept}
use Rattle.sys_loader.specs.Lives.{AreReleased}
use Rattle.sys_loader.proofs.shutdown.drop_attached.Given as goal

-- the first ones are gone
abbrev pub invariant-places : goal.invariant-places
invariant-places l = ((k : LoadedUser) → user_of (map (option_map kept) l.fn.users.items) l.id ≡ Some k
    → AreReleased (take l.place k.attached) l.fn.banks l.banks × (map (option_map kept) l.users.items ≡ without_all (map (option_map kept) l.fn.users.items) (take l.place k.attached)))
    × (vec_capacity l.users ≡ vec_capacity l.fn.users)
