use Rattle.std.proofs.Common.{◌≡◌, Some, map, take}
use Rattle.std.specs.Prelude.{option_map, vec_capacity}
use Rattle.loader_machine.specs.State.{user_of, with_all}
use Rattle.loader_agrees.specs.Agrees.{LoadedUser}
use Rattle.loader_users.specs.View.{kept}
use Rattle.loader_users.specs.Users.{with_life}
use Rattle.loader_users.proofs.users.set_lives.Given as goal

-- the first ones have this life
abbrev pub invariant-places : goal.invariant-places
invariant-places l = ((k : LoadedUser) → user_of (map (option_map kept) l.fn.users.items) l.id ≡ Some k
    → map (option_map kept) l.users.items ≡ with_all (with_life l.life) (map (option_map kept) l.fn.users.items) (take l.place k.attached))
    × (vec_capacity l.users ≡ vec_capacity l.fn.users)
