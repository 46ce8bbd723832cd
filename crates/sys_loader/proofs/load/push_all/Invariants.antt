use Rattle.std.specs.Prelude.{◌≡◌, ◌+◌, ◌≤◌, ◌++◌, length, map, option_map, Some, vec_capacity}
use Rattle.loader_agrees.specs.Agrees.{LoadedUser}
use Rattle.loader_users.specs.View.{kept}
use Rattle.sys_loader.proofs.load.push_all.Given as goal

-- the users so far and those that are left are all of them, and have room
abbrev pub invariant-joined : goal.invariant-joined
invariant-joined l = (map (option_map kept) l.users.items ++ map (λ (k : LoadedUser). Some k) (map kept l.user-iterator.rest.items)
    ≡ map (option_map kept) l.fn.users.items ++ map (λ (k : LoadedUser). Some k) (map kept l.fn.joined.items))
    × (vec_capacity l.users ≡ vec_capacity l.fn.users) × (length l.users.items + length l.user-iterator.rest.items ≤ vec_capacity l.users)
    × (l.user-iterator.rest.len ≡ length l.user-iterator.rest.items)
