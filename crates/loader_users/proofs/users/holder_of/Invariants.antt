use Rattle.std.proofs.Common.{◌≡◌, ◌+◌, drop, map}
use Rattle.std.specs.Prelude.{option_map}
use Rattle.loader_machine.specs.State.{first_id, holder_from}
use Rattle.loader_agrees.specs.Agrees.{kept_outlines}
use Rattle.loader_users.specs.View.{kept}
use Rattle.loader_users.proofs.users.holder_of.Given as goal

-- the ID is attached to none of the first ones
abbrev pub invariant-users : goal.invariant-users
invariant-users l = holder_from first_id (kept_outlines (map (option_map kept) l.users.items)) l.id
    ≡ holder_from (first_id + l.place) (drop l.place (kept_outlines (map (option_map kept) l.users.items))) l.id
