use Rattle.std.proofs.Common.{ℕ, Some, ap, ◌∙◌, map}
use Rattle.std.specs.Prelude.{option_map, slice_set}
use Rattle.loader_machine.specs.declared.seen.Life.TheVariants.{Running}
use Rattle.loader_agrees.specs.Agrees.{LoadedUser}
use Rattle.loader_agrees.specs.laws.Lists.{set_map}
use Rattle.loader_users.specs.View.{kept}
use Rattle.loader_users.specs.declared.user.User.{User}
use Rattle.loader_users.proofs.UserItems.{item_is}
use Rattle.loader_users.proofs.users.set_segments.Goals as goal

pub returns-clause-set : goal.returns-clause-set
returns-clause-set c k made =
    let items = c.args.users.now.items in
    let same = item_is items c.args.id c.from.result c.index_mut.result.now c.in-Some.user k c.from.ensures made c.index_mut.ensures.value c.in-Some.is in
    let runs : LoadedUser → LoadedUser = λ x. record x { life = Running; handles = map (λ s. s.handle) c.args.segments.items; heads = map (λ s. s.head) c.args.segments.items } in
    let after : User = record { path = c.in-Some.user.path; life = Running; segments = c.args.segments; attached = c.in-Some.user.attached } in
    set_map (option_map kept) items c.from.result (Some after)
    ∙ ap (λ (x : LoadedUser). slice_set (map (option_map kept) items) c.from.result (Some (runs x))) same
    ∙ ap (λ (n : ℕ). slice_set (map (option_map kept) items) n (Some (runs k))) c.from.ensures
