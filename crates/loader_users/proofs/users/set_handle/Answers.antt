use Rattle.std.proofs.Common.{ℕ, Some, ap, ◌∙◌, map, arith, length}
use Rattle.std.specs.Prelude.{option_map, slice_set}
use Rattle.std.proofs.lemmas.List.{length-map}
use Rattle.loader_machine.specs.State.{user_of}
use Rattle.loader_agrees.specs.Agrees.{LoadedUser}
use Rattle.loader_agrees.specs.laws.Lists.{set_map}
use Rattle.loader_users.specs.View.{kept}
use Rattle.loader_users.specs.Users.{with_handle}
use Rattle.loader_users.proofs.UserItems.{item_is, some_is}
use Rattle.loader_users.proofs.users.set_handle.Goals as goal

pub set_handle-requires : goal.set_handle-requires
set_handle-requires c =
    let items = c.args.users.now.items in
    let made = some_is (user_of (map (option_map kept) items) c.args.id) c.requires.made in
    let same = item_is items c.args.id c.from.result c.index_mut.result.now c.in-Some.user made.0 c.from.ensures made.1 c.index_mut.ensures.value c.in-Some.is in
    let within = c.requires.inside made.0 made.1 in
    record {
      some = within.0;
      inside = omega (arith, within.1, ap (λ (k : LoadedUser). length k.heads) same, length-map c.in-Some.user.segments.items (λ s. s.head));
    }

pub returns-clause-set : goal.returns-clause-set
returns-clause-set c k made =
    let items = c.args.users.now.items in
    let same = item_is items c.args.id c.from.result c.index_mut.result.now c.in-Some.user k c.from.ensures made c.index_mut.ensures.value c.in-Some.is in
    set_map (option_map kept) items c.from.result (Some c.set_handle.new.self)
    ∙ ap (λ (x : LoadedUser). slice_set (map (option_map kept) items) c.from.result (Some x)) (c.set_handle.ensures ∙ ap (λ (x : LoadedUser). with_handle x c.args.number c.args.h) same)
    ∙ ap (λ (n : ℕ). slice_set (map (option_map kept) items) n (Some (with_handle k c.args.number c.args.h))) c.from.ensures
