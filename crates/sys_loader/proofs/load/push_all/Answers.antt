use Rattle.std.proofs.Common.{List, [], ◌∷◌, ◌++◌, length, map, Some, refl, sym, ap, ◌∙◌, arith, append-nil}
use Rattle.std.specs.Prelude.{option_map}
use Rattle.std.proofs.lemmas.List.{length-append}
use Rattle.loader_agrees.specs.Agrees.{LoadedUser}
use Rattle.loader_users.specs.declared.user.User.{User}
use Rattle.loader_users.specs.View.{kept}
use Rattle.sys_loader.proofs.Beginning.{none_left, pushed_more}
use Rattle.sys_loader.proofs.load.push_all.Goals as goal

pub joined-init : goal.joined-init
joined-init c =
    let gives = c.into_iter-user-iterator.ensures.into_iter_gives in (
      ap (λ (items : List User). map (option_map kept) c.args.users.now.items ++ map (λ (k : LoadedUser). Some k) (map kept items)) gives.0,
      refl,
      omega (arith, c.requires, ap length gives.0),
      omega (arith, gives.1, ap length gives.0),
    )

pub push_reserved-requires : goal.push_reserved-requires
push_reserved-requires c = omega (arith, c.joined.invariant.2, ap length c.in-Some.ensures.steps.0)

pub joined-preserved : goal.joined-preserved
joined-preserved c =
    let inv = c.joined.invariant in
    let steps = c.in-Some.ensures.steps in (
      pushed_more c.joined.users.items c.push_reserved.new.self.items c.joined.user-iterator.rest.items c.next.new.self.rest.items c.in-Some.user _ c.push_reserved.ensures.items steps.0 inv.0,
      c.push_reserved.ensures.capacity ∙ inv.1,
      omega (arith, inv.2, ap length steps.0, ap length c.push_reserved.ensures.items ∙ length-append c.joined.users.items (Some c.in-Some.user ∷ []), c.push_reserved.ensures.capacity),
      omega (arith, inv.3, steps.1, ap length steps.0),
    )

pub returns-clause-pushed : goal.returns-clause-pushed
returns-clause-pushed c =
    let inv = c.joined.invariant in
    let none = none_left c.joined.user-iterator.rest.items (omega (arith, inv.3, c.in-None.ensures.steps.0)) in
    sym (append-nil (map (option_map kept) c.joined.users.items))
    ∙ ap (λ (items : List User). map (option_map kept) c.joined.users.items ++ map (λ (k : LoadedUser). Some k) (map kept items)) (sym none) ∙ inv.0

pub returns-clause-room : goal.returns-clause-room
returns-clause-room c = c.joined.invariant.1
