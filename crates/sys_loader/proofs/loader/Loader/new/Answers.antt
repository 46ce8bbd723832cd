use Rattle.std.proofs.Common.{List, Option, map, sym, subst, arith}
use Rattle.std.specs.Prelude.{option_map}
use Rattle.loader_agrees.specs.Agrees.{IsSound}
use Rattle.loader_agrees.specs.laws.Empty.{sound_empty}
use Rattle.loader_users.specs.View.{kept}
use Rattle.loader_users.specs.declared.user.User.{User}
use Rattle.sys_loader.proofs.loader.Loader.new.Goals as goal

pub invariant_of-result : goal.invariant_of-result
invariant_of-result c =
    let none = c.in-Ok.ensures in (
      subst (λ (us : List (Option User)). IsSound c.in_ok-memory.memory (map (option_map kept) us)) (sym none.0) (sound_empty c.in_ok-memory.memory c.in_ok-memory.ensures.made.slots),
      omega (arith, none.1),
    )
