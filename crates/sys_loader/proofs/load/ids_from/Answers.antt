use Rattle.std.proofs.Common.{◌+◌, ℕ, List, [], ◌∷◌, ◌++◌, sym, ap, ◌∙◌, arith}
use Rattle.loader_machine.specs.State.{ids_from}
use Rattle.loader_users.proofs.Families.{ids_more}
use Rattle.sys_loader.proofs.load.ids_from.Goals as goal

pub ids-init : goal.ids-init
ids-init c = (omega arith, c.new-ids.ensures.items)

pub ids-preserved : goal.ids-preserved
ids-preserved c = (
  omega (arith, c.ids-test.true),
  c.in_ok-push.ensures.items ∙ ap (λ (l : List ℕ). l ++ (c.args.id + c.ids.place) ∷ []) c.ids.invariant.1 ∙ sym (ids_more c.args.id c.ids.place),
)

pub returns : goal.returns
returns c = c.ids.invariant.1 ∙ ap (ids_from c.args.id) (omega (arith, c.ids-test.false, c.ids.invariant.0))
