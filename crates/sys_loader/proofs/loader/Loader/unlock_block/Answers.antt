use Rattle.std.proofs.Common.{◌≡◌, ℕ, false, Some, refl, sym, subst}
use Rattle.std.specs.Prelude.{IsSomeAnd}
use Rattle.iigs_meaning.specs.declared.wants.Block.{Block}
use Rattle.iigs_meaning.specs.Slots.{get}
use Rattle.loader_agrees.specs.Agrees.{Loaded}
use Rattle.loader_users.specs.View.{loaded}
use Rattle.sys_loader.proofs.Script.{changed_sound}
use Rattle.sys_loader.proofs.loader.Loader.unlock_block.Goals as goal

pub invariant_of-self : goal.invariant_of-self
invariant_of-self c =
    let old = loaded c.self.inside.banks c.self.inside.users.items in (
      changed_sound old c.unlock.new.self c.args.h (λ block. record block { locked = false }) (λ block. refl) c.self.invariant.0
          (subst (λ (l : Loaded). IsSomeAnd (get l.memory.slots c.args.h) (λ (block : Block). (block.user ≡ 0) × ((address : ℕ) × (block.at ≡ Some address)))) (sym c.self.view_is) c.in_ok-changeable.ensures.ok.0) c.in-Ok.ensures.changed,
      c.self.invariant.1,
    )
