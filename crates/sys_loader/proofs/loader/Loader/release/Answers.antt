use Rattle.std.proofs.Common.{◌≡◌, sym, subst}
use Rattle.iigs_meaning.specs.Slots.{get}
use Rattle.iigs_meaning.specs.Blocks.{state_of}
use Rattle.loader_agrees.specs.Agrees.{Loaded}
use Rattle.loader_users.specs.View.{loaded}
use Rattle.std.specs.Prelude.{IsSomeAnd}
use Rattle.iigs_meaning.specs.declared.wants.Block.{Block}
use Rattle.sys_loader.proofs.Script.{freed_sound}
use Rattle.sys_loader.proofs.loader.Loader.release.Goals as goal

pub invariant_of-self : goal.invariant_of-self
invariant_of-self c =
    let old = loaded c.self.inside.banks c.self.inside.users.items in (
      freed_sound old c.free.new.self c.args.h c.in_ok-scripts.field-0 c.self.invariant.0
          (subst (λ (l : Loaded). IsSomeAnd (get l.memory.slots c.args.h) (λ (block : Block). (block.user ≡ 0) × (c.in_ok-scripts.field-0 ≡ state_of block))) (sym c.self.view_is) c.in_ok-scripts.ensures.ok) c.in-Ok.ensures.freed,
      c.self.invariant.1,
    )
