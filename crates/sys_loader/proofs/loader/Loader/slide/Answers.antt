use Rattle.loader_users.specs.View.{loaded}
use Rattle.sys_loader.proofs.Script.{slid_sound}
use Rattle.sys_loader.proofs.loader.Loader.slide.Goals as goal

pub invariant_of-self : goal.invariant_of-self
invariant_of-self c =
    (slid_sound (loaded c.self.inside.banks c.self.inside.users.items) c.compact.new.self c.self.invariant.0 c.compact.ensures.slid, c.self.invariant.1)
