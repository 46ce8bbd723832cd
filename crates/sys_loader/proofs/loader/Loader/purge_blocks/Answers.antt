use Rattle.loader_users.specs.View.{loaded}
use Rattle.sys_loader.proofs.Purging.{purged_sound}
use Rattle.sys_loader.proofs.loader.Loader.purge_blocks.Goals as goal

pub invariant_of-self : goal.invariant_of-self
invariant_of-self c =
    (purged_sound (loaded c.self.inside.banks c.self.inside.users.items) c.purge_user.new.self c.args.user c.purge_user.result c.self.invariant.0 c.purge_user.ensures, c.self.invariant.1)
