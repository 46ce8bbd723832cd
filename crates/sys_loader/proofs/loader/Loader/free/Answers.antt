use Rattle.sys_loader.proofs.Script.{free_meets}
use Rattle.sys_loader.proofs.loader.Loader.free.Goals as goal

pub returns-clause-meets : goal.returns-clause-meets
returns-clause-meets c = free_meets c.args.self.now c.release.new.self c.args.h c.release.result c.recall_invariant.ensures c.release.ensures.freed c.release.ensures.refused c.release.ensures.err
