use Rattle.sys_loader.proofs.Purging.{purges_meet}
use Rattle.sys_loader.proofs.loader.Loader.purge.Goals as goal

pub returns-clause-meets : goal.returns-clause-meets
returns-clause-meets c = purges_meet c.args.self.now c.purge_blocks.new.self c.args.user c.purge_blocks.result c.recall_invariant.ensures c.purge_blocks.ensures.did
