use Rattle.std.proofs.Common.{true}
use Rattle.sys_loader.proofs.Script.{change_meets}
use Rattle.sys_loader.proofs.loader.Loader.lock.Goals as goal

pub returns-clause-meets : goal.returns-clause-meets
returns-clause-meets c = change_meets c.args.self.now c.lock_block.new.self c.args.h (λ block. record block { locked = true }) c.lock_block.result c.recall_invariant.ensures c.lock_block.ensures.changed c.lock_block.ensures.refused c.lock_block.ensures.err
