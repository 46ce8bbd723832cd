use Rattle.std.proofs.Common.{false}
use Rattle.sys_loader.proofs.Script.{change_meets}
use Rattle.sys_loader.proofs.loader.Loader.unlock.Goals as goal

pub returns-clause-meets : goal.returns-clause-meets
returns-clause-meets c = change_meets c.args.self.now c.unlock_block.new.self c.args.h (λ block. record block { locked = false }) c.unlock_block.result c.recall_invariant.ensures c.unlock_block.ensures.changed c.unlock_block.ensures.refused c.unlock_block.ensures.err
