use Rattle.sys_loader.proofs.Script.{change_meets}
use Rattle.sys_loader.proofs.loader.Loader.level.Goals as goal

pub returns-clause-meets : goal.returns-clause-meets
returns-clause-meets c = change_meets c.args.self.now c.set_level.new.self c.args.h (λ block. record block { level = c.args.n }) c.set_level.result c.recall_invariant.ensures c.set_level.ensures.changed c.set_level.ensures.refused c.set_level.ensures.err
