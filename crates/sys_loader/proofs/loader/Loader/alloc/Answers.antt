use Rattle.sys_loader.proofs.Script.{if_ok, alloc_meets, alloc_refuses}
use Rattle.sys_loader.proofs.loader.Loader.alloc.Goals as goal

pub returns-clause-meets : goal.returns-clause-meets
returns-clause-meets c = if_ok c.put_block.result _ _ c.put_block.ensures.placed
    (λ h did. alloc_meets c.args.self.now c.put_block.new.self c.recall_invariant.ensures c.args.want.now c.args.locked c.args.level c.args.movable h did)

pub returns-clause-refuses : goal.returns-clause-refuses
returns-clause-refuses c = alloc_refuses c.args.self.now c.put_block.new.self c.recall_invariant.ensures c.args.want.now c.args.locked c.args.level c.args.movable c.put_block.result c.put_block.ensures.refused c.put_block.ensures.err
