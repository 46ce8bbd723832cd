use Rattle.sys_loader.proofs.Script.{compact_meets, others_stay}
use Rattle.sys_loader.proofs.loader.Loader.compact.Goals as goal

pub returns-clause-meets : goal.returns-clause-meets
returns-clause-meets c =
    compact_meets c.args.self.now c.slide.new.self c.recall_invariant.ensures c.slide.ensures.slid.0 c.slide.ensures.slid.1 c.slide.result c.slide.ensures.count

pub returns-clause-others : goal.returns-clause-others
returns-clause-others c = others_stay c.args.self.now c.slide.new.self.memory c.recall_invariant.ensures c.slide.ensures.slid.0
