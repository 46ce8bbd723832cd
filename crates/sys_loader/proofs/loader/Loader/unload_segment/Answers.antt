use Rattle.sys_loader.proofs.Unloading.{unloads_meet}
use Rattle.sys_loader.proofs.loader.Loader.unload_segment.Goals as goal

pub returns-clause-meets : goal.returns-clause-meets
returns-clause-meets c = unloads_meet c.args.self.now c.let_go.new.self c.args.user c.args.segment c.let_go.result c.recall_invariant.ensures c.let_go.ensures.did
