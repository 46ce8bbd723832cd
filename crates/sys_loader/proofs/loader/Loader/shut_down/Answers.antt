use Rattle.sys_loader.proofs.Stopping.{keeps_meet, drops_meet}
use Rattle.sys_loader.proofs.loader.Loader.shut_down.Goals as goal

pub returns-then-keep-clause-meets : goal.returns-then-keep-clause-meets
returns-then-keep-clause-meets c = keeps_meet c.args.self.now c.keep_user.new.self c.args.user c.args.keep c.if-keep.true c.keep_user.result c.recall_invariant.ensures c.keep_user.ensures.did

pub returns-else-keep-clause-meets : goal.returns-else-keep-clause-meets
returns-else-keep-clause-meets c = drops_meet c.args.self.now c.drop_user.new.self c.args.user c.args.keep c.if-keep.false c.drop_user.result c.recall_invariant.ensures c.drop_user.ensures.did
