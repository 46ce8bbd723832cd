use Rattle.sys_loader.proofs.Restarted.{restarts_meet}
use Rattle.sys_loader.proofs.Needing.{restart_needs}
use Rattle.sys_loader.proofs.loader.Loader.restart.Goals as goal

pub returns-clause-meets : goal.returns-clause-meets
returns-clause-meets g c held state is agrees =
    restarts_meet (g.F.Files.seen c.args.files.now).held held c.args.self.now c.restart_user.new.self state c.args.user c.restart_user.result
    (g.F.Files.seen c.args.files.now).faults (g.F.Files.seen c.restart_user.new.files).faults is c.recall_invariant.ensures c.restart_user.ensures.did agrees

pub returns-clause-needed : goal.returns-clause-needed
returns-clause-needed g c held state is agrees =
    restart_needs held c.args.self.now state agrees c.args.user (g.F.Files.seen c.args.files.now).asked (g.F.Files.seen c.restart_user.new.files).asked
    c.restart_user.ensures.asked c.restart_user.ensures.unasked c.restart_user.ensures.refused_unasked
