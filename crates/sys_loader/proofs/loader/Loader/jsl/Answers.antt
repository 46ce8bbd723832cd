use Rattle.sys_loader.proofs.Followed.{jsls_meet}
use Rattle.sys_loader.proofs.Calling.{calls_enter}
use Rattle.sys_loader.proofs.Needing.{jsl_needs}
use Rattle.sys_loader.proofs.loader.Loader.jsl.Goals as goal

pub returns-clause-meets : goal.returns-clause-meets
returns-clause-meets g c held state is agrees =
    jsls_meet (g.F.Files.seen c.args.files.now).held held c.args.self.now c.follow-entered.new.self state c.args.user c.args.segment c.args.at c.follow-entered.result
    (g.F.Files.seen c.args.files.now).faults (g.F.Files.seen c.follow-entered.new.files).faults is c.recall_invariant.ensures c.recall_blocks_apart.ensures.below c.recall_blocks_apart-2.ensures.below c.follow-entered.ensures.did agrees

pub returns-clause-enters : goal.returns-clause-enters
returns-clause-enters g c held state is agrees target call =
    let before = (g.F.Files.seen c.args.files.now).faults in
    let now = (g.F.Files.seen c.follow-entered.new.files).faults in
    calls_enter held c.args.self.now state agrees c.recall_invariant.ensures c.recall_blocks_apart.ensures.apart c.recall_blocks_apart.ensures.below c.args.user c.args.segment c.args.at target call
    c.follow-entered.result c.follow-entered.new.self before now
    (jsls_meet (g.F.Files.seen c.args.files.now).held held c.args.self.now c.follow-entered.new.self state c.args.user c.args.segment c.args.at c.follow-entered.result
    before now is c.recall_invariant.ensures c.recall_blocks_apart.ensures.below c.recall_blocks_apart-2.ensures.below c.follow-entered.ensures.did agrees)

pub returns-clause-needed : goal.returns-clause-needed
returns-clause-needed g c held state is agrees =
    jsl_needs held c.args.self.now state c.recall_invariant.ensures agrees c.recall_blocks_apart.ensures.apart c.args.user c.args.segment c.args.at c.recall_blocks_apart.ensures.below
    (g.F.Files.seen c.args.files.now).asked (g.F.Files.seen c.follow-entered.new.files).asked c.follow-entered.ensures.asked
