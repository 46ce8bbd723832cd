use Rattle.sys_loader.proofs.Activated.{activates_meet}
use Rattle.sys_loader.proofs.Needing.{load_segment_needs}
use Rattle.sys_loader.proofs.loader.Loader.load_segment.Goals as goal

pub returns-clause-meets : goal.returns-clause-meets
returns-clause-meets g c held state is agrees =
    activates_meet (g.F.Files.seen c.args.files.now).held held c.args.self.now c.make_active.new.self state c.args.user c.args.segment c.make_active.result
    (g.F.Files.seen c.args.files.now).faults (g.F.Files.seen c.make_active.new.files).faults is c.recall_invariant.ensures c.make_active.ensures.did agrees

pub returns-clause-needed : goal.returns-clause-needed
returns-clause-needed g c held state is agrees =
    load_segment_needs held c.args.self.now state agrees c.args.user (g.F.Files.seen c.args.files.now).asked (g.F.Files.seen c.make_active.new.files).asked c.args.segment
    c.make_active.ensures.asked c.make_active.ensures.unasked c.make_active.ensures.refused_unasked
