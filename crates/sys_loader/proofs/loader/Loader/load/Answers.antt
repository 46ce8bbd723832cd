use Rattle.loader_machine.specs.Commands.{Load}
use Rattle.sys_loader.specs.Replies.{load_reply}
use Rattle.sys_loader.proofs.Loads.{loads, meets_of}
use Rattle.sys_loader.proofs.loader.Loader.load.Goals as goal

pub returns-clause-meets : goal.returns-clause-meets
returns-clause-meets g c held state is agrees =
    meets_of held state (Load c.args.path.now) (load_reply c.read_and_begin.result) c.read_and_begin.new.self (g.F.Files.seen c.args.files.now) (g.F.Files.seen c.read_and_begin.new.files)
    (loads (g.F.Files.seen c.args.files.now).held held c.args.self.now c.read_and_begin.new.self state c.args.path.now c.read_and_begin.result
    (g.F.Files.seen c.args.files.now) (g.F.Files.seen c.read_and_begin.new.files) is c.recall_invariant.ensures c.read_and_begin.ensures.loaded agrees)

pub returns-clause-needed : goal.returns-clause-needed
returns-clause-needed g c held state is agrees =
    loads (g.F.Files.seen c.args.files.now).held held c.args.self.now c.read_and_begin.new.self state c.args.path.now c.read_and_begin.result
    (g.F.Files.seen c.args.files.now) (g.F.Files.seen c.read_and_begin.new.files) is c.recall_invariant.ensures c.read_and_begin.ensures.loaded agrees
