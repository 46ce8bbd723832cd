use Rattle.sys_loader.proofs.Poking.{pokes_meet}
use Rattle.sys_loader.proofs.loader.Loader.poke.Goals as goal

pub returns-clause-meets : goal.returns-clause-meets
returns-clause-meets c held state agrees =
    pokes_meet held c.args.self.now c.write_byte.new.self state c.args.user c.args.segment c.args.at c.args.byte c.write_byte.result c.recall_invariant.ensures agrees c.write_byte.ensures.did
