use Rattle.omf_header.specs.View.{fields}
use Rattle.loader_users.proofs.Heading.{count_is}
use Rattle.sys_loader.proofs.load.count_of.Goals as goal

pub returns : goal.returns
returns c = count_is c.requires.taken.0 c.args.load.now c.requires.taken.1 c.count.result (fields c.in-Some.header.now) c.count.ensures c.in-Some.ensures
