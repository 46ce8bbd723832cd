use Rattle.link_tables.specs.Names.{key_of}
use Rattle.link_tables.proofs.DefinitionLaws.{seen_all}
use Rattle.link_tables.proofs.definitions.Definitions.look.Goals as goal

pub returns : goal.returns
returns c = λ fs are. seen_all fs c.args.self.now (key_of c.args.key) c.look.result are c.look.ensures
