use Rattle.link_tables.proofs.DefinitionLaws.{seen_elsewhere}
use Rattle.link_tables.proofs.definitions.Definitions.holders.Goals as goal

pub returns : goal.returns
returns c = λ fs are place apart. seen_elsewhere fs c.args.self.now c.args.name.now c.look.result place are c.look.ensures apart
