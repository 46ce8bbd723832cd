use Rattle.link_tables.proofs.DefinitionLaws.{got}
use Rattle.link_tables.proofs.definitions.Definitions.get.Goals as goal

pub returns : goal.returns
returns c = λ fs are. got fs c.args.self.now c.args.number c.get.result are c.get.ensures
