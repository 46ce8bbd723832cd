use Rattle.orca_operands.proofs.Maps.{small_none}
use Rattle.orca_operands.proofs.names.DefinedNames.set_open.Goals as goal

pub invariant_of-self : goal.invariant_of-self
invariant_of-self c = record { small = small_none c.args.name.now c.args.self.now.map c.insert_by_name.new.map c.insert_by_name.result c.args.self.now.small c.insert_by_name.ensures.ok c.insert_by_name.ensures.err }
