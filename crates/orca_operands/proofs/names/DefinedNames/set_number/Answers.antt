use Rattle.orca_operands.proofs.Maps.{small_some}
use Rattle.orca_operands.proofs.names.DefinedNames.set_number.Goals as goal

pub invariant_of-self : goal.invariant_of-self
invariant_of-self c = record { small = small_some c.args.name.now c.args.n c.args.self.now.map c.insert_by_name.new.map c.insert_by_name.result c.ranges.n.fits c.args.self.now.small c.insert_by_name.ensures.ok c.insert_by_name.ensures.err }
