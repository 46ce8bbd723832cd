use Rattle.orca_meaning.specs.laws.OperandLaws.{one_operand}
use Rattle.orca_meaning.proofs.source_laws.operands_are_read_in_one_way.Goals as goal

pub returns : goal.returns
returns c = record { one_operand = one_operand }
